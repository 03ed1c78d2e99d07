-- What a form's layout says of its children.
-- Main results: kinds_at (their sorts by the first and the later ones), kinds_rest; sort_back, expression_not, predicate_is (the two
-- sorts); counted_length (`Form::children`).
use Rattle.std.proofs.Common.{◌≡◌, ℕ, zero, suc, ◌<◌, refl, sym, ap, ap₂, ◌∙◌, Bool, true, false, List, [], ◌∷◌, length, arith, leb}
use borrow.Author.Tests.{leb-true}
use Rattle.frame.specs.Tags.{predicate, expression, same_sort, repeat, Layout, these, payload, counted, binding, in_range, sorts_of}
use Rattle.frame.specs.Tags as T
use Rattle.tags.specs.declared.forms.Sort.{Sort}
use Rattle.tags.specs.declared.forms.Form.{Form}
use Rattle.tags.specs.declared.forms.Form.TheVariants.{
  Unlisted,
  LiteralPredicate,
  Relational,
  BinaryPredicate,
  Negation,
  Finite,
  AssociativePredicate,
  Partition,
  QuantifiedPredicate,
  Atomic,
  TypedAtomic,
  BoolExpression,
  UnaryExpression,
  BinaryExpression,
  Identifier,
  BoundIdentifier,
  Literal,
  SetExtension,
  AssociativeExpression,
  QuantifiedExpression,
}
use Rattle.tags.specs.TagCodes.{meant, is_expression, sort_for, sort_code, first_sort, later_sort, kinds_for}
use Rattle.frame.proofs.Inversion.{true_not}
use Rattle.frame.proofs.ReadTrees.{repeat_length}
use Rattle.frame.proofs.Booleans.{both_true}

-- ---- sorts of children: the first, and the later ones, say them all
abbrev few_sorts : List T.Sort → Bool
few_sorts [] = true
few_sorts (e ∷ []) = true
few_sorts (e ∷ d ∷ []) = true
few_sorts (e ∷ d ∷ c ∷ es) = false

-- at most two fixed children; a count that is no zero
abbrev regular : Layout → Bool
regular (these es) = few_sorts es
regular (payload w) = true
regular (counted lo hi e) = leb 1 lo
regular (binding lo hi es) = few_sorts es

regular_at : (f : Form) → regular (meant f).layout ≡ true
regular_at Unlisted = refl
regular_at LiteralPredicate = refl
regular_at Relational = refl
regular_at BinaryPredicate = refl
regular_at Negation = refl
regular_at Finite = refl
regular_at AssociativePredicate = refl
regular_at Partition = refl
regular_at QuantifiedPredicate = refl
regular_at Atomic = refl
regular_at TypedAtomic = refl
regular_at BoolExpression = refl
regular_at UnaryExpression = refl
regular_at BinaryExpression = refl
regular_at Identifier = refl
regular_at BoundIdentifier = refl
regular_at Literal = refl
regular_at SetExtension = refl
regular_at AssociativeExpression = refl
regular_at QuantifiedExpression = refl

pub sort_back : (e : T.Sort) → sort_for (sort_code e) ≡ e
sort_back predicate = refl
sort_back expression = refl

-- an expression is no predicate, and what is none is one
pub expression_not : (e : T.Sort) → is_expression e ≡ true → same_sort e predicate ≡ false
expression_not predicate h = true_not h
expression_not expression h = refl

pub predicate_is : (e : T.Sort) → is_expression e ≡ false → same_sort e predicate ≡ true
predicate_is predicate h = refl
predicate_is expression h = true_not (sym h)

-- the sorts of the children, said by how many they are and by the first and the later sort
pub record Kinds (l : Layout) (x : ℕ) : Type 0 where
  pub first : first_sort (sorts_of l x) ≡ first_sort (sorts_of l 1)
  pub later : later_sort (sorts_of l x) ≡ later_sort (sorts_of l 1)
  pub all : kinds_for (length (sorts_of l x)) (first_sort (sorts_of l x)) (later_sort (sorts_of l x)) ≡ sorts_of l x

few_kinds : (es : List T.Sort) → few_sorts es ≡ true → kinds_for (length es) (first_sort es) (later_sort es) ≡ es
few_kinds [] h = refl
few_kinds (e ∷ []) h = ap (λ (i : T.Sort). i ∷ []) (sort_back e)
few_kinds (e ∷ d ∷ []) h = ap₂ (λ (i j : T.Sort). i ∷ j ∷ []) (sort_back e) (sort_back d)
few_kinds (e ∷ d ∷ c ∷ es) h = true_not h

repeat_kinds : (e : T.Sort) (lo hi x : ℕ) → 0 < x → Kinds (counted lo hi e) x
repeat_kinds e lo hi zero h = absurd (omega arith)
repeat_kinds e lo hi (suc zero) h = record { first = refl; later = refl; all = ap (λ (i : T.Sort). i ∷ []) (sort_back e) }
repeat_kinds e lo hi (suc (suc x)) h = record {
  first = refl;
  later = refl;
  all = ap₂ (λ (i j : T.Sort). i ∷ repeat j (suc (length (repeat e x)))) (sort_back e) (sort_back e) ∙ ap
      (λ (n : ℕ). e ∷ repeat e (suc n)) (repeat_length e x);
}

pub layout_kinds : (l : Layout) (x : ℕ) → regular l ≡ true → in_range l x ≡ true → Kinds l x
layout_kinds (these es) x r h = record { first = refl; later = refl; all = few_kinds es r }
layout_kinds (payload w) x r h = record { first = refl; later = refl; all = refl }
layout_kinds (counted lo hi e) x r h =
    let a = leb-true 1 lo r in
    let b = leb-true lo x (both_true (leb lo x) (leb x hi) h).0 in
    repeat_kinds e lo hi x (omega arith)
layout_kinds (binding lo hi es) x r h = record { first = refl; later = refl; all = few_kinds es r }

pub kinds_at : (f : Form) (x : ℕ) → in_range (meant f).layout x ≡ true → Kinds (meant f).layout x
kinds_at f x r = layout_kinds (meant f).layout x (regular_at f) r

-- the children after the first
pub kinds_rest : (n : ℕ) (b : Sort) → repeat (sort_for b) n ≡ kinds_for n b b
kinds_rest zero b = refl
kinds_rest (suc n) b = refl
