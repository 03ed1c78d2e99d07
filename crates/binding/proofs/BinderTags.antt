-- Number 8: which forms have binders, and which entries of the table of leaves matter.
-- Main results: leaves_same (only the entries of a tree's own places matter), under_plain, under_binding; bound_tag, other_tag.
use mathlib.Core.Path.{◌≡◌, refl, sym, ap, ◌∙◌, subst}
use mathlib.Core.Logic.{◌⊎◌, inl, inr}
use mathlib.Core.Bool.{Bool, true, false, not, ◌||◌}
use mathlib.Core.List.{List, []}
use Prim.Native.Nat.{ℕ, suc, ◌+◌, ◌≤◌}
use native.Mathlib.Omega.{arith}
use lib.ListN.{get_or}
use lib.Dec.{eqb, ltb}
use denote.Enum.Bare.{sameb, true_same}
use borrow.Author.Tests.{eqb-true, ltb-true, ltb-false}
use Rattle.frame.specs.Types.{Ty}
use Rattle.frame.specs.Trees.{head, Tree, node, Forest, nil, cons, nodes, nodes_in}
use Rattle.frame.specs.Tags as T
use Rattle.frame.specs.Tags.{pick, form_of, Class, class_of, lookup, table, binders_of}
use Rattle.frame.specs.Operators.{#BoundIdent}
use Rattle.tags.specs.declared.forms.Form.{Form}
use Rattle.tags.specs.declared.forms.Form.TheVariants.{
  Unlisted,
  LiteralPredicate,
  Relational,
  BinaryPredicate,
  Negation,
  Finite,
  AssociativePredicate,
  Partition,
  QuantifiedPredicate,
  Atomic,
  TypedAtomic,
  BoolExpression,
  UnaryExpression,
  BinaryExpression,
  Identifier,
  BoundIdentifier,
  Literal,
  SetExtension,
  AssociativeExpression,
  QuantifiedExpression,
}
use Rattle.tags.specs.contracts.forms.Form.{the_type}
use Rattle.tags.specs.TagCodes.{meant, form_code}
use Rattle.frame.specs.Places.{Ctx, push, under}
use Rattle.tags.proofs.TagTables.{beyond, code_form}
use Rattle.frame.proofs.EveryTag.{along_rows, every_tag}
use Rattle.typing.specs.Typing.{type_at}
use Rattle.heads.specs.Leaves.{LeavesAt, LeavesIn}
use Rattle.binding.specs.Bound.{Below}
use Rattle.binding.proofs.OpenBinders.{TyAt}

-- ---- the table's entries at other places play no part
pub leaf_same : (s : List ℕ) (b : Bool) (x y : ℕ) (t : Ty) → x ≡ y → pick {X = Type 0} b (TyAt s x t) (Unit {0})
    → pick {X = Type 0} b (TyAt s y t) (Unit {0})
leaf_same s b x y t e a = subst (λ (i : ℕ). pick {X = Type 0} b (TyAt s i t) (Unit {0})) e a

mutual
  unfolding LeavesAt nodes

  pub leaves_same : (t : Tree) (Γ : Ctx) (k : ℕ) (s l m : List ℕ) (j : ℕ) → k + nodes t ≤ j → Below j l m → LeavesAt t Γ k s l → LeavesAt t Γ k s m
  leaves_same (node (head g n us) ks) Γ k s l m j le h a = (
    leaf_same s (eqb g #BoundIdent) (get_or l k 0) (get_or m k 0) (type_at Γ n) (sym (h k (omega arith))) a.0,
    leaves_same_in ks
        (under g us Γ) (suc k) s l m j (omega arith) h a.1,
  )

  pub leaves_same_in : (ts : Forest) (Γ : Ctx) (k : ℕ) (s l m : List ℕ) (j : ℕ) → k + nodes_in ts ≤ j → Below j l m
      → LeavesIn ts Γ k s l → LeavesIn ts Γ k s m
  leaves_same_in nil Γ k s l m j le h a = tt
  leaves_same_in (cons t ts) Γ k s l m j le h a =
      (leaves_same t Γ k s l m j (omega arith) h a.0, leaves_same_in ts Γ (k + nodes t) s l m j (omega arith) h a.1)

-- ---- which forms have binders
abbrev pub Binding : Form → Type 0
Binding f = (f ≡ QuantifiedPredicate) ⊎ (f ≡ QuantifiedExpression)

plain_form : (f : Form) (us : List Ty) → (f ≡ QuantifiedPredicate → ⊥) → (f ≡ QuantifiedExpression → ⊥) → [] ≡ binders_of (meant f).layout us
plain_form Unlisted us p e = refl
plain_form LiteralPredicate us p e = refl
plain_form Relational us p e = refl
plain_form BinaryPredicate us p e = refl
plain_form Negation us p e = refl
plain_form Finite us p e = refl
plain_form AssociativePredicate us p e = refl
plain_form Partition us p e = refl
plain_form QuantifiedPredicate us p e = absurd (p refl)
plain_form Atomic us p e = refl
plain_form TypedAtomic us p e = refl
plain_form BoolExpression us p e = refl
plain_form UnaryExpression us p e = refl
plain_form BinaryExpression us p e = refl
plain_form Identifier us p e = refl
plain_form BoundIdentifier us p e = refl
plain_form Literal us p e = refl
plain_form SetExtension us p e = refl
plain_form AssociativeExpression us p e = refl
plain_form QuantifiedExpression us p e = absurd (e refl)

binding_form : (f : Form) (us : List Ty) → Binding f → us ≡ binders_of (meant f).layout us
binding_form f us (inl e) = subst (λ (d : Form). us ≡ binders_of (meant d).layout us) (sym e) refl
binding_form f us (inr e) = subst (λ (d : Form). us ≡ binders_of (meant d).layout us) (sym e) refl

-- the tag of a bound identifier, and no other, has its form
bound_test : ℕ → Class → Bool
bound_test t c = eqb t #BoundIdent || not (sameb the_type BoundIdentifier (form_code c))

bound_tests : along_rows bound_test 902 0 table ≡ true
unfolding form_code bound_test
bound_tests = refl

left_of : (b c : Bool) → c ≡ true → (b || not c) ≡ true → b ≡ true
left_of true c e h = refl
left_of false true e h = h
left_of false false e h = e

module _ (g : ℕ) (f : Form) (is : f ≡ form_code (class_of g)) where
  formed : meant f ≡ form_of g
  formed = code_form g f is

  pub under_plain : (f ≡ QuantifiedPredicate → ⊥) → (f ≡ QuantifiedExpression → ⊥) → (us : List Ty) (Γ : Ctx) → Γ ≡ under g us Γ
  under_plain p e us Γ = ap (λ (ts : List Ty). push ts Γ) (plain_form f us p e ∙ ap (λ (d : T.Form). binders_of d.layout us) formed)

  pub under_binding : Binding f → (us : List Ty) (Γ : Ctx) → push us Γ ≡ under g us Γ
  under_binding b us Γ = ap (λ (ts : List Ty). push ts Γ) (binding_form f us b ∙ ap (λ (d : T.Form). binders_of d.layout us) formed)

  pub bound_tag : f ≡ BoundIdentifier → g ≡ #BoundIdent
  unfolding bound_test
  bound_tag e = go (ltb g 902) refl
    where
      go : (b : Bool) → ltb g 902 ≡ b → g ≡ #BoundIdent
      go true l =
          let z : BoundIdentifier ≡ form_code (class_of g) = sym e ∙ is in
          eqb-true g #BoundIdent (left_of (eqb g #BoundIdent) (sameb the_type BoundIdentifier (form_code (class_of g)))
          (true_same the_type BoundIdentifier (form_code (class_of g)) z) (every_tag bound_test 902 bound_tests g (ltb-true g 902 l)))
      go false l =
          let h = ltb-false g 902 l in
          let z : BoundIdentifier ≡ Unlisted = sym e ∙ is ∙ beyond g (omega arith) in
          absurd (cc)

  pub other_tag : (f ≡ BoundIdentifier → ⊥) → g ≡ #BoundIdent → ⊥
  unfolding form_code class_of lookup
  other_tag d e = d (is ∙ ap (λ (t : ℕ). form_code (class_of t)) e)
