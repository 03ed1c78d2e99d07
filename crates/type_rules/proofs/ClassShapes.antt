-- A class and its rule: the shape of the type that a node carries, what it is for the two definitions to agree, and operands by their number.
-- Main results: shape_for, Holds, none_of, one_of, two_of, some_of_lem.
use mathlib.Core.Path.{◌≡◌, refl, ap, ◌∙◌}
use mathlib.Core.Bool.{Bool, true, false, ◌&&◌}
use mathlib.Core.List.{List, [], ◌∷◌, ◌++◌}
use Prim.Native.Nat.{ℕ, ◌<◌}
use native.Mathlib.Omega.{arith}
use lib.ListN.{length}
use lib.Dec.{leb}
use borrow.Author.Tests.{leb-true}
use Rattle.frame.specs.Types.{Ty, pow, prod}
use Rattle.frame.specs.Tags.{
  pick,
  Class,
  literal_pred,
  equality,
  order,
  membership,
  inclusion,
  binary_pred,
  associative_pred,
  negation,
  quantified_pred,
  finite,
  partition,
  identifier,
  bound,
  literal,
  set_extension,
  maplet,
  relation_set,
  set_minus,
  cartesian,
  direct_product,
  parallel_product,
  domain_restriction,
  range_restriction,
  up_to,
  arithmetic,
  function_image,
  relational_image,
  set_operation,
  backward_composition,
  forward_composition,
  override,
  sum,
  integer_set,
  bool_set,
  truth_value,
  integer_relation,
  empty_set,
  projection1,
  projection2,
  identity,
  bool_expr,
  cardinal,
  powerset,
  generalised,
  domain,
  range,
  extremum,
  converse,
  unary_minus,
  quantified_set,
  comprehension,
  unlisted,
}
use Rattle.frame.specs.Encoding.{enc_ty}
use Rattle.frame.specs.Places.{Ctx}
use Rattle.frame.specs.Sameness.{same_ty, same_tys}
use Rattle.frame.proofs.Booleans.{both_true}
use Rattle.frame.proofs.SameTrees.{same_ty_refl}
use Rattle.typing.specs.Typing.{element, source, relation, first, second, wants, result, carried_ty}
use Rattle.type_rules.specs.Patterns.{rule_at, own_types, Judged, wrong, limited, judge}

-- ---- the classes
-- the shape that the type has that a node of a class carries
abbrev pub shape_for : Class → Ty → Ty
shape_for literal_pred t = t
shape_for equality t = t
shape_for order t = t
shape_for membership t = t
shape_for inclusion t = t
shape_for binary_pred t = t
shape_for associative_pred t = t
shape_for negation t = t
shape_for quantified_pred t = t
shape_for finite t = t
shape_for partition t = t
shape_for identifier t = t
shape_for bound t = t
shape_for literal t = t
shape_for set_extension t = t
shape_for maplet t = t
shape_for relation_set t = t
shape_for set_minus t = t
shape_for cartesian t = t
shape_for direct_product t = t
shape_for parallel_product t = t
shape_for domain_restriction t = t
shape_for range_restriction t = t
shape_for up_to t = t
shape_for arithmetic t = t
shape_for function_image t = t
shape_for relational_image t = t
shape_for set_operation t = t
shape_for backward_composition t = t
shape_for forward_composition t = t
shape_for override t = t
shape_for sum t = t
shape_for integer_set t = t
shape_for bool_set t = t
shape_for truth_value t = t
shape_for integer_relation t = t
shape_for empty_set t = pow (element t)
shape_for projection1 t = relation (prod (first (source t)) (second (source t))) (first (source t))
shape_for projection2 t = relation (prod (first (source t)) (second (source t))) (second (source t))
shape_for identity t = relation (source t) (source t)
shape_for bool_expr t = t
shape_for cardinal t = t
shape_for powerset t = t
shape_for generalised t = t
shape_for domain t = t
shape_for range t = t
shape_for extremum t = t
shape_for converse t = t
shape_for unary_minus t = t
shape_for quantified_set t = t
shape_for comprehension t = t
shape_for unlisted t = t

abbrev pub Holds : Class → ℕ → List Ty → Ctx → List Ty → Type 0
Holds c n us Γ ts =
    judge (rule_at c) (own_types c n us Γ ++ ts)
    ≡ pick (same_tys ts (wants c ts)) (pick (same_ty (carried_ty us) (shape_for c (carried_ty us))) (limited (enc_ty (result c n us Γ ts))) wrong) wrong

-- ---- one lemma for each class
pub plain : (c : Class) (n : ℕ) (us : List Ty) (Γ : Ctx) (vs ts : List Ty)
    → judge (rule_at c) vs ≡ pick (same_tys ts (wants c ts)) (limited (enc_ty (result c n us Γ ts))) wrong
    → judge (rule_at c) vs ≡ pick (same_tys ts (wants c ts))
    (pick (same_ty (carried_ty us) (carried_ty us)) (limited (enc_ty (result c n us Γ ts))) wrong) wrong
plain c n us Γ vs ts e = rw (same_ty_refl (carried_ty us)) e

pub single : (t w : Ty) (j v : Judged) → j ≡ pick (same_ty t w) v wrong → j ≡ pick (same_tys (t ∷ []) (w ∷ [])) v wrong
unfolding same_tys
single t w j v e = e ∙ ap (λ (b : Bool). pick b v wrong) (joined (same_ty t w))
  where
    joined : (b : Bool) → b ≡ (b && true)
    joined true = refl
    joined false = refl

pub none_of : (P : List Ty → Type 0) (ts : List Ty) → length ts ≡ 0 → P [] → P ts
none_of P [] h f = f
none_of P (t ∷ ts) h f = absurd (omega arith)

pub one_of : (P : List Ty → Type 0) (ts : List Ty) → length ts ≡ 1 → ((t : Ty) → P (t ∷ [])) → P ts
one_of P [] h f = absurd (omega arith)
one_of P (t ∷ []) h f = f t
one_of P (t ∷ u ∷ ts) h f = absurd (omega arith)

pub two_of : (P : List Ty → Type 0) (ts : List Ty) → length ts ≡ 2 → ((t u : Ty) → P (t ∷ u ∷ [])) → P ts
two_of P [] h f = absurd (omega arith)
two_of P (t ∷ []) h f = absurd (omega arith)
two_of P (t ∷ u ∷ []) h f = f t u
two_of P (t ∷ u ∷ v ∷ ts) h f = absurd (omega arith)

pub some_of_lem : (P : List Ty → Type 0) (ts : List Ty) → 0 < length ts → ((t : Ty) (us : List Ty) → P (t ∷ us)) → P ts
some_of_lem P [] h f = absurd (omega arith)
some_of_lem P (t ∷ ts) h f = f t ts

-- a count in its range is no zero
pub counted_some : (lo hi x : ℕ) (ts : List Ty) (k : ℕ) → length ts ≡ k → k ≡ x → 0 < lo → (leb lo x && leb x hi) ≡ true → 0 < length ts
counted_some lo hi x ts k h e l r = let z = leb-true lo x (both_true (leb lo x) (leb x hi) r).0 in omega arith
