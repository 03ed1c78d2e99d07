-- The classes of nodes that have a type by themselves: which type it is, and what it takes to have one.
-- Main results: own_result, carries_one, bound_only.
use mathlib.Core.Path.{◌≡◌, refl, ap}
use mathlib.Core.Bool.{Bool, true, false}
use mathlib.Core.List.{List, [], ◌∷◌}
use Prim.Native.Nat.{ℕ}
use native.Mathlib.Omega.{arith}
use lib.Dec.{ltb, eqb}
use borrow.Author.Tests.{eqb-true, ltb-true, ltb-false}
use Rattle.frame.specs.Types.{Ty}
use Rattle.frame.specs.Tags.{
  pick,
  form_at,
  types_of,
  table,
  class_of,
  Class,
  literal_pred,
  equality,
  order,
  membership,
  inclusion,
  binary_pred,
  associative_pred,
  negation,
  quantified_pred,
  finite,
  partition,
  identifier,
  bound,
  literal,
  set_extension,
  maplet,
  relation_set,
  set_minus,
  cartesian,
  direct_product,
  parallel_product,
  domain_restriction,
  range_restriction,
  up_to,
  arithmetic,
  function_image,
  relational_image,
  set_operation,
  backward_composition,
  forward_composition,
  override,
  sum,
  integer_set,
  bool_set,
  truth_value,
  integer_relation,
  empty_set,
  projection1,
  projection2,
  identity,
  bool_expr,
  cardinal,
  powerset,
  generalised,
  domain,
  range,
  extremum,
  converse,
  unary_minus,
  quantified_set,
  comprehension,
  unlisted,
}
use Rattle.frame.specs.Places.{Ctx}
use Rattle.frame.proofs.EveryTag.{along_rows, every_tag, unlisted_past}
use Rattle.typing.specs.Typing.{result}
use Rattle.type_rules.specs.Patterns.{own_types}
use Rattle.std.proofs.Common.{Option, Some, None, subst}
use Rattle.type_rules.specs.CodeRules.{own_at}
use Rattle.type_rules.specs.declared.Own.{Own}
use Rattle.type_rules.specs.declared.Own.TheVariants.{Carried, Bound}
use Rattle.type_rules.proofs.RuleShapes.{head_eq}

-- ---- the classes that have a type by themselves
nil_not {ℓ} : {X : Type ℓ} {u : Ty} {us : List Ty} → ◌≡◌ {A = List Ty} [] (u ∷ us) → X
nil_not e = let z : ◌≡◌ {A = ℕ} 0 1 = cc in absurd (omega arith)

-- which is the node's type
pub own_result : (c : Class) (n : ℕ) (us : List Ty) (Γ : Ctx) (ts : List Ty) (u : Ty) → own_types c n us Γ ≡ u ∷ [] → result c n us Γ ts ≡ u
own_result literal_pred n us Γ ts u e = nil_not e
own_result equality n us Γ ts u e = nil_not e
own_result order n us Γ ts u e = nil_not e
own_result membership n us Γ ts u e = nil_not e
own_result inclusion n us Γ ts u e = nil_not e
own_result binary_pred n us Γ ts u e = nil_not e
own_result associative_pred n us Γ ts u e = nil_not e
own_result negation n us Γ ts u e = nil_not e
own_result quantified_pred n us Γ ts u e = nil_not e
own_result finite n us Γ ts u e = nil_not e
own_result partition n us Γ ts u e = nil_not e
own_result identifier n us Γ ts u e = head_eq e
own_result bound n us Γ ts u e = head_eq e
own_result literal n us Γ ts u e = nil_not e
own_result set_extension n us Γ ts u e = nil_not e
own_result maplet n us Γ ts u e = nil_not e
own_result relation_set n us Γ ts u e = nil_not e
own_result set_minus n us Γ ts u e = nil_not e
own_result cartesian n us Γ ts u e = nil_not e
own_result direct_product n us Γ ts u e = nil_not e
own_result parallel_product n us Γ ts u e = nil_not e
own_result domain_restriction n us Γ ts u e = nil_not e
own_result range_restriction n us Γ ts u e = nil_not e
own_result up_to n us Γ ts u e = nil_not e
own_result arithmetic n us Γ ts u e = nil_not e
own_result function_image n us Γ ts u e = nil_not e
own_result relational_image n us Γ ts u e = nil_not e
own_result set_operation n us Γ ts u e = nil_not e
own_result backward_composition n us Γ ts u e = nil_not e
own_result forward_composition n us Γ ts u e = nil_not e
own_result override n us Γ ts u e = nil_not e
own_result sum n us Γ ts u e = nil_not e
own_result integer_set n us Γ ts u e = nil_not e
own_result bool_set n us Γ ts u e = nil_not e
own_result truth_value n us Γ ts u e = nil_not e
own_result integer_relation n us Γ ts u e = nil_not e
own_result empty_set n us Γ ts u e = head_eq e
own_result projection1 n us Γ ts u e = head_eq e
own_result projection2 n us Γ ts u e = head_eq e
own_result identity n us Γ ts u e = head_eq e
own_result bool_expr n us Γ ts u e = nil_not e
own_result cardinal n us Γ ts u e = nil_not e
own_result powerset n us Γ ts u e = nil_not e
own_result generalised n us Γ ts u e = nil_not e
own_result domain n us Γ ts u e = nil_not e
own_result range n us Γ ts u e = nil_not e
own_result extremum n us Γ ts u e = nil_not e
own_result converse n us Γ ts u e = nil_not e
own_result unary_minus n us Γ ts u e = nil_not e
own_result quantified_set n us Γ ts u e = nil_not e
own_result comprehension n us Γ ts u e = nil_not e
own_result unlisted n us Γ ts u e = nil_not e

-- and which carry one type
pub carries_one : (c : Class) (x : ℕ) → own_at c ≡ Some Carried → types_of (form_at c).layout (form_at c).carried x ≡ 1
unfolding form_at
carries_one literal_pred x e = cc
carries_one equality x e = cc
carries_one order x e = cc
carries_one membership x e = cc
carries_one inclusion x e = cc
carries_one binary_pred x e = cc
carries_one associative_pred x e = cc
carries_one negation x e = cc
carries_one quantified_pred x e = cc
carries_one finite x e = cc
carries_one partition x e = cc
carries_one identifier x e = refl
carries_one bound x e = cc
carries_one literal x e = cc
carries_one set_extension x e = cc
carries_one maplet x e = cc
carries_one relation_set x e = cc
carries_one set_minus x e = cc
carries_one cartesian x e = cc
carries_one direct_product x e = cc
carries_one parallel_product x e = cc
carries_one domain_restriction x e = cc
carries_one range_restriction x e = cc
carries_one up_to x e = cc
carries_one arithmetic x e = cc
carries_one function_image x e = cc
carries_one relational_image x e = cc
carries_one set_operation x e = cc
carries_one backward_composition x e = cc
carries_one forward_composition x e = cc
carries_one override x e = cc
carries_one sum x e = cc
carries_one integer_set x e = cc
carries_one bool_set x e = cc
carries_one truth_value x e = cc
carries_one integer_relation x e = cc
carries_one empty_set x e = refl
carries_one projection1 x e = refl
carries_one projection2 x e = refl
carries_one identity x e = refl
carries_one bool_expr x e = cc
carries_one cardinal x e = cc
carries_one powerset x e = cc
carries_one generalised x e = cc
carries_one domain x e = cc
carries_one range x e = cc
carries_one extremum x e = cc
carries_one converse x e = cc
carries_one unary_minus x e = cc
carries_one quantified_set x e = cc
carries_one comprehension x e = cc
carries_one unlisted x e = cc

is_bound : Option Own → Bool
is_bound (Some Bound) = true
is_bound (Some Carried) = false
is_bound None = false

bound_right : along_rows (λ g c. pick (is_bound (own_at c)) (eqb g 3) true) 902 0 table ≡ true
unfolding is_bound
bound_right = refl

pub bound_only : (g : ℕ) → own_at (class_of g) ≡ Some Bound → (b : Bool) → ltb g 902 ≡ b → g ≡ 3
unfolding is_bound
bound_only g h true e =
    let t = every_tag (λ i c. pick (is_bound (own_at c)) (eqb i 3) true) 902 bound_right g (ltb-true g 902 e) in
    eqb-true g 3 (subst (λ (o : Option Own). pick (is_bound o) (eqb g 3) true ≡ true) h t)
bound_only g h false e =
    let l = ltb-false g 902 e in
    let z : own_at (class_of g) ≡ None = ap own_at (unlisted_past g (omega arith)) in
    cc (h, z)
