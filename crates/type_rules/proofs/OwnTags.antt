-- Where nodes have their type from: which type it is, and which tags are those of nodes that have it from themselves.
-- Main results: own_types_by; none_off.
use mathlib.Core.Path.{◌≡◌, refl, sym, ap}
use mathlib.Core.Bool.{Bool, true, false}
use mathlib.Core.List.{List}
use Prim.Native.Nat.{ℕ}
use native.Mathlib.Omega.{arith}
use lib.Dec.{ltb, eqb}
use borrow.Author.Tests.{ltb-true, ltb-false, ne_eqb}
use Rattle.frame.specs.Types.{Ty}
use Rattle.frame.specs.Tags.{
  pick,
  table,
  class_of,
  Class,
  literal_pred,
  equality,
  order,
  membership,
  inclusion,
  binary_pred,
  associative_pred,
  negation,
  quantified_pred,
  finite,
  partition,
  identifier,
  bound,
  literal,
  set_extension,
  maplet,
  relation_set,
  set_minus,
  cartesian,
  direct_product,
  parallel_product,
  domain_restriction,
  range_restriction,
  up_to,
  arithmetic,
  function_image,
  relational_image,
  set_operation,
  backward_composition,
  forward_composition,
  override,
  sum,
  integer_set,
  bool_set,
  truth_value,
  integer_relation,
  empty_set,
  projection1,
  projection2,
  identity,
  bool_expr,
  cardinal,
  powerset,
  generalised,
  domain,
  range,
  extremum,
  converse,
  unary_minus,
  quantified_set,
  comprehension,
  unlisted,
}
use Rattle.frame.specs.Places.{Ctx}
use Rattle.frame.proofs.EveryTag.{along_rows, every_tag, unlisted_past}
use Rattle.frame.proofs.Inversion.{true_not}
use Rattle.std.proofs.Common.{Option, Some, None}
use Rattle.type_rules.specs.Patterns.{own_types}
use Rattle.type_rules.specs.CodeRules.{own_at, own_by}
use Rattle.type_rules.specs.declared.Own.{Own}

-- which type it is, by class
pub own_types_by : (c : Class) (n : ℕ) (us : List Ty) (Γ : Ctx) → own_types c n us Γ ≡ own_by (own_at c) n us Γ
own_types_by literal_pred n us Γ = refl
own_types_by equality n us Γ = refl
own_types_by order n us Γ = refl
own_types_by membership n us Γ = refl
own_types_by inclusion n us Γ = refl
own_types_by binary_pred n us Γ = refl
own_types_by associative_pred n us Γ = refl
own_types_by negation n us Γ = refl
own_types_by quantified_pred n us Γ = refl
own_types_by finite n us Γ = refl
own_types_by partition n us Γ = refl
own_types_by identifier n us Γ = refl
own_types_by bound n us Γ = refl
own_types_by literal n us Γ = refl
own_types_by set_extension n us Γ = refl
own_types_by maplet n us Γ = refl
own_types_by relation_set n us Γ = refl
own_types_by set_minus n us Γ = refl
own_types_by cartesian n us Γ = refl
own_types_by direct_product n us Γ = refl
own_types_by parallel_product n us Γ = refl
own_types_by domain_restriction n us Γ = refl
own_types_by range_restriction n us Γ = refl
own_types_by up_to n us Γ = refl
own_types_by arithmetic n us Γ = refl
own_types_by function_image n us Γ = refl
own_types_by relational_image n us Γ = refl
own_types_by set_operation n us Γ = refl
own_types_by backward_composition n us Γ = refl
own_types_by forward_composition n us Γ = refl
own_types_by override n us Γ = refl
own_types_by sum n us Γ = refl
own_types_by integer_set n us Γ = refl
own_types_by bool_set n us Γ = refl
own_types_by truth_value n us Γ = refl
own_types_by integer_relation n us Γ = refl
own_types_by empty_set n us Γ = refl
own_types_by projection1 n us Γ = refl
own_types_by projection2 n us Γ = refl
own_types_by identity n us Γ = refl
own_types_by bool_expr n us Γ = refl
own_types_by cardinal n us Γ = refl
own_types_by powerset n us Γ = refl
own_types_by generalised n us Γ = refl
own_types_by domain n us Γ = refl
own_types_by range n us Γ = refl
own_types_by extremum n us Γ = refl
own_types_by converse n us Γ = refl
own_types_by unary_minus n us Γ = refl
own_types_by quantified_set n us Γ = refl
own_types_by comprehension n us Γ = refl
own_types_by unlisted n us Γ = refl

abbrev has_own : Option Own → Bool
has_own None = false
has_own (Some k) = true

abbrev own_tag : ℕ → Bool
own_tag t =
    pick (eqb t 1) true (pick (eqb t 3) true (pick (eqb t 407) true (pick (eqb t 410) true (pick (eqb t 411) true (eqb t 412)))))

-- every tag up to the last that is listed, by one evaluation
own_right : along_rows (λ t c. pick (has_own (own_at c)) (own_tag t) true) 902 0 table ≡ true
own_right = refl

not_own : (b o : Bool) → pick b o true ≡ true → o ≡ false → b ≡ false
not_own true true e h = true_not (sym h)
not_own true false e h = true_not e
not_own false o e h = refl

no_own : (t : ℕ) → own_tag t ≡ false → (b : Bool) → ltb t 902 ≡ b → has_own (own_at (class_of t)) ≡ false
no_own t h true e =
    not_own (has_own (own_at (class_of t))) (own_tag t) (every_tag (λ t c. pick (has_own (own_at c)) (own_tag t) true) 902 own_right t (ltb-true t 902 e)) h
no_own t h false e = let i = ltb-false t 902 e in ap (λ (c : Class). has_own (own_at c)) (unlisted_past t (omega arith))

none_of : (o : Option Own) → has_own o ≡ false → o ≡ None
none_of None e = refl
none_of (Some k) e = true_not (sym e)

pub none_off : (t : ℕ) → (t ≡ 1 → ⊥) → (t ≡ 3 → ⊥) → (t ≡ 407 → ⊥) → (t ≡ 410 → ⊥) → (t ≡ 411 → ⊥) → (t ≡ 412 → ⊥) → own_at (class_of t) ≡ None
none_off t a b c d e f =
    none_of (own_at (class_of t))
    (no_own t (simp (ne_eqb t 1 a, ne_eqb t 3 b, ne_eqb t 407 c, ne_eqb t 410 d, ne_eqb t 411 e, ne_eqb t 412 f)) (ltb t 902) refl)
