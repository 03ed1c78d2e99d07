-- Every equation makes a lighter predicate.
-- Main results: equation_falls (the right side of an equation weighs less than its left side).
use mathlib.Core.Path.{◌≡◌, refl, ap}
use mathlib.Core.Bool.{true, ◌&&◌, and-eq-true_iff}
use mathlib.Core.Logic.{◌⊎◌, inl, inr}
use mathlib.Core.List.{List, []}
use Prim.Native.Nat.{ℕ, suc, ◌+◌, ◌*◌, ◌≤◌, ◌<◌, zero}
use native.Mathlib.Nat.{mul-lt-mul_of_pos_left, mul-le-mul_left}
use native.Mathlib.Omega.{arith}
use lib.Dec.{leb, leb→le}
use lib.ListN.{length}
use Rattle.frame.specs.Types.{Ty, prod}
use Rattle.frame.specs.Trees.{Tree, Forest, nil, cons, count, leaf, two, many, map_f}
use Rattle.frame.specs.Tags.{predicate, expression, class_of, lookup, form_at}
use Rattle.frame.specs.Operators.{#BUnion, #CProd}
use Rattle.frame.specs.Places.{Ctx}
use Rattle.typing.specs.Typing.{type_of, element}
use Rattle.typing.specs.Accepted.{Accepted}
use Rattle.rules.specs.Equations.{
  Among,
  Junction,
  conjunction,
  disjunction,
  Dropped,
  done,
  SIMP_SPECIAL_AND_BTRUE/SIMP_SPECIAL_OR_BFALSE,
  SIMP_MULTI_AND/SIMP_MULTI_OR,
  Opposite,
  negated,
  restored,
  ⋀,
  ⋁,
  ∀ᵖ,
  ∃ᵖ,
  fin,
  ◌⇒◌,
  SIMP_SPECIAL_FINITE,
  SIMP_FINITE_NATURAL,
  SIMP_FINITE_NATURAL1,
  SIMP_FINITE_INTEGER,
  SIMP_FINITE_BOOL,
  SIMP_FINITE_ID,
  SIMP_FINITE_SETENUM,
  SIMP_FINITE_BUNION,
  SIMP_FINITE_POW,
  DERIV_FINITE_CPROD,
  SIMP_FINITE_CONVERSE,
  SIMP_FINITE_UPTO,
  SIMP_FINITE_LAMBDA,
  SIMP_FINITE_ID_DOMRES,
  SIMP_FINITE_PRJ1_DOMRES,
  SIMP_FINITE_PRJ2_DOMRES,
  SIMP_FINITE_PRJ1,
  SIMP_FINITE_PRJ2,
  SIMP_EMPTY_PARTITION,
  SIMP_SINGLE_PARTITION,
  SIMP_NOT_LE,
  SIMP_NOT_GE,
  SIMP_NOT_GT,
  SIMP_NOT_LT,
  SIMP_SPECIAL_NOT_EQUAL_FALSE_R,
  SIMP_SPECIAL_NOT_EQUAL_TRUE_R,
  SIMP_SPECIAL_NOT_EQUAL_FALSE_L,
  SIMP_SPECIAL_NOT_EQUAL_TRUE_L,
  SIMP_SPECIAL_AND_BFALSE/SIMP_SPECIAL_OR_BTRUE,
  SIMP_MULTI_AND_NOT/SIMP_MULTI_OR_NOT,
  dropped_all,
  dropped_but_one,
  dropped_some,
  SIMP_SPECIAL_IMP_BTRUE_L,
  SIMP_SPECIAL_IMP_BFALSE_L,
  SIMP_SPECIAL_IMP_BTRUE_R,
  SIMP_SPECIAL_IMP_BFALSE_R,
  SIMP_MULTI_IMP,
  SIMP_MULTI_IMP_AND,
  SIMP_MULTI_IMP_AND_NOT_R/SIMP_MULTI_IMP_AND_NOT_L,
  SIMP_MULTI_IMP_NOT_L,
  SIMP_MULTI_IMP_NOT_R,
  SIMP_SPECIAL_EQV_BTRUE/right,
  SIMP_SPECIAL_EQV_BTRUE/left,
  SIMP_MULTI_EQV,
  SIMP_SPECIAL_EQV_BFALSE/right,
  SIMP_SPECIAL_EQV_BFALSE/left,
  SIMP_MULTI_EQV_NOT/right,
  SIMP_MULTI_EQV_NOT/left,
  SIMP_SPECIAL_NOT_BTRUE,
  SIMP_SPECIAL_NOT_BFALSE,
  SIMP_NOT_NOT,
  SIMP_FORALL_AND,
  SIMP_EXISTS_OR,
  SIMP_EXISTS_IMP,
}
use Rattle.rules.specs.Equations.{Emptiness, is-∅, in-∅, ∅-is, Fullness, is_Ty, Ty_is, Equation, equal_type, equal_empty}
use Rattle.rules.proofs.LogicAccepted.{emptiness_accepted, fullness_accepted}
use Rattle.weight.specs.Weight.{type_weight, scale_in, scale_of, weigh, weight, sum_of}
use Rattle.weight.proofs.Positive.{both_positive, type_two, type_weight_lem, weight_positive, product_positive}
use Rattle.weight.proofs.Forests.{least_kids, pair_two, least_twos, sum_map, sum_at, twos_sum}
use Rattle.weight.proofs.Empties.{empties_fall}
use Rattle.weight.proofs.Fills.{fills_fall}

-- ---- ∧ and ∨
sum_count : (ks : Forest) → count ks ≤ sum_of ks
unfolding weight
sum_count nil = omega arith
sum_count (cons t ts) = omega (arith, weight_positive t, sum_count ts)

among_light : (q : Tree) (ks : Forest) → Among q ks → weight q ≤ sum_of ks
unfolding weight
among_light q nil h = absurd h
among_light q (cons k ks) (inl e) = omega (arith, ap weight e)
among_light q (cons k ks) (inr h) = omega (arith, among_light q ks h)

-- what is left after some operands are dropped is lighter
pub dropped_light : {n : ℕ} {ks ls : Forest} → Dropped n ks ls → sum_of ls ≤ sum_of ks
dropped_light (done ks) = omega arith
dropped_light {n} (SIMP_SPECIAL_AND_BTRUE/SIMP_SPECIAL_OR_BFALSE ks ls left right e d) = omega (arith, dropped_light d, ap sum_of e, sum_at left (leaf n) right)
dropped_light (SIMP_MULTI_AND/SIMP_MULTI_OR ks ls left right q e h d) = omega (arith, dropped_light d, ap sum_of e, sum_at left q right)

pub dropped_falls : {n : ℕ} {ks ls : Forest} → Dropped n ks ls → (ls ≡ ks) ⊎ (sum_of ls < sum_of ks)
dropped_falls (done ks) = inl refl
dropped_falls {n} (SIMP_SPECIAL_AND_BTRUE/SIMP_SPECIAL_OR_BFALSE ks ls left right e d) = inr (omega
    (arith, dropped_light d, ap sum_of e, sum_at left (leaf n) right, weight_positive (leaf n)))
dropped_falls (SIMP_MULTI_AND/SIMP_MULTI_OR ks ls left right q e h d) = inr (omega (arith, dropped_light d, ap sum_of e, sum_at left q right, weight_positive q))

junction_weight : {g n d : ℕ} (ks : Forest) → Junction g n d → weight (many g ks) ≡ sum_of ks + 1
unfolding weight scale_of scale_in weigh
junction_weight ks conjunction = refl
junction_weight ks disjunction = refl

neutral_weight : {g n d : ℕ} → Junction g n d → weight (leaf n) ≡ 1
unfolding weight scale_of scale_in weigh
neutral_weight conjunction = refl
neutral_weight disjunction = refl

absorbing_weight : {g n d : ℕ} → Junction g n d → weight (leaf d) ≡ 1
unfolding weight scale_of scale_in weigh
absorbing_weight conjunction = refl
absorbing_weight disjunction = refl

-- a number is in a layout's range
at_least : (k m n : ℕ) → leb k n && leb n m ≡ true → k ≤ n
at_least k m n e = leb→le k n (rw ((and-eq-true_iff (leb k n) (leb n m)).0 e).0 tt)

opposite_light : {p n : Tree} → Opposite p n → weight n ≤ weight p + 1
unfolding weight scale_of scale_in weigh
opposite_light (negated p) = omega arith
opposite_light (restored p) = omega arith

-- ---- numbers
-- 6 a + 6 b + 2 < 4 (a b + 3)
finite_falls : (a b : ℕ) → 2 ≤ a → 2 ≤ b → 6 * a + 6 * b + 2 < 4 * (a * b + 3)
finite_falls zero b ha hb = absurd (omega arith)
finite_falls (suc zero) b ha hb = absurd (omega arith)
finite_falls (suc (suc a)) zero ha hb = absurd (omega arith)
finite_falls (suc (suc a)) (suc zero) ha hb = absurd (omega arith)
finite_falls (suc (suc a)) (suc (suc b)) ha hb = omega arith

-- (n + 1) p e < (n + 1) p (e f + 1)
lambda_falls : (n e : ℕ) {p f : ℕ} → 1 ≤ p → 1 ≤ f → suc n * (p * e) < suc n * (p * (e * f + 1))
lambda_falls n e {p} {f} hp hf =
    mul-lt-mul_of_pos_left {k = suc n} (mul-lt-mul_of_pos_left {k = p} (omega (arith, mul-le-mul_left e hf)) hp) (omega arith)

junction_falls : {g n d : ℕ} (ps qs : Forest) → Junction g n d → (qs ≡ ps) ⊎ (sum_of qs < sum_of ps) → (qs ≡ ps → ⊥)
    → weight (many g qs) < weight (many g ps)
junction_falls ps qs j (inl e) c = absurd (c e)
junction_falls ps qs j (inr h) c = omega (arith, junction_weight ps j, junction_weight qs j)

-- ---- E = ∅ and E = Ty
module _ (σ : ℕ → Ty) (Γ : Ctx) where
  emptiness_weight : {e l : Tree} → Emptiness e l → weight l ≡ 2 * weight e
  unfolding weight scale_of scale_in weigh
  emptiness_weight (is-∅ e t) = omega arith
  emptiness_weight (in-∅ e t) = omega arith
  emptiness_weight (∅-is e t) = omega arith

  fullness_weight : {e l : Tree} → Fullness Γ e l → weight l ≡ weight e * type_weight (element (type_of e Γ))
  unfolding weight scale_of scale_in weigh
  fullness_weight (is_Ty e) = rw type_weight_lem (omega arith)
  fullness_weight (Ty_is e) = rw type_weight_lem (omega arith)

  -- ---- finite, quantifiers
  finite_accepted : (s : Tree) → Accepted σ (fin s) Γ predicate → Accepted σ s Γ expression
  unfolding Accepted class_of lookup form_at
  finite_accepted s a = a.kids.0

  finite_cup : (ks : Forest) → Accepted σ (fin (many #BUnion ks)) Γ predicate → weight (⋀ (map_f fin ks)) < weight (fin (many #BUnion ks))
  unfolding weight scale_of scale_in weigh class_of lookup form_at
  finite_cup ks a =
      omega (
        arith,
        sum_map fin 4 (λ t. omega arith) ks,
        twos_sum ks
            (least_twos ks (least_kids σ #BUnion 0 [] ks Γ expression (finite_accepted (many #BUnion ks) a))),
      )

  finite_times : (s t : Tree) → Accepted σ (fin (two #CProd s t)) Γ predicate → 6 * weight s + 6 * weight t + 2 < 4 * (weight s * weight t + 3)
  unfolding class_of lookup form_at
  finite_times s t a = let h = pair_two σ #CProd s t Γ (finite_accepted (two #CProd s t) a) refl in finite_falls (weight s) (weight t) h.0 h.1

  -- a quantifier has a binder, ∧ and ∨ two operands
  forall_binders : (xs : List Ty) (p : Tree) → Accepted σ (∀ᵖ xs p) Γ predicate → 1 ≤ length xs
  unfolding Accepted class_of lookup form_at
  forall_binders xs p a = at_least 1 32 (length xs) a.top.formed.range

  exists_binders : (xs : List Ty) (p : Tree) → Accepted σ (∃ᵖ xs p) Γ predicate → 1 ≤ length xs
  unfolding Accepted class_of lookup form_at
  exists_binders xs p a = at_least 1 32 (length xs) a.top.formed.range

  junction_many : {g n d : ℕ} (ps : Forest) → Junction g n d → Accepted σ (many g ps) Γ predicate → 2 ≤ count ps
  unfolding Accepted class_of lookup form_at
  junction_many ps conjunction a = at_least 2 255 (count ps) a.top.formed.range
  junction_many ps disjunction a = at_least 2 255 (count ps) a.top.formed.range

  falls : {place : ℕ} {l r : Tree} → Equation Γ place l r → Accepted σ l Γ predicate → weight r < weight l
  unfolding weight scale_of scale_in weigh
  falls (SIMP_SPECIAL_FINITE t) acc = omega arith
  falls SIMP_FINITE_NATURAL acc = omega arith
  falls SIMP_FINITE_NATURAL1 acc = omega arith
  falls SIMP_FINITE_INTEGER acc = omega arith
  falls SIMP_FINITE_BOOL acc = omega arith
  falls (SIMP_FINITE_ID s) acc = omega (arith, type_weight_lem s, type_two s)
  falls (SIMP_FINITE_SETENUM as') acc = omega (arith, product_positive as')
  falls (SIMP_FINITE_BUNION ks) acc = finite_cup ks acc
  falls (SIMP_FINITE_POW s) acc = omega (arith, weight_positive s)
  falls (DERIV_FINITE_CPROD s t) acc = omega (arith, finite_times s t acc)
  falls (SIMP_FINITE_CONVERSE r) acc = omega (arith, weight_positive r)
  falls (SIMP_FINITE_UPTO i j) acc = omega (arith, both_positive i j)
  falls (SIMP_FINITE_LAMBDA xs p e f f') acc = omega (arith, lambda_falls (length xs) (weight e) (weight_positive p) (weight_positive f))
  falls (SIMP_FINITE_ID_DOMRES e t) acc = omega (arith, weight_positive e)
  falls (SIMP_FINITE_PRJ1_DOMRES e t) acc = omega (arith, weight_positive e)
  falls (SIMP_FINITE_PRJ2_DOMRES e t) acc = omega (arith, weight_positive e)
  falls (SIMP_FINITE_PRJ1 s t) acc = omega (arith, type_weight_lem (prod s t), type_two (prod s t))
  falls (SIMP_FINITE_PRJ2 s t) acc = omega (arith, type_weight_lem (prod s t), type_two (prod s t))
  falls (SIMP_EMPTY_PARTITION s) acc = omega (arith, weight_positive s)
  falls (SIMP_SINGLE_PARTITION s t) acc = omega (arith, both_positive s t)
  falls (SIMP_NOT_LE x y) acc = omega arith
  falls (SIMP_NOT_GE x y) acc = omega arith
  falls (SIMP_NOT_GT x y) acc = omega arith
  falls (SIMP_NOT_LT x y) acc = omega arith
  falls (SIMP_SPECIAL_NOT_EQUAL_FALSE_R e) acc = omega arith
  falls (SIMP_SPECIAL_NOT_EQUAL_TRUE_R e) acc = omega arith
  falls (SIMP_SPECIAL_NOT_EQUAL_FALSE_L e) acc = omega arith
  falls (SIMP_SPECIAL_NOT_EQUAL_TRUE_L e) acc = omega arith
  falls (equal_type m h) acc = omega (arith, fullness_weight m, fills_fall σ Γ h (fullness_accepted σ Γ m acc))
  falls (equal_empty m h) acc = omega (arith, emptiness_weight m, empties_fall σ Γ h (emptiness_accepted σ Γ m acc))
  falls (SIMP_SPECIAL_AND_BFALSE/SIMP_SPECIAL_OR_BTRUE g n d ps j i) acc = omega (arith, junction_weight ps j, absorbing_weight j, among_light (leaf d) ps i)
  falls (SIMP_MULTI_AND_NOT/SIMP_MULTI_OR_NOT g n d ps q j i i') acc = omega (
    arith,
    junction_weight ps j,
    absorbing_weight j,
    among_light
        q ps i,
    weight_positive q,
  )
  falls (dropped_all g n d ps j d')
      acc = omega (arith, junction_weight ps j, neutral_weight j, sum_count ps, junction_many ps j acc)
  falls (dropped_but_one g n d ps p j d') acc = omega (arith, junction_weight ps j, dropped_light d')
  falls (dropped_some g n d ps p q qs j d' c) acc = junction_falls ps (cons p (cons q qs)) j
      (dropped_falls d') (λ e. c (ap count e))
  falls (SIMP_SPECIAL_IMP_BTRUE_L p) acc = omega arith
  falls (SIMP_SPECIAL_IMP_BFALSE_L p) acc = omega (arith, weight_positive p)
  falls (SIMP_SPECIAL_IMP_BTRUE_R p) acc = omega (arith, weight_positive p)
  falls (SIMP_SPECIAL_IMP_BFALSE_R p n o) acc = omega (arith, opposite_light o)
  falls (SIMP_MULTI_IMP p) acc = omega (arith, weight_positive p)
  falls (SIMP_MULTI_IMP_AND ps q i) acc = omega (arith, weight_positive q)
  falls (SIMP_MULTI_IMP_AND_NOT_R/SIMP_MULTI_IMP_AND_NOT_L ps q m o i) acc = omega (arith, weight_positive q)
  falls (SIMP_MULTI_IMP_NOT_L p) acc = omega arith
  falls (SIMP_MULTI_IMP_NOT_R p) acc = omega (arith, weight_positive p)
  falls (SIMP_SPECIAL_EQV_BTRUE/right p) acc = omega arith
  falls (SIMP_SPECIAL_EQV_BTRUE/left p) acc = omega arith
  falls (SIMP_MULTI_EQV p) acc = omega (arith, weight_positive p)
  falls (SIMP_SPECIAL_EQV_BFALSE/right p n o) acc = omega (arith, opposite_light o)
  falls (SIMP_SPECIAL_EQV_BFALSE/left p n o) acc = omega (arith, opposite_light o)
  falls (SIMP_MULTI_EQV_NOT/right p) acc = omega arith
  falls (SIMP_MULTI_EQV_NOT/left p) acc = omega arith
  falls SIMP_SPECIAL_NOT_BTRUE acc = omega arith
  falls SIMP_SPECIAL_NOT_BFALSE acc = omega arith
  falls (SIMP_NOT_NOT p) acc = omega arith
  falls (SIMP_FORALL_AND xs ps) acc = omega (arith, sum_map (∀ᵖ xs) (suc (length xs)) (λ t. omega arith) ps, forall_binders xs (⋀ ps) acc)
  falls (SIMP_EXISTS_OR xs ps) acc = omega (arith, sum_map (∃ᵖ xs) (suc (length xs)) (λ t. omega arith) ps, exists_binders xs (⋁ ps) acc)
  falls (SIMP_EXISTS_IMP xs p q) acc = omega (arith, exists_binders xs (p ⇒ q) acc)

pub equation_falls : (σ : ℕ → Ty) (Γ : Ctx) (place : ℕ) (l r : Tree) → Equation Γ place l r → Accepted σ l Γ predicate → weight r < weight l
equation_falls σ Γ place l r h a = falls σ Γ h a
