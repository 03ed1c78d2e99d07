-- The equations of E = Ty: the right side weighs less than E times Ty.
-- Main result: fills_fall.
use mathlib.Core.Path.{◌≡◌, refl, ap}
use mathlib.Core.List.{[], ◌∷◌}
use Prim.Native.Nat.{ℕ, suc, ◌+◌, ◌*◌, ◌≤◌, ◌<◌}
use native.Mathlib.Nat.{mul-le-mul_left, mul-le-mul_right, mul-le-mul, mul-lt-mul_of_pos_left}
use native.Mathlib.Omega.{arith}
use lib.ListN.{length}
use Rattle.frame.specs.Types.{Ty, pow, prod}
use Rattle.frame.specs.Trees.{Tree, Forest, nil, cons, map_f, pair, sole}
use Rattle.frame.specs.Tags.{expression, class_of, lookup, form_at}
use Rattle.frame.specs.Operators.{#SetMinus, #CProd, #DomRes, #DomSub, #RanRes, #RanSub, #DProd, #PProd, #BInter, #QInter, #Converse}
use Rattle.frame.specs.Places.{Ctx, push}
use Rattle.typing.specs.Typing.{type_of, types_in, element, source, target, ty, alike, relation}
use Rattle.typing.specs.Accepted.{Accepted}
use Rattle.rules.specs.Equations.{
  ⋀,
  ◌≐Ty,
  ◌≐∅,
  SIMP_BINTER_EQUAL_TYPE,
  SIMP_SETMINUS_EQUAL_TYPE,
  SIMP_CPROD_EQUAL_TYPE,
  SIMP_UPTO_EQUAL_INTEGER,
  SIMP_DOMRES_EQUAL_TYPE,
  SIMP_DOMSUB_EQUAL_TYPE,
  SIMP_RANRES_EQUAL_TYPE,
  SIMP_RANSUB_EQUAL_TYPE,
  SIMP_DPROD_EQUAL_TYPE,
  SIMP_PPROD_EQUAL_TYPE,
  SIMP_KINTER_EQUAL_TYPE,
  SIMP_CONVERSE_EQUAL_TYPE,
  SIMP_QINTER_EQUAL_TYPE,
}
use Rattle.rules.specs.Equations.{Fills}
use Rattle.weight.specs.Weight.{type_weight, scale_in, scale_of, weigh, weight, sum_of, product_of}
use Rattle.weight.proofs.Positive.{times_one, both_positive, type_two, type_weight_lem, weight_positive}
use Rattle.weight.proofs.Forests.{Twos, least_kids, pair_two, least_twos, twos_sum, fits_kids}

-- ---- numbers
-- s v + r w + 1 < (s r + 1) t, where v and w are at most t
pair_falls : {s r t v w : ℕ} → 2 ≤ s → 2 ≤ r → 2 ≤ t → v ≤ t → w ≤ t → s * v + r * w + 1 < s * r * t + t
pair_falls {s} {r} {t} {v} {w} hs hr ht hv hw =
    omega (arith, mul-le-mul_left s hv, mul-le-mul_left r hw, mul-le-mul_right (r * t) hs, mul-le-mul_right (s * t) hr)

-- (n + 1) (p + e t + 1) < 2 (n + 1) p e t
bound_falls : (n : ℕ) {p e t : ℕ} → 1 ≤ p → 2 ≤ e → 2 ≤ t → suc n * (p + e * t + 1) < suc n * (2 * (p * e * t))
bound_falls n {p} {e} {t} hp he ht =
    mul-lt-mul_of_pos_left {k = suc n} (omega (arith, mul-le-mul_right (e * t) hp, mul-le-mul_left p (mul-le-mul he ht))) (omega arith)

-- a ≤ a b + 3, b ≤ a b + 3
left_part : {a b : ℕ} → 1 ≤ b → a ≤ a * b + 3
left_part {a} h = omega (arith, mul-le-mul_left a h)

right_part : {a b : ℕ} → 1 ≤ a → b ≤ a * b + 3
right_part {a} {b} h = omega (arith, mul-le-mul_right b h)

type_one : (t : Ty) → 1 ≤ type_weight t
type_one t = omega (arith, type_two t)

module _ (Γ : Ctx) where
  -- the weight of the type of the elements of s
  abbrev span : Tree → ℕ
  span s = type_weight (element (type_of s Γ))

  full : (s : Tree) → weight (◌≐Ty Γ s) ≡ weight s * span s
  unfolding weight scale_of scale_in weigh
  full s = rw type_weight_lem (omega arith)

  full_sum : (ks : Forest) (u : Ty) → types_in ks Γ ≡ alike (pow u) (types_in ks Γ) → sum_of (map_f (◌≐Ty Γ) ks) ≡ sum_of ks * type_weight u
  unfolding weight type_of
  full_sum nil u e = omega arith
  full_sum (cons t ts) u e = step (ap (λ l. type_weight (element (ty 0 l))) e) (full_sum ts u (cc))
    where
      step : span t ≡ type_weight u → sum_of (map_f (◌≐Ty Γ) ts) ≡ sum_of ts * type_weight u
          → sum_of (map_f (◌≐Ty Γ) (cons t ts)) ≡ sum_of (cons t ts) * type_weight u
      step h r = omega (arith, full t, ap (λ x. weight t * x) h)

  all_full : (ks : Forest) (u : Ty) → Twos ks → types_in ks Γ ≡ alike (pow u) (types_in ks Γ)
      → weight (⋀ (map_f (◌≐Ty Γ) ks)) < product_of ks * type_weight u + type_weight u
  unfolding weight scale_of scale_in weigh
  all_full ks u h e = omega (arith, full_sum ks u e, mul-le-mul_right (type_weight u) (twos_sum ks h), type_two u)

  -- s = Ty ∧ r = Ty; s = ∅ ∧ r = Ty; s = Ty ∧ r = ∅
  module _ (s r : Tree) (t : Ty) (hs : 2 ≤ weight s) (hr : 2 ≤ weight r) where
    both_full : span s ≤ type_weight t → span r ≤ type_weight t
        → weight (⋀ (pair (◌≐Ty Γ s) (◌≐Ty Γ r))) < weight s * weight r * type_weight t + type_weight t
    unfolding weight scale_of scale_in weigh
    both_full vs vr = omega (arith, full s, full r, pair_falls hs hr (type_two t) vs vr)

    empty_full : span r ≤ type_weight t → weight (⋀ (pair (◌≐∅ Γ s) (◌≐Ty Γ r))) < weight s * weight r * type_weight t + type_weight t
    unfolding weight scale_of scale_in weigh
    empty_full vr = omega (arith, full r, pair_falls {v = 2} hs hr (type_two t) (type_two t) vr)

    full_empty : span s ≤ type_weight t → weight (⋀ (pair (◌≐Ty Γ s) (◌≐∅ Γ r))) < weight s * weight r * type_weight t + type_weight t
    unfolding weight scale_of scale_in weigh
    full_empty vs = omega (arith, full s, pair_falls {w = 2} hs hr (type_two t) vs (type_two t))

  -- the weight of a relation's type
  relation_span : (r : Tree) (u v : Ty) → type_of r Γ ≡ relation u v → span r ≡ type_weight u * type_weight v + 3
  unfolding type_weight
  relation_span r u v e = ap (λ t. type_weight (element t)) e

-- ---- parts of equal lists
first_of : {x y x' y' : Ty} → x ∷ y ∷ [] ≡ x' ∷ y' ∷ [] → x ≡ x'
first_of e = cc

second_of : {x y x' y' : Ty} → x ∷ y ∷ [] ≡ x' ∷ y' ∷ [] → y ≡ y'
second_of e = cc

sole_of : {x x' : Ty} → x ∷ [] ≡ x' ∷ [] → x ≡ x'
sole_of e = cc

-- ---- all of them
module _ (σ : ℕ → Ty) (Γ : Ctx) where
  domain_at_most : (s r : Tree) (v : Ty) → type_of r Γ ≡ relation (element (type_of s Γ)) v → span Γ s ≤ span Γ r
  domain_at_most s r v e = omega (arith, relation_span Γ r (element (type_of s Γ)) v e, left_part {a = span Γ s} (type_one v))

  range_at_most : (r s : Tree) (u : Ty) → type_of r Γ ≡ relation u (element (type_of s Γ)) → span Γ s ≤ span Γ r
  range_at_most r s u e = omega (arith, relation_span Γ r u (element (type_of s Γ)) e, right_part {b = span Γ s} (type_one u))

  -- s ◁ r, r ▷ s
  restriction : (s r : Tree) → 2 ≤ weight s → 2 ≤ weight r → span Γ s ≤ span Γ r
      → (weight (⋀ (pair (◌≐Ty Γ s) (◌≐Ty Γ r))) < weight s * weight r * span Γ r + span Γ r) × (span Γ r ≤ weight s * weight r * span Γ r)
  restriction s r hs hr l = (
    both_full Γ s r (element (type_of r Γ)) hs hr l
        (omega arith),
    omega (arith, mul-le-mul_right (span Γ r) (both_positive s r)),
  )

  -- p ⊗ q, p ∥ q
  module _ (p q : Tree) (hp : 2 ≤ weight p) (hq : 2 ≤ weight q) where
    direct : (u v w : Ty) → type_of p Γ ≡ relation u v → type_of q Γ ≡ relation u w
        → weight (⋀ (pair (◌≐Ty Γ p) (◌≐Ty Γ q))) < weight p * weight q * type_weight (prod u (prod v w)) + type_weight (prod u (prod v w))
    unfolding type_weight
    direct u v w ep eq =
        both_full Γ p q (prod u (prod v w)) hp hq
        (omega (arith, relation_span Γ p u v ep, mul-le-mul_left (type_weight u * type_weight v) (type_one w)))
        (omega (arith, relation_span Γ q u w eq, mul-le-mul_left (type_weight u * type_weight w) (type_one v)))

    parallel : (u v w x : Ty) → type_of p Γ ≡ relation u v → type_of q Γ ≡ relation w x
        → weight (⋀ (pair (◌≐Ty Γ p) (◌≐Ty Γ q))) < weight p * weight q * type_weight (prod (prod u w) (prod v x)) + type_weight
        (prod (prod u w) (prod v x))
    unfolding type_weight
    parallel u v w x ep eq =
        both_full Γ p q (prod (prod u w) (prod v x)) hp hq
        (omega (arith, relation_span Γ p u v ep, mul-le-mul_left (type_weight u * type_weight v) (times_one (type_one w) (type_one x))))
        (omega (arith, relation_span Γ q w x eq, mul-le-mul_left (type_weight w * type_weight x) (times_one (type_one u) (type_one v))))

  inverse : (r : Tree) (u v : Ty) → type_of r Γ ≡ relation u v → weight (◌≐Ty Γ r) < weight r * type_weight (prod v u) + type_weight (prod v u)
  unfolding type_weight
  inverse r u v e =
      omega (arith, full Γ r, ap (λ x. weight r * x) (relation_span Γ r u v e), times_one (weight_positive r) (times_one (type_one u) (type_one v)))

  pub fills_fall : {k : ℕ} {e r : Tree} → Fills Γ k e r → Accepted σ e Γ expression → weight r < weight e * span Γ e
  unfolding weight scale_of scale_in weigh class_of lookup form_at type_of type_weight
  fills_fall (SIMP_BINTER_EQUAL_TYPE ks) a =
      omega (
        arith,
        all_full Γ ks (element (ty 0 (types_in ks Γ))) (least_twos ks (least_kids σ #BInter 0 [] ks Γ expression a))
            (fits_kids σ #BInter 0 [] ks Γ expression a),
      )
  fills_fall (SIMP_SETMINUS_EQUAL_TYPE s b) a =
      let h = pair_two σ #SetMinus s b Γ a refl in omega (arith, full_empty Γ s b (element (type_of s Γ)) h.0 h.1 (omega arith))
  fills_fall (SIMP_CPROD_EQUAL_TYPE s t) a =
      let h = pair_two σ #CProd s t Γ a refl in
      let u = element (type_of s Γ) in
      let v = element (type_of t Γ) in
      omega (arith, both_full Γ s t (prod u v) h.0 h.1 (left_part (type_one v)) (right_part (type_one u)))
  fills_fall (SIMP_UPTO_EQUAL_INTEGER i j) a = omega (arith, both_positive i j)
  fills_fall (SIMP_DOMRES_EQUAL_TYPE s r) a =
      let l = domain_at_most s r (target (type_of r Γ)) (second_of (fits_kids σ #DomRes 0 [] (pair s r) Γ expression a)) in
      let h = pair_two σ #DomRes s r Γ a refl in omega (arith, restriction s r h.0 h.1 l)
  fills_fall (SIMP_DOMSUB_EQUAL_TYPE s r) a =
      let h = pair_two σ #DomSub s r Γ a refl in omega (arith, empty_full Γ s r (element (type_of r Γ)) h.0 h.1 (omega arith))
  fills_fall (SIMP_RANRES_EQUAL_TYPE r s) a =
      let l = range_at_most r s (source (type_of r Γ)) (first_of (fits_kids σ #RanRes 0 [] (pair r s) Γ expression a)) in
      let h = pair_two σ #RanRes r s Γ a refl in omega (arith, restriction s r h.1 h.0 l)
  fills_fall (SIMP_RANSUB_EQUAL_TYPE r s) a =
      let h = pair_two σ #RanSub r s Γ a refl in omega (arith, empty_full Γ s r (element (type_of r Γ)) h.1 h.0 (omega arith))
  fills_fall (SIMP_DPROD_EQUAL_TYPE p q) a =
      let h = pair_two σ #DProd p q Γ a refl in
      let f = fits_kids σ #DProd 0 [] (pair p q) Γ expression a in
      omega (arith, direct p q h.0 h.1 (source (type_of p Γ)) (target (type_of p Γ)) (target (type_of q Γ)) (first_of f) (second_of f))
  fills_fall (SIMP_PPROD_EQUAL_TYPE p q) a =
      let h = pair_two σ #PProd p q Γ a refl in
      let f = fits_kids σ #PProd 0 [] (pair p q) Γ expression a in
      omega (
        arith,
        parallel p q h.0 h.1 (source (type_of p Γ)) (target (type_of p Γ)) (source (type_of q Γ)) (target (type_of q Γ))
            (first_of f) (second_of f),
      )
  fills_fall (SIMP_KINTER_EQUAL_TYPE s) a =
      let t = element (element (type_of s Γ)) in
      omega (arith, ap (λ x. weight s * x) (type_weight_lem t), mul-le-mul_left (weight s) (type_two t), weight_positive s)
  fills_fall (SIMP_CONVERSE_EQUAL_TYPE r) a =
      omega (arith, inverse r (source (type_of r Γ)) (target (type_of r Γ)) (sole_of (fits_kids σ #Converse 0 [] (sole r) Γ expression a)))
  fills_fall (SIMP_QINTER_EQUAL_TYPE xs p e) a =
      let h = least_kids σ #QInter 0 xs (pair p e) Γ expression a in
      rw type_weight_lem (omega (arith, bound_falls (length xs) (weight_positive p) h.1.0 (type_two (element (type_of e (push xs Γ))))))
