-- The equations of E = ∅: the right side weighs less than twice E.
-- Main result: empties_fall.
use mathlib.Core.Path.{◌≡◌, refl}
use mathlib.Core.List.{[]}
use Prim.Native.Nat.{ℕ, suc, ◌+◌, ◌*◌, ◌≤◌, ◌<◌}
use native.Mathlib.Nat.{mul-le-mul_left, mul-le-mul_right, mul-le-mul, mul-lt-mul_of_pos_left}
use native.Mathlib.Omega.{arith}
use lib.ListN.{length}
use Rattle.frame.specs.Types.{Ty}
use Rattle.frame.specs.Trees.{Tree, Forest, cons, append, map_f, sole, pair}
use Rattle.frame.specs.Tags.{expression, class_of, lookup, form_at}
use Rattle.frame.specs.Operators.{#SRel, #STRel, #CProd, #DomRes, #RanRes, #DProd, #FComp, #BComp, #PProd, #BUnion, #BInter, #Ovr, #QUnion}
use Rattle.frame.specs.Places.{Ctx}
use Rattle.typing.specs.Accepted.{Accepted}
use Rattle.rules.specs.Equations.{
  over,
  Subtracted,
  ext,
  ◌∈ᵖ◌,
  ¬ᵖ,
  ◌⊆◌,
  inters,
  ⋀,
  dom,
  ran,
  ◌≐∅,
  SIMP_SETENUM_EQUAL_EMPTY,
  SIMP_BINTER_SING_EQUAL_EMPTY,
  SIMP_BINTER_SETMINUS_EQUAL_EMPTY,
  SIMP_BUNION_EQUAL_EMPTY,
  SIMP_SETMINUS_EQUAL_EMPTY,
  SIMP_CPROD_EQUAL_EMPTY,
  SIMP_UPTO_EQUAL_EMPTY,
  SIMP_SREL_EQUAL_EMPTY,
  SIMP_STREL_EQUAL_EMPTY,
  SIMP_DOMRES_EQUAL_EMPTY,
  SIMP_DOMSUB_EQUAL_EMPTY,
  SIMP_RANRES_EQUAL_EMPTY,
  SIMP_RANSUB_EQUAL_EMPTY,
  SIMP_RELIMAGE_EQUAL_EMPTY,
  SIMP_DPROD_EQUAL_EMPTY,
  SIMP_PPROD_EQUAL_EMPTY,
  SIMP_POW_EQUAL_EMPTY,
  SIMP_POW1_EQUAL_EMPTY,
  SIMP_KUNION_EQUAL_EMPTY,
  SIMP_DOM_EQUAL_EMPTY,
  SIMP_RAN_EQUAL_EMPTY,
  SIMP_CONVERSE_EQUAL_EMPTY,
  SIMP_FCOMP_EQUAL_EMPTY,
  SIMP_BCOMP_EQUAL_EMPTY,
  SIMP_OVERL_EQUAL_EMPTY,
  SIMP_QUNION_EQUAL_EMPTY,
  SIMP_NATURAL_EQUAL_EMPTY,
  SIMP_NATURAL1_EQUAL_EMPTY,
  SIMP_ID_EQUAL_EMPTY,
  SIMP_PRJ1_EQUAL_EMPTY,
  SIMP_PRJ2_EQUAL_EMPTY,
}
use Rattle.rules.specs.Equations.{Empties}
use Rattle.weight.specs.Weight.{scale_in, scale_of, weigh, weight, sum_of, product_of}
use Rattle.weight.proofs.Positive.{both_positive, weight_positive, product_positive}
use Rattle.weight.proofs.Forests.{
  Twos,
  least_kids,
  pair_two,
  least_twos,
  sum_map,
  twos_sum,
  product_at,
  over_light,
  subtracted_light,
  sum_product,
}

-- ---- numbers
-- a + b ≤ a b
both_fall : {a b : ℕ} → (2 ≤ a) × (2 ≤ b) → a + b ≤ a * b
both_fall {a} {b} h = omega (arith, mul-le-mul_right b h.0, mul-le-mul_left a h.1)

-- (n + 1) (p + 2 e + 1) < 4 (n + 1) p e
bound_falls : (n : ℕ) {p e : ℕ} → 1 ≤ p → 2 ≤ e → suc n * (p + 2 * e + 1) < suc n * (4 * (p * e))
bound_falls n {p} {e} hp he = mul-lt-mul_of_pos_left {k = suc n} (omega (arith, mul-le-mul_right e hp, mul-le-mul_left p he)) (omega arith)

-- ---- n-ary operators
empty_sum : (Γ : Ctx) (ks : Forest) → sum_of (map_f (◌≐∅ Γ) ks) ≡ 2 * sum_of ks
unfolding weight scale_of scale_in weigh
empty_sum Γ ks = sum_map (◌≐∅ Γ) 2 (λ t. omega arith) ks

all_empty : (Γ : Ctx) (ks : Forest) → Twos ks → weight (⋀ (map_f (◌≐∅ Γ) ks)) < 2 * (product_of ks + 1)
unfolding weight scale_of scale_in weigh
all_empty Γ ks h = omega (arith, empty_sum Γ ks, twos_sum ks h)

single_falls : (a : Tree) (ks left right : Forest) → ks ≡ append left (cons (ext (sole a)) right)
    → weight (¬ᵖ (a ∈ᵖ over #BInter (append left right))) < 2 * weight (inters ks)
unfolding weight scale_of scale_in weigh
single_falls a ks left right e =
    let rest = append left right in
    rw (e, product_at left (ext (sole a)) right)
    (omega (arith, mul-le-mul_left (weight a) (over_light #BInter rest refl), mul-le-mul_left (weight a) (product_positive rest)))

minus_falls : (ks ls : Forest) (b : Tree) (ms : Forest) → Subtracted ks ls (cons b ms)
    → weight (over #BInter ls ⊆ over #BUnion (cons b ms)) < 2 * weight (inters ks)
unfolding weight scale_of scale_in weigh
minus_falls ks ls b ms d =
    omega (
      arith,
      subtracted_light d,
      mul-le-mul (over_light #BInter ls refl) (over_light #BUnion (cons b ms) refl),
      sum_product (product_of ls) (product_of (cons b ms)) (product_positive ls) (product_positive (cons b ms)),
    )

both_more : (p q : Tree) → weight p + weight q ≤ weight p * weight q + 1
both_more p q = sum_product (weight p) (weight q) (weight_positive p) (weight_positive q)

-- dom p ∩ dom q, ran p ∩ dom q: (p + 1) (q + 1) + 1 < 2 p q + 3
dom_weight : (r : Tree) → weight (dom r) ≡ weight r + 1
unfolding weight scale_of scale_in weigh
dom_weight r = omega arith

ran_weight : (r : Tree) → weight (ran r) ≡ weight r + 1
unfolding weight scale_of scale_in weigh
ran_weight r = omega arith

meet_falls : (p q s t : Tree) → (2 ≤ weight p) × (2 ≤ weight q) → weight s ≡ weight p + 1 → weight t ≡ weight q + 1
    → weight (inters (pair s t)) < 2 * (weight p * weight q) + 3
unfolding weight scale_of scale_in weigh
meet_falls p q s t h es et = rw (es, et) (omega (arith, both_fall h))

-- ---- all of them
module _ (σ : ℕ → Ty) (Γ : Ctx) where
  pub empties_fall : {k : ℕ} {e r : Tree} → Empties Γ k e r → Accepted σ e Γ expression → weight r < 2 * weight e
  unfolding weight scale_of scale_in weigh class_of lookup form_at
  empties_fall (SIMP_SETENUM_EQUAL_EMPTY a' as') a = omega (arith, product_positive (cons a' as'))
  empties_fall (SIMP_BINTER_SING_EQUAL_EMPTY a' ks left right e) a = single_falls a' ks left right e
  empties_fall (SIMP_BINTER_SETMINUS_EQUAL_EMPTY ks ls b ms d) a = minus_falls ks ls b ms d
  empties_fall (SIMP_BUNION_EQUAL_EMPTY ks) a = omega (arith, all_empty Γ ks (least_twos ks (least_kids σ #BUnion 0 [] ks Γ expression a)))
  empties_fall (SIMP_SETMINUS_EQUAL_EMPTY a' b) a = omega (arith, both_positive a' b)
  empties_fall (SIMP_CPROD_EQUAL_EMPTY s t) a = omega (arith, both_fall (pair_two σ #CProd s t Γ a refl))
  empties_fall (SIMP_UPTO_EQUAL_EMPTY i j) a = omega (arith, both_positive i j)
  empties_fall (SIMP_SREL_EQUAL_EMPTY s t) a = omega (arith, both_fall (pair_two σ #SRel s t Γ a refl))
  empties_fall (SIMP_STREL_EQUAL_EMPTY s t) a = omega (arith, both_fall (pair_two σ #STRel s t Γ a refl))
  empties_fall (SIMP_DOMRES_EQUAL_EMPTY s r) a =
      let h = pair_two σ #DomRes s r Γ a refl in omega (arith, mul-le-mul_left (weight s) h.1)
  empties_fall (SIMP_DOMSUB_EQUAL_EMPTY s r) a = omega (arith, both_more s r, weight_positive r)
  empties_fall (SIMP_RANRES_EQUAL_EMPTY r s) a =
      let h = pair_two σ #RanRes r s Γ a refl in omega (arith, mul-le-mul_right (weight s) h.0)
  empties_fall (SIMP_RANSUB_EQUAL_EMPTY r s) a = omega (arith, both_more r s, weight_positive r)
  empties_fall (SIMP_RELIMAGE_EQUAL_EMPTY r s) a = omega (arith, both_positive r s)
  empties_fall (SIMP_DPROD_EQUAL_EMPTY p q) a = omega (
    arith,
    meet_falls p q (dom p) (dom q) (pair_two σ #DProd p q Γ a refl)
        (dom_weight p) (dom_weight q),
  )
  empties_fall (SIMP_PPROD_EQUAL_EMPTY p q) a = omega (arith, both_fall (pair_two σ #PProd p q Γ a refl))
  empties_fall (SIMP_POW_EQUAL_EMPTY s) a = omega (arith, weight_positive s)
  empties_fall (SIMP_POW1_EQUAL_EMPTY s) a = omega (arith, weight_positive s)
  empties_fall (SIMP_KUNION_EQUAL_EMPTY s) a = omega (arith, weight_positive s)
  empties_fall (SIMP_DOM_EQUAL_EMPTY r) a = omega (arith, weight_positive r)
  empties_fall (SIMP_RAN_EQUAL_EMPTY r) a = omega (arith, weight_positive r)
  empties_fall (SIMP_CONVERSE_EQUAL_EMPTY r) a = omega (arith, weight_positive r)
  empties_fall (SIMP_FCOMP_EQUAL_EMPTY p q) a = omega (
    arith,
    meet_falls p q (ran p) (dom q) (pair_two σ #FComp p q Γ a refl)
        (ran_weight p) (dom_weight q),
  )
  empties_fall (SIMP_BCOMP_EQUAL_EMPTY p q) a = omega (
    arith,
    meet_falls p q (dom p) (ran q) (pair_two σ #BComp p q Γ a refl)
        (dom_weight p) (ran_weight q),
  )
  empties_fall (SIMP_OVERL_EQUAL_EMPTY ks) a = omega (arith, all_empty Γ ks (least_twos ks (least_kids σ #Ovr 0 [] ks Γ expression a)))
  empties_fall (SIMP_QUNION_EQUAL_EMPTY xs p e) a =
      let h = least_kids σ #QUnion 0 xs (pair p e) Γ expression a in omega (arith, bound_falls (length xs) (weight_positive p) h.1.0)
  empties_fall SIMP_NATURAL_EQUAL_EMPTY a = omega arith
  empties_fall SIMP_NATURAL1_EQUAL_EMPTY a = omega arith
  empties_fall (SIMP_ID_EQUAL_EMPTY t) a = omega arith
  empties_fall (SIMP_PRJ1_EQUAL_EMPTY t) a = omega arith
  empties_fall (SIMP_PRJ2_EQUAL_EMPTY t) a = omega arith
