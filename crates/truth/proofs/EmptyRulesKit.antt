-- What the equations of E = ∅ are made of: dom, ran, ∩ of two, ∨ and ∧ of two; what operators mean at the types of their operands.
-- Main results: NAME-type, NAME-single, NAME-is for NAME dom or ran; image_is, forward_is, backward_is; and_two_truth;
-- false_emptied, meet_emptied, within_emptied, either_emptied (E = ∅ is ⊥, is A ∩ B = ∅, is A ⊆ B, is A = ∅ ∨ B = ∅).
use mathlib.Core.Path.{◌≡◌, refl, sym, ap, ap₂, ◌∙◌, fun_ext}
use mathlib.Core.Bool.{true, not, ◌&&◌, ◌||◌, and-true, or-false}
use mathlib.Core.List.{[], ◌∷◌}
use Prim.Native.Nat.{ℕ}
use Rattle.frame.specs.Types.{Ty, pow, prod}
use Rattle.frame.specs.Trees.{Tree, one, two, many, sole, pair}
use Rattle.frame.specs.Tags.{class_of, lookup, form_at}
use Rattle.frame.specs.Operators.{#RelImage, #FComp, #BComp, #BInter, #SubsetEq, #LOr, #KDom, #KRan}
use Rattle.frame.specs.Places.{Ctx}
use Rattle.typing.specs.Typing.{relation, type_of}
use Rattle.rules.specs.Equations.{⊥ᵖ, ⋀, ⋁, ◌⊆◌, dom, ran, inters, ◌≐∅}
use Rattle.meaning.specs.Lists.{any, all}
use Rattle.meaning.specs.Operations.{Operator, operator, domain, range, image, forward, backward, op_at, op_of}
use Rattle.meaning.specs.Meaning.{Interpretation, Vals, truth, val, set_of, rel_of, some, every, onward, backwards, holds, value_of, means}
use Rattle.meaning.specs.Premises.{SingleIntegers, NoInterOverNothing}
use Rattle.meaning.proofs.Lists.{not_and}
use Rattle.meaning.proofs.Kit as kit
use Rattle.truth.proofs.Premises as premise
use Rattle.truth.proofs.Emptied.{Emptied, emptied, emptied_by}

module _ (Γ : Ctx) (r : Tree) (u v : Ty) (h : type_of r Γ ≡ relation u v) where
  pub dom_type : type_of (dom r) Γ ≡ pow u
  unfolding type_of class_of lookup form_at
  dom_type = rw h

  pub ran_type : type_of (ran r) Γ ≡ pow v
  unfolding type_of class_of lookup form_at
  ran_type = rw h

  pub dom_single : SingleIntegers r Γ → SingleIntegers (dom r) Γ
  unfolding SingleIntegers type_of class_of lookup form_at
  dom_single s = (tt, rw h (premise.no_int r Γ (prod u v) s h).0, tt, (s, tt))

  pub ran_single : SingleIntegers r Γ → SingleIntegers (ran r) Γ
  unfolding SingleIntegers type_of class_of lookup form_at
  ran_single s = (tt, rw h (premise.no_int r Γ (prod u v) s h).1, tt, (s, tt))

module _ (I : Interpretation) (Γ : Ctx) where
  -- ---- the operator shut, then opened
  module _ (r : Tree) (u v : Ty) (h : type_of r Γ ≡ relation u v) (ρ : Vals I Γ) where
    one_at : (g : ℕ) (o : Operator) → op_of g ≡ operator o → val I (means I (one g r) Γ) ρ ≡ value_of I o g 0 (relation u v ∷ []) (means I r Γ ∷ []) ρ
    unfolding means type_of
    one_at g o e = ap (λ k. val I k ρ) (kit.means_at I Γ g (operator o) e (sole r)) ∙ ap (λ x. value_of I o g 0 (x ∷ []) (means I r Γ ∷ []) ρ) h

    pub dom_is : set_of I (means I (dom r) Γ) ρ u ≡ (λ x. some I v (λ y. rel_of I (means I r Γ) ρ u v x y))
    unfolding value_of op_of op_at class_of lookup
    dom_is = ap (λ f. f (pow u)) (one_at #KDom domain refl)

    pub ran_is : set_of I (means I (ran r) Γ) ρ v ≡ (λ y. some I u (λ x. rel_of I (means I r Γ) ρ u v x y))
    unfolding value_of op_of op_at class_of lookup
    ran_is = ap (λ f. f (pow v)) (one_at #KRan range refl)

    module _ (q : Tree) where
      two_at : (g : ℕ) (o : Operator) → op_of g ≡ operator o
          → val I (means I (two g r q) Γ) ρ ≡ value_of I o g 0 (relation u v ∷ type_of q Γ ∷ []) (means I r Γ ∷ means I q Γ ∷ []) ρ
      unfolding means type_of
      two_at g o e = ap (λ k. val I k ρ) (kit.means_at I Γ g (operator o) e (pair r q)) ∙ ap
          (λ x. value_of I o g 0 (x ∷ type_of q Γ ∷ []) (means I r Γ ∷ means I q Γ ∷ []) ρ) h

      pub image_is : set_of I (means I (two #RelImage r q) Γ) ρ v ≡
          (λ y. some I u (λ x. set_of I (means I q Γ) ρ u x && rel_of I (means I r Γ) ρ u v x y))
      unfolding value_of op_of op_at class_of lookup
      image_is = ap (λ f. f (pow v)) (two_at #RelImage image refl)

      pub forward_is : (w : Ty) → set_of I (means I (many #FComp (pair r q)) Γ) ρ (prod u w)
          ≡ (λ a. some I v (λ z. rel_of I (means I r Γ) ρ u v a.0 z && rel_of I (means I q Γ) ρ v w z a.1))
      unfolding value_of onward op_of op_at class_of lookup
      forward_is w = ap (λ f. f (pow (prod u w))) (two_at #FComp forward refl)

      pub backward_is : (w : Ty) → set_of I (means I (many #BComp (pair r q)) Γ) ρ (prod w v)
          ≡ (λ a. some I u (λ z. rel_of I (means I q Γ) ρ w u a.0 z && rel_of I (means I r Γ) ρ u v z a.1))
      unfolding value_of backwards op_of op_at class_of lookup
      backward_is w = ap (λ f. f (pow (prod w v))) (two_at #BComp backward refl)

  -- ---- ∨ and ∧ of two
  module _ (p q : Tree) where
    or_two_truth : (ρ : Vals I Γ) → truth I (means I (⋁ (pair p q)) Γ) ρ ≡ (truth I (means I p Γ) ρ || truth I (means I q Γ) ρ)
    unfolding means holds op_of op_at class_of lookup any
    or_two_truth ρ = ap (λ c. truth I (means I p Γ) ρ || c) (or-false (truth I (means I q Γ) ρ))

    pub and_two_truth : (ρ : Vals I Γ) → truth I (means I (⋀ (pair p q)) Γ) ρ ≡ (truth I (means I p Γ) ρ && truth I (means I q Γ) ρ)
    unfolding means holds op_of op_at class_of lookup all
    and_two_truth ρ = ap (λ c. truth I (means I p Γ) ρ && c) (and-true (truth I (means I q Γ) ρ))

  -- ---- A ∩ B
  module _ (a b : Tree) where
    meet_single : SingleIntegers a Γ → SingleIntegers b Γ → SingleIntegers (inters (pair a b)) Γ
    unfolding SingleIntegers type_of class_of lookup form_at
    meet_single s r = (tt, premise.single_type a Γ s, tt, (s, (r, tt)))

    meet_type : (u : Ty) → type_of a Γ ≡ pow u → type_of (inters (pair a b)) Γ ≡ pow u
    unfolding type_of class_of lookup form_at
    meet_type u h = h

    meet_is : (u : Ty) (ρ : Vals I Γ) → set_of I (means I (inters (pair a b)) Γ) ρ u ≡ (λ x. set_of I (means I a Γ) ρ u x && set_of I (means I b Γ) ρ u x)
    unfolding means value_of op_of op_at class_of lookup all
    meet_is u ρ = fun_ext (λ x. ap (λ c. set_of I (means I a Γ) ρ u x && c) (and-true (set_of I (means I b Γ) ρ u x)))

  -- ---- E = ∅ is …; w is the type of the elements of E, u and v those of A and B
  module _ (σ : ℕ → Ty) (e : Tree) (w : Ty) (he : type_of e Γ ≡ pow w) where
    -- ⊥
    pub false_emptied : ((ρ : Vals I Γ) → some I w (set_of I (means I e Γ) ρ w) ≡ true) → Emptied I σ Γ e ⊥ᵖ
    unfolding SingleIntegers NoInterOverNothing means holds type_of op_of op_at class_of lookup form_at
    false_emptied h = emptied I σ Γ e ⊥ᵖ w he (refl, refl) (tt, tt, tt, tt) (λ a. (tt, tt, tt)) (λ a ρ. sym (ap not (h ρ)))

    module _ (a b : Tree) (u : Ty) (ha : type_of a Γ ≡ pow u) (s : SingleIntegers a Γ) (r : SingleIntegers b Γ)
        (k : NoInterOverNothing I e Γ → NoInterOverNothing I a Γ) (l : NoInterOverNothing I e Γ → NoInterOverNothing I b Γ) where
      -- A ∩ B = ∅
      pub meet_emptied : ((ρ : Vals I Γ) → some I u (λ x. set_of I (means I a Γ) ρ u x && set_of I (means I b Γ) ρ u x) ≡ some I w
          (set_of I (means I e Γ) ρ w)) → Emptied I σ Γ e (◌≐∅ Γ (inters (pair a b)))
      meet_emptied m =
          emptied_by I σ Γ e (inters (pair a b)) w u he (meet_type a b u ha) (meet_single a b s r)
          (λ x. premise.two_alive I Γ #BInter (refl, refl) a b (k x) (l x))
          (λ x ρ. ap (some I u) (meet_is a b u ρ) ∙ m ρ)

      -- A ⊆ B
      pub within_emptied : ((ρ : Vals I Γ) → every I u (λ x. not (set_of I (means I a Γ) ρ u x) || set_of I (means I b Γ) ρ u x) ≡ not
          (some I w (set_of I (means I e Γ) ρ w))) → Emptied I σ Γ e (a ⊆ b)
      unfolding class_of lookup form_at
      within_emptied m =
          emptied I σ Γ e (a ⊆ b) w he (refl, refl) (premise.two_single I Γ #SubsetEq (refl, refl) a b s r)
          (λ x. premise.two_alive I Γ #SubsetEq (refl, refl) a b (k x) (l x))
          (λ x ρ. kit.subset_truth I Γ a b u ha ρ ∙ m ρ)

      -- A = ∅ ∨ B = ∅
      pub either_emptied : (v : Ty) → type_of b Γ ≡ pow v
          → ((ρ : Vals I Γ) → some I w (set_of I (means I e Γ) ρ w) ≡ (some I u (set_of I (means I a Γ) ρ u) && some I v (set_of I (means I b Γ) ρ v)))
          → Emptied I σ Γ e (⋁ (pair (◌≐∅ Γ a) (◌≐∅ Γ b)))
      unfolding class_of lookup form_at
      either_emptied v hb m =
          emptied I σ Γ e (⋁ (pair (◌≐∅ Γ a) (◌≐∅ Γ b))) w he (refl, refl)
          (premise.two_single I Γ #LOr (refl, refl) (◌≐∅ Γ a) (◌≐∅ Γ b) (premise.empty_single I Γ a s) (premise.empty_single I Γ b r))
          (λ x. premise.two_alive I Γ #LOr (refl, refl) (◌≐∅ Γ a) (◌≐∅ Γ b) (premise.empty_alive I Γ a (k x)) (premise.empty_alive I Γ b (l x)))
          (λ x ρ. or_two_truth (◌≐∅ Γ a) (◌≐∅ Γ b) ρ ∙ ap₂ ◌||◌ (kit.empty_truth I Γ a u ha ρ) (kit.empty_truth I Γ b v hb ρ)
          ∙ sym (not_and (some I u (set_of I (means I a Γ) ρ u)) (some I v (set_of I (means I b Γ) ρ v))) ∙ ap not (sym (m ρ)))
