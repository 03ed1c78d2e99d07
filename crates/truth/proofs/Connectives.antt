-- The equations of negation, ⇒, ⇔ and ¬ keep what a predicate means.
-- Main results: one NAME-keeps for each equation of places 16 to 23 and 66 to 84.
use mathlib.Core.Path.{◌≡◌, refl, sym, ap, ◌∙◌}
use mathlib.Core.Bool.{Bool, true, false, not, ◌||◌, beq, So, false≢true, not-not, or-true, or-false}
use Prim.Native.Nat.{ℕ}
use Rattle.frame.specs.Types.{Ty, bool, int}
use Rattle.frame.specs.Trees.{Tree, Forest, leaf, two, pair}
use Rattle.frame.specs.Tags.{predicate, class_of, lookup, form_at}
use Rattle.frame.specs.Operators.{#BTrue, #BFalse, #Lt, #Le, #Gt, #Ge, #True, #False, #Equal, #Not}
use Rattle.frame.specs.Places.{Ctx}
use Rattle.typing.specs.Typing.{type_of}
use Rattle.typing.specs.Accepted.{Accepted}
use Rattle.rules.specs.Equations.{⊤, ⊥ᵖ, ¬ᵖ, ◌⇒◌, ◌⇔◌, ⋀, ◌≐◌, Among, Opposite, negated, restored}
use Rattle.meaning.specs.Values.{same}
use Rattle.meaning.specs.Operations.{op_at, op_of}
use Rattle.meaning.specs.Meaning.{Interpretation, Vals, truth, val, le_int, holds, value_of, means, means_all}
use Rattle.meaning.specs.Premises.{SingleIntegers, NoInterOverNothing}
use Rattle.meaning.proofs.Lists.{so_imp, so_all, beq_true, beq_false}
use Rattle.meaning.proofs.Kit as kit
use Rattle.truth.proofs.Sound.{Formula, Keeps, keeps_truth, accepted_formula}
use Rattle.truth.proofs.Premises.{NoInter}
use Rattle.truth.proofs.Premises as premise
use Rattle.truth.proofs.Many as many

-- ---- laws of truth values
not_beq_right : (a b : Bool) → not (beq a b) ≡ beq a (not b)
not_beq_right true true = refl
not_beq_right true false = refl
not_beq_right false true = refl
not_beq_right false false = refl

not_beq_left : (a b : Bool) → not (beq a b) ≡ beq (not a) b
not_beq_left true true = refl
not_beq_left true false = refl
not_beq_left false true = refl
not_beq_left false false = refl

imp_self : (a : Bool) → (not a || a) ≡ true
imp_self true = refl
imp_self false = refl

imp_not_left : (a : Bool) → (not (not a) || a) ≡ a
imp_not_left true = refl
imp_not_left false = refl

imp_not_right : (a : Bool) → (not a || not a) ≡ not a
imp_not_right true = refl
imp_not_right false = refl

true_beq_is : (a : Bool) → beq true a ≡ a
true_beq_is true = refl
true_beq_is false = refl

false_beq_is : (a : Bool) → beq false a ≡ not a
false_beq_is true = refl
false_beq_is false = refl

beq_self : (a : Bool) → beq a a ≡ true
beq_self true = refl
beq_self false = refl

beq_not_right : (a : Bool) → beq a (not a) ≡ false
beq_not_right true = refl
beq_not_right false = refl

beq_not_left : (a : Bool) → beq (not a) a ≡ false
beq_not_left true = refl
beq_not_left false = refl

imp_apart : (a b : Bool) → (So a → So (not b)) → (not a || b) ≡ not a
imp_apart true true h = absurd (false≢true (h refl))
imp_apart true false h = refl
imp_apart false b h = refl

module _ (I : Interpretation) (σ : ℕ → Ty) (Γ : Ctx) where
  -- the truth of a tree
  abbrev Truth : Vals I Γ → Tree → Bool
  Truth ρ t = truth I (means I t Γ) ρ

  -- ---- n is the opposite of p
  opposite_truth : {p n : Tree} → Opposite p n → (ρ : Vals I Γ) → Truth ρ n ≡ not (Truth ρ p)
  unfolding means holds op_of op_at class_of lookup
  opposite_truth (negated p) ρ = refl
  opposite_truth (restored p) ρ = sym (not-not (Truth ρ p))

  opposite_formula : {p n : Tree} → Opposite p n → Accepted σ p Γ predicate → Formula n
  unfolding Accepted class_of lookup form_at
  opposite_formula (negated p) a = (refl, refl)
  opposite_formula (restored p) a = accepted_formula σ p Γ a.kids.0

  opposite_single : {p n : Tree} → Opposite p n → SingleIntegers p Γ → SingleIntegers n Γ
  unfolding SingleIntegers type_of class_of lookup form_at
  opposite_single (negated p) s = (tt, tt, tt, (s, tt))
  opposite_single (restored p) s = s.3.0

  opposite_alive : {p n : Tree} → Opposite p n → NoInterOverNothing I p Γ → NoInterOverNothing I n Γ
  unfolding NoInterOverNothing op_of op_at class_of lookup
  opposite_alive (negated p) a = (tt, tt, (a, tt))
  opposite_alive (restored p) a = a.2.0

  -- ---- ¬ of an order
  module _ (a b : Tree) where
    -- h is the order that g is not
    order_keeps : (g h : ℕ) → Formula (leaf h) → NoInter h → ((ρ : Vals I Γ) → not (Truth ρ (two g a b)) ≡ Truth ρ (two h a b))
        → SingleIntegers (¬ᵖ (two g a b)) Γ → Keeps I Γ (¬ᵖ (two g a b)) (two h a b)
    unfolding SingleIntegers NoInterOverNothing op_of op_at class_of lookup form_at
    order_keeps g h f n t s =
        keeps_truth I (¬ᵖ (two g a b)) (two h a b) Γ (refl, refl) f
        (premise.many_single I Γ h f (pair a b) (premise.kids_single I Γ g (pair a b) s.3.0))
        (λ l. premise.many_alive I Γ h n (pair a b) (premise.kids_alive I Γ g (pair a b) l.2.0)) (λ l ρ. kit.not_truth I Γ (two g a b) ρ ∙ t ρ)

    pub not_le_keeps : SingleIntegers (¬ᵖ (two #Le a b)) Γ → Keeps I Γ (¬ᵖ (two #Le a b)) (two #Gt a b)
    unfolding means holds op_of op_at class_of lookup form_at
    not_le_keeps = order_keeps #Le #Gt (refl, refl) (refl, refl) (λ ρ. refl)

    pub not_ge_keeps : SingleIntegers (¬ᵖ (two #Ge a b)) Γ → Keeps I Γ (¬ᵖ (two #Ge a b)) (two #Lt a b)
    unfolding means holds op_of op_at class_of lookup form_at
    not_ge_keeps = order_keeps #Ge #Lt (refl, refl) (refl, refl) (λ ρ. refl)

    pub not_gt_keeps : SingleIntegers (¬ᵖ (two #Gt a b)) Γ → Keeps I Γ (¬ᵖ (two #Gt a b)) (two #Le a b)
    unfolding means holds op_of op_at class_of lookup form_at
    not_gt_keeps = order_keeps #Gt #Le (refl, refl) (refl, refl) (λ ρ. not-not (le_int (val I (means I a Γ) ρ int) (val I (means I b Γ) ρ int)))

    pub not_lt_keeps : SingleIntegers (¬ᵖ (two #Lt a b)) Γ → Keeps I Γ (¬ᵖ (two #Lt a b)) (two #Ge a b)
    unfolding means holds op_of op_at class_of lookup form_at
    not_lt_keeps = order_keeps #Lt #Ge (refl, refl) (refl, refl) (λ ρ. not-not (le_int (val I (means I b Γ) ρ int) (val I (means I a Γ) ρ int)))

  -- ---- ¬ of E = FALSE, E = TRUE
  -- x and y are the two truth values
  record Flipped (x y : Tree) : Type 0 where
    type : type_of x Γ ≡ bool
    flips : (ρ : Vals I Γ) → val I (means I y Γ) ρ bool ≡ not (val I (means I x Γ) ρ bool)
    single : SingleIntegers y Γ
    alive : NoInterOverNothing I y Γ

  false_true : Flipped (leaf #False) (leaf #True)
  unfolding SingleIntegers NoInterOverNothing type_of means value_of op_of op_at class_of lookup form_at
  false_true = record { type = refl; flips = λ ρ. refl; single = (tt, tt, tt, tt); alive = (tt, tt, tt) }

  true_false : Flipped (leaf #True) (leaf #False)
  unfolding SingleIntegers NoInterOverNothing type_of means value_of op_of op_at class_of lookup form_at
  true_false = record { type = refl; flips = λ ρ. refl; single = (tt, tt, tt, tt); alive = (tt, tt, tt) }

  module _ (x y : Tree) (f : Flipped x y) (e : Tree) where
    right_truth : type_of e Γ ≡ bool → (ρ : Vals I Γ) → not (Truth ρ (e ≐ x)) ≡ Truth ρ (e ≐ y)
    unfolding same
    right_truth h ρ =
        ap not (kit.equal_truth I Γ e x bool h ρ) ∙ not_beq_right (val I (means I e Γ) ρ bool) (val I (means I x Γ) ρ bool)
        ∙ ap (λ b. beq (val I (means I e Γ) ρ bool) b) (sym (f.flips ρ)) ∙ sym (kit.equal_truth I Γ e y bool h ρ)

    left_truth : type_of y Γ ≡ bool → (ρ : Vals I Γ) → not (Truth ρ (x ≐ e)) ≡ Truth ρ (y ≐ e)
    unfolding same
    left_truth h ρ =
        ap not (kit.equal_truth I Γ x e bool f.type ρ) ∙ not_beq_left (val I (means I x Γ) ρ bool) (val I (means I e Γ) ρ bool)
        ∙ ap (λ b. beq b (val I (means I e Γ) ρ bool)) (sym (f.flips ρ)) ∙ sym (kit.equal_truth I Γ y e bool h ρ)

    right_keeps : Accepted σ (¬ᵖ (e ≐ x)) Γ predicate → SingleIntegers (¬ᵖ (e ≐ x)) Γ → Keeps I Γ (¬ᵖ (e ≐ x)) (e ≐ y)
    unfolding Accepted SingleIntegers NoInterOverNothing type_of op_of op_at class_of lookup form_at
    right_keeps a s =
        let h = a.kids.0.fits in
        let k = f.type in
        keeps_truth I (¬ᵖ (e ≐ x)) (e ≐ y) Γ (refl, refl) (refl, refl)
        (premise.two_single I Γ #Equal (refl, refl) e y s.3.0.3.0 f.single)
        (λ l. premise.two_alive I Γ #Equal (refl, refl) e y l.2.0.2.0 f.alive)
        (λ l ρ. kit.not_truth I Γ (e ≐ x) ρ ∙ right_truth (cc) ρ)

    left_keeps : type_of y Γ ≡ bool → SingleIntegers (¬ᵖ (x ≐ e)) Γ → Keeps I Γ (¬ᵖ (x ≐ e)) (y ≐ e)
    unfolding SingleIntegers NoInterOverNothing op_of op_at class_of lookup form_at
    left_keeps h s =
        keeps_truth I (¬ᵖ (x ≐ e)) (y ≐ e) Γ (refl, refl) (refl, refl)
        (premise.two_single I Γ #Equal (refl, refl) y e f.single s.3.0.3.1.0)
        (λ l. premise.two_alive I Γ #Equal (refl, refl) y e f.alive l.2.0.2.1.0)
        (λ l ρ. kit.not_truth I Γ (x ≐ e) ρ ∙ left_truth h ρ)

  module _ (e : Tree) where
    pub not_false_right_keeps : Accepted σ (¬ᵖ (e ≐ leaf #False)) Γ predicate → SingleIntegers (¬ᵖ (e ≐ leaf #False)) Γ
        → Keeps I Γ (¬ᵖ (e ≐ leaf #False)) (e ≐ leaf #True)
    not_false_right_keeps = right_keeps (leaf #False) (leaf #True) false_true e

    pub not_true_right_keeps : Accepted σ (¬ᵖ (e ≐ leaf #True)) Γ predicate → SingleIntegers (¬ᵖ (e ≐ leaf #True)) Γ
        → Keeps I Γ (¬ᵖ (e ≐ leaf #True)) (e ≐ leaf #False)
    not_true_right_keeps = right_keeps (leaf #True) (leaf #False) true_false e

    pub not_false_left_keeps : SingleIntegers (¬ᵖ (leaf #False ≐ e)) Γ → Keeps I Γ (¬ᵖ (leaf #False ≐ e)) (leaf #True ≐ e)
    unfolding true_false
    not_false_left_keeps = left_keeps (leaf #False) (leaf #True) false_true e true_false.type

    pub not_true_left_keeps : SingleIntegers (¬ᵖ (leaf #True ≐ e)) Γ → Keeps I Γ (¬ᵖ (leaf #True ≐ e)) (leaf #False ≐ e)
    not_true_left_keeps = left_keeps (leaf #True) (leaf #False) true_false e false_true.type

  -- ---- ⇒
  module _ (p : Tree) where
    pub imp_top_left_keeps : Accepted σ (⊤ ⇒ p) Γ predicate → SingleIntegers (⊤ ⇒ p) Γ → Keeps I Γ (⊤ ⇒ p) p
    unfolding Accepted SingleIntegers NoInterOverNothing means holds op_of op_at class_of lookup form_at
    imp_top_left_keeps a s = keeps_truth I (⊤ ⇒ p) p Γ (refl, refl) (accepted_formula σ p Γ a.kids.1.0) s.3.1.0
        (λ l. l.2.1.0) (λ l ρ. refl)

    pub imp_bottom_left_keeps : Keeps I Γ (⊥ᵖ ⇒ p) ⊤
    unfolding means holds op_of op_at class_of lookup form_at
    imp_bottom_left_keeps = keeps_truth I (⊥ᵖ ⇒ p) ⊤ Γ (refl, refl) (refl, refl) (premise.leaf_single I Γ #BTrue (refl, refl))
        (λ l. premise.leaf_alive I Γ #BTrue (refl, refl)) (λ l ρ. refl)

    pub imp_top_right_keeps : Keeps I Γ (p ⇒ ⊤) ⊤
    unfolding means holds op_of op_at class_of lookup form_at
    imp_top_right_keeps = keeps_truth I (p ⇒ ⊤) ⊤ Γ (refl, refl) (refl, refl) (premise.leaf_single I Γ #BTrue (refl, refl))
        (λ l. premise.leaf_alive I Γ #BTrue (refl, refl)) (λ l ρ. or-true (not (Truth ρ p)))

    pub imp_self_keeps : Keeps I Γ (p ⇒ p) ⊤
    unfolding means holds op_of op_at class_of lookup form_at
    imp_self_keeps = keeps_truth I (p ⇒ p) ⊤ Γ (refl, refl) (refl, refl) (premise.leaf_single I Γ #BTrue (refl, refl))
        (λ l. premise.leaf_alive I Γ #BTrue (refl, refl)) (λ l ρ. imp_self (Truth ρ p))

    pub imp_not_left_keeps : Accepted σ (¬ᵖ p ⇒ p) Γ predicate → SingleIntegers (¬ᵖ p ⇒ p) Γ → Keeps I Γ (¬ᵖ p ⇒ p) p
    unfolding Accepted SingleIntegers NoInterOverNothing means holds op_of op_at class_of lookup form_at
    imp_not_left_keeps a s =
        keeps_truth I (¬ᵖ p ⇒ p) p Γ (refl, refl) (accepted_formula σ p Γ a.kids.1.0) s.3.1.0 (λ l. l.2.1.0)
        (λ l ρ. imp_not_left (Truth ρ p))

    pub imp_not_right_keeps : SingleIntegers (p ⇒ ¬ᵖ p) Γ → Keeps I Γ (p ⇒ ¬ᵖ p) (¬ᵖ p)
    unfolding SingleIntegers NoInterOverNothing means holds op_of op_at class_of lookup form_at
    imp_not_right_keeps s =
        keeps_truth I (p ⇒ ¬ᵖ p) (¬ᵖ p) Γ (refl, refl) (refl, refl) s.3.1.0 (λ l. l.2.1.0) (λ l ρ. imp_not_right (Truth ρ p))

  pub imp_bottom_right_keeps : (p n : Tree) → Opposite p n → Accepted σ (p ⇒ ⊥ᵖ) Γ predicate → SingleIntegers (p ⇒ ⊥ᵖ) Γ → Keeps I Γ (p ⇒ ⊥ᵖ) n
  unfolding Accepted SingleIntegers NoInterOverNothing means holds op_of op_at class_of lookup form_at
  imp_bottom_right_keeps p n o a s =
      keeps_truth I (p ⇒ ⊥ᵖ) n Γ (refl, refl) (opposite_formula o a.kids.0) (opposite_single o s.3.0) (λ l. opposite_alive o l.2.0)
      (λ l ρ. or-false (not (Truth ρ p)) ∙ sym (opposite_truth o ρ))

  -- what is among the operands of a true ∧ is true
  among_true : (ps : Forest) (q : Tree) → Among q ps → (ρ : Vals I Γ) → So (Truth ρ (⋀ ps)) → So (Truth ρ q)
  unfolding means holds op_of op_at class_of lookup
  among_true ps q i ρ h = (so_all (λ k. truth I k ρ) (means_all I ps Γ)).0 h (means I q Γ) (many.among_means I Γ q ps i)

  pub imp_among_keeps : (ps : Forest) (q : Tree) → Among q ps → Keeps I Γ (⋀ ps ⇒ q) ⊤
  unfolding class_of lookup form_at
  imp_among_keeps ps q i =
      keeps_truth I (⋀ ps ⇒ q) ⊤ Γ (refl, refl) (refl, refl) (premise.leaf_single I Γ #BTrue (refl, refl))
      (λ l. premise.leaf_alive I Γ #BTrue (refl, refl))
      (λ l ρ. kit.implies_truth I Γ (⋀ ps) q ρ ∙ (so_imp (Truth ρ (⋀ ps)) (Truth ρ q)).1 (among_true ps q i ρ) ∙ sym (top_truth ρ))
    where
      top_truth : (ρ : Vals I Γ) → truth I (means I ⊤ Γ) ρ ≡ true
      top_truth ρ = unfold means holds op_of op_at class_of lookup in refl

  pub imp_opposite_keeps : (ps : Forest) (q m : Tree) → Opposite q m → Among m ps → SingleIntegers (⋀ ps ⇒ q) Γ → Keeps I Γ (⋀ ps ⇒ q) (¬ᵖ (⋀ ps))
  unfolding SingleIntegers NoInterOverNothing op_of op_at class_of lookup form_at
  imp_opposite_keeps ps q m o i s =
      keeps_truth I (⋀ ps ⇒ q) (¬ᵖ (⋀ ps)) Γ (refl, refl) (refl, refl) (premise.one_single I Γ #Not (refl, refl) (⋀ ps) s.3.0)
      (λ l. premise.one_alive I Γ #Not (refl, refl) (⋀ ps) l.2.0)
      (λ l ρ. kit.implies_truth I Γ (⋀ ps) q ρ ∙ imp_apart (Truth ρ (⋀ ps)) (Truth ρ q)
      (λ h. rw (opposite_truth o ρ) at (among_true ps m i ρ h)) ∙ sym (kit.not_truth I Γ (⋀ ps) ρ))

  -- ---- ⇔
  module _ (p : Tree) where
    pub eqv_top_right_keeps : Accepted σ (p ⇔ ⊤) Γ predicate → SingleIntegers (p ⇔ ⊤) Γ → Keeps I Γ (p ⇔ ⊤) p
    unfolding Accepted SingleIntegers NoInterOverNothing means holds op_of op_at class_of lookup form_at
    eqv_top_right_keeps a s = keeps_truth I (p ⇔ ⊤) p Γ (refl, refl) (accepted_formula σ p Γ a.kids.0) s.3.0 (λ l. l.2.0)
        (λ l ρ. beq_true (Truth ρ p))

    pub eqv_top_left_keeps : Accepted σ (⊤ ⇔ p) Γ predicate → SingleIntegers (⊤ ⇔ p) Γ → Keeps I Γ (⊤ ⇔ p) p
    unfolding Accepted SingleIntegers NoInterOverNothing means holds op_of op_at class_of lookup form_at
    eqv_top_left_keeps a s = keeps_truth I (⊤ ⇔ p) p Γ (refl, refl) (accepted_formula σ p Γ a.kids.1.0) s.3.1.0 (λ l. l.2.1.0)
        (λ l ρ. true_beq_is (Truth ρ p))

    pub eqv_self_keeps : Keeps I Γ (p ⇔ p) ⊤
    unfolding means holds op_of op_at class_of lookup form_at
    eqv_self_keeps = keeps_truth I (p ⇔ p) ⊤ Γ (refl, refl) (refl, refl) (premise.leaf_single I Γ #BTrue (refl, refl))
        (λ l. premise.leaf_alive I Γ #BTrue (refl, refl)) (λ l ρ. beq_self (Truth ρ p))

    pub eqv_not_right_keeps : Keeps I Γ (p ⇔ ¬ᵖ p) ⊥ᵖ
    unfolding means holds op_of op_at class_of lookup form_at
    eqv_not_right_keeps = keeps_truth I (p ⇔ ¬ᵖ p) ⊥ᵖ Γ (refl, refl) (refl, refl) (premise.leaf_single I Γ #BFalse (refl, refl))
        (λ l. premise.leaf_alive I Γ #BFalse (refl, refl)) (λ l ρ. beq_not_right (Truth ρ p))

    pub eqv_not_left_keeps : Keeps I Γ (¬ᵖ p ⇔ p) ⊥ᵖ
    unfolding means holds op_of op_at class_of lookup form_at
    eqv_not_left_keeps = keeps_truth I (¬ᵖ p ⇔ p) ⊥ᵖ Γ (refl, refl) (refl, refl) (premise.leaf_single I Γ #BFalse (refl, refl))
        (λ l. premise.leaf_alive I Γ #BFalse (refl, refl)) (λ l ρ. beq_not_left (Truth ρ p))

    -- ---- ¬
    pub not_not_keeps : Accepted σ (¬ᵖ (¬ᵖ p)) Γ predicate → SingleIntegers (¬ᵖ (¬ᵖ p)) Γ → Keeps I Γ (¬ᵖ (¬ᵖ p)) p
    unfolding Accepted SingleIntegers NoInterOverNothing means holds op_of op_at class_of lookup form_at
    not_not_keeps a s =
        keeps_truth I (¬ᵖ (¬ᵖ p)) p Γ (refl, refl) (accepted_formula σ p Γ a.kids.0.kids.0) s.3.0.3.0 (λ l. l.2.0.2.0)
        (λ l ρ. not-not (Truth ρ p))

  pub eqv_bottom_right_keeps : (p n : Tree) → Opposite p n → Accepted σ (p ⇔ ⊥ᵖ) Γ predicate → SingleIntegers (p ⇔ ⊥ᵖ) Γ → Keeps I Γ (p ⇔ ⊥ᵖ) n
  unfolding Accepted SingleIntegers NoInterOverNothing means holds op_of op_at class_of lookup form_at
  eqv_bottom_right_keeps p n o a s =
      keeps_truth I (p ⇔ ⊥ᵖ) n Γ (refl, refl) (opposite_formula o a.kids.0) (opposite_single o s.3.0) (λ l. opposite_alive o l.2.0)
      (λ l ρ. beq_false (Truth ρ p) ∙ sym (opposite_truth o ρ))

  pub eqv_bottom_left_keeps : (p n : Tree) → Opposite p n → Accepted σ (⊥ᵖ ⇔ p) Γ predicate → SingleIntegers (⊥ᵖ ⇔ p) Γ → Keeps I Γ (⊥ᵖ ⇔ p) n
  unfolding Accepted SingleIntegers NoInterOverNothing means holds op_of op_at class_of lookup form_at
  eqv_bottom_left_keeps p n o a s =
      keeps_truth I (⊥ᵖ ⇔ p) n Γ (refl, refl) (opposite_formula o a.kids.1.0) (opposite_single o s.3.1.0)
      (λ l. opposite_alive o l.2.1.0)
      (λ l ρ. false_beq_is (Truth ρ p) ∙ sym (opposite_truth o ρ))

  pub not_top_keeps : Keeps I Γ (¬ᵖ ⊤) ⊥ᵖ
  unfolding means holds op_of op_at class_of lookup form_at
  not_top_keeps = keeps_truth I (¬ᵖ ⊤) ⊥ᵖ Γ (refl, refl) (refl, refl) (premise.leaf_single I Γ #BFalse (refl, refl))
      (λ l. premise.leaf_alive I Γ #BFalse (refl, refl)) (λ l ρ. refl)

  pub not_bottom_keeps : Keeps I Γ (¬ᵖ ⊥ᵖ) ⊤
  unfolding means holds op_of op_at class_of lookup form_at
  not_bottom_keeps = keeps_truth I (¬ᵖ ⊥ᵖ) ⊤ Γ (refl, refl) (refl, refl) (premise.leaf_single I Γ #BTrue (refl, refl))
      (λ l. premise.leaf_alive I Γ #BTrue (refl, refl)) (λ l ρ. refl)
