-- Each equation of E = ∅ and E = Ty is proved once: a predicate says that E is empty, that E is full. Here such a predicate
-- may stand for E = ∅, E ⊆ ∅ and ∅ = E, for E = Ty and Ty = E.
-- Main results: Emptied, Filled, emptiness_keeps, fullness_keeps, emptiness_single, fullness_single (the premises for E out of
-- those for E = ∅), emptied, filled (by the type of the elements of E), emptied_by, filled_by (where the new predicate is F = ∅,
-- F = Ty).
use mathlib.Core.Path.{◌≡◌, refl, sym, ap, ◌∙◌}
use mathlib.Core.Bool.{not, ◌||◌}
use Prim.Native.Nat.{ℕ}
use Rattle.frame.specs.Types.{Ty, pow}
use Rattle.frame.specs.Trees.{Tree}
use Rattle.frame.specs.Tags.{predicate, class_of, lookup, form_at}
use Rattle.frame.specs.Places.{Ctx}
use Rattle.typing.specs.Typing.{element, type_of}
use Rattle.typing.specs.Accepted.{Accepted}
use Rattle.typing.proofs.TypeExpression.{express_type}
use Rattle.rules.specs.Equations.{◌≐◌, ◌⊆◌, ∅, Ty_of, Emptiness, is-∅, in-∅, ∅-is, Fullness, is_Ty, Ty_is, ◌≐∅, ◌≐Ty}
use Rattle.meaning.specs.Operations.{op_at, op_of}
use Rattle.meaning.specs.Meaning.{Interpretation, Vals, truth, set_of, some, every, equals, means}
use Rattle.meaning.specs.Premises.{SingleIntegers, NoInterOverNothing}
use Rattle.meaning.proofs.Sets.{is_empty_lem, empty_is, no_members, full_is}
use Rattle.meaning.proofs.Kit as kit
use Rattle.truth.proofs.Sound.{Formula, Keeps, keeps_truth}
use Rattle.truth.proofs.Premises as premise

module _ (I : Interpretation) (σ : ℕ → Ty) (Γ : Ctx) where
  -- new says that E is empty
  pub record Emptied (e new : Tree) : Type 0 where
    pub formula : Formula new
    pub single : SingleIntegers new Γ
    pub alive : NoInterOverNothing I e Γ → NoInterOverNothing I new Γ
    pub says : NoInterOverNothing I e Γ → (ρ : Vals I Γ)
        → truth I (means I new Γ) ρ ≡ not (some I (element (type_of e Γ)) (set_of I (means I e Γ) ρ (element (type_of e Γ))))

  -- new says that E has every element of its type
  pub record Filled (e new : Tree) : Type 0 where
    pub formula : Formula new
    pub single : SingleIntegers new Γ
    pub alive : NoInterOverNothing I e Γ → NoInterOverNothing I new Γ
    pub says : NoInterOverNothing I e Γ → (ρ : Vals I Γ)
        → truth I (means I new Γ) ρ ≡ every I (element (type_of e Γ)) (set_of I (means I e Γ) ρ (element (type_of e Γ)))

  -- the same by the type u of the elements of E
  module _ (e new : Tree) (u : Ty) (he : type_of e Γ ≡ pow u) (f : Formula new) (s : SingleIntegers new Γ)
      (l : NoInterOverNothing I e Γ → NoInterOverNothing I new Γ) where
    pub emptied : (NoInterOverNothing I e Γ → (ρ : Vals I Γ) → truth I (means I new Γ) ρ ≡ not (some I u (set_of I (means I e Γ) ρ u))) → Emptied e new
    emptied k = record { formula = f; single = s; alive = l; says = rw he k }

    pub filled : (NoInterOverNothing I e Γ → (ρ : Vals I Γ) → truth I (means I new Γ) ρ ≡ every I u (set_of I (means I e Γ) ρ u)) → Filled e new
    filled k = record { formula = f; single = s; alive = l; says = rw he k }

  -- E = ∅ is F = ∅, and E = Ty is F = Ty; u and v are the types of the elements of E and F
  module _ (e f : Tree) (u v : Ty) (he : type_of e Γ ≡ pow u) (hf : type_of f Γ ≡ pow v) (s : SingleIntegers f Γ)
      (l : NoInterOverNothing I e Γ → NoInterOverNothing I f Γ) where
    pub emptied_by : (NoInterOverNothing I e Γ → (ρ : Vals I Γ)
        → some I v (set_of I (means I f Γ) ρ v) ≡ some I u (set_of I (means I e Γ) ρ u)) → Emptied e (◌≐∅ Γ f)
    unfolding class_of lookup form_at
    emptied_by k = record {
      formula = (refl, refl);
      single = premise.empty_single I Γ f s;
      alive = λ a. premise.empty_alive I Γ f (l a);
      says = λ a ρ. rw he (kit.empty_truth I Γ f v hf ρ ∙ ap not (k a ρ));
    }

    pub filled_by : (NoInterOverNothing I e Γ → (ρ : Vals I Γ)
        → every I v (set_of I (means I f Γ) ρ v) ≡ every I u (set_of I (means I e Γ) ρ u)) → Filled e (◌≐Ty Γ f)
    unfolding class_of lookup form_at
    filled_by k = record {
      formula = (refl, refl);
      single = premise.full_single I Γ f s;
      alive = λ a. premise.full_alive I Γ f (l a);
      says = λ a ρ. rw he (kit.full_truth I Γ f v hf ρ ∙ k a ρ);
    }

  -- ---- what the forms hold of E
  pub emptiness_single : {e l : Tree} → Emptiness e l → SingleIntegers l Γ → SingleIntegers e Γ
  unfolding SingleIntegers class_of lookup form_at
  emptiness_single (is-∅ e t) s = s.3.0
  emptiness_single (in-∅ e t) s = s.3.0
  emptiness_single (∅-is e t) s = s.3.1.0

  pub fullness_single : {e l : Tree} → Fullness Γ e l → SingleIntegers l Γ → SingleIntegers e Γ
  unfolding SingleIntegers class_of lookup form_at
  fullness_single (is_Ty e) s = s.3.0
  fullness_single (Ty_is e) s = s.3.1.0

  -- ---- the forms, of a set E
  module _ (e new : Tree) (set : type_of e Γ ≡ pow (element (type_of e Γ))) where
    u : Ty
    u = element (type_of e Γ)

    equal_empty : (t : Ty) → Emptied e new → Keeps I Γ (e ≐ ∅ t) new
    unfolding u NoInterOverNothing op_of op_at class_of lookup form_at
    equal_empty t r =
        keeps_truth I (e ≐ ∅ t) new Γ (refl, refl) r.formula r.single (λ a. r.alive a.2.0) (λ a ρ.
        kit.equal_truth I Γ e (∅ t) (pow u) set ρ ∙ ap (λ x. equals I (pow u) (set_of I (means I e Γ) ρ u) x) (kit.none_of I Γ t ρ u)
        ∙ is_empty_lem I.size u (set_of I (means I e Γ) ρ u) ∙ sym (r.says a.2.0 ρ))

    within_empty : (t : Ty) → Emptied e new → Keeps I Γ (e ⊆ ∅ t) new
    unfolding u NoInterOverNothing op_of op_at class_of lookup form_at
    within_empty t r =
        keeps_truth I (e ⊆ ∅ t) new Γ (refl, refl) r.formula r.single (λ a. r.alive a.2.0) (λ a ρ.
        kit.subset_truth I Γ e (∅ t) u set ρ ∙ ap (λ f. every I u (λ x. not (set_of I (means I e Γ) ρ u x) || f x)) (kit.none_of I Γ t ρ u)
        ∙ no_members I.size u (set_of I (means I e Γ) ρ u) ∙ sym (r.says a.2.0 ρ))

    empty_equal : (t : Ty) → t ≡ type_of e Γ → Emptied e new → Keeps I Γ (∅ t ≐ e) new
    unfolding u NoInterOverNothing type_of op_of op_at class_of lookup form_at
    empty_equal t h r =
        keeps_truth I (∅ t ≐ e) new Γ (refl, refl) r.formula r.single (λ a. r.alive a.2.1.0) (λ a ρ.
        kit.equal_truth I Γ (∅ t) e (pow u) (h ∙ set) ρ ∙ ap (λ x. equals I (pow u) x (set_of I (means I e Γ) ρ u)) (kit.none_of I Γ t ρ u)
        ∙ empty_is I.size u (set_of I (means I e Γ) ρ u) ∙ sym (r.says a.2.1.0 ρ))

    equal_type : Filled e new → Keeps I Γ (◌≐Ty Γ e) new
    unfolding u NoInterOverNothing op_of op_at class_of lookup form_at
    equal_type r =
        keeps_truth I (◌≐Ty Γ e) new Γ (refl, refl) r.formula r.single (λ a. r.alive a.2.0) (λ a ρ.
        kit.full_truth I Γ e u set ρ ∙ sym (r.says a.2.0 ρ))

    type_equal : Filled e new → Keeps I Γ (Ty_of Γ e ≐ e) new
    unfolding u NoInterOverNothing op_of op_at class_of lookup form_at
    type_equal r =
        keeps_truth I (Ty_of Γ e ≐ e) new Γ (refl, refl) r.formula r.single (λ a. r.alive a.2.1.0) (λ a ρ.
        kit.equal_truth I Γ (Ty_of Γ e) e (pow u) (express_type u Γ) ρ ∙ ap
        (λ x. equals I (pow u) x (set_of I (means I e Γ) ρ u)) (kit.type_full I u Γ ρ)
        ∙ full_is I.size u (set_of I (means I e Γ) ρ u) ∙ sym (r.says a.2.1.0 ρ))

  pub emptiness_keeps : {e l new : Tree} → Emptiness e l → Accepted σ l Γ predicate → Emptied e new → Keeps I Γ l new
  unfolding Accepted type_of class_of lookup form_at
  emptiness_keeps {new = new} (is-∅ e t) a r =
      let h = a.fits in
      let k = a.kids.1.0.top.shaped in
      equal_empty e new (cc) t r
  emptiness_keeps {new = new} (in-∅ e t) a r = let h = a.fits in within_empty e new (cc) t r
  emptiness_keeps {new = new} (∅-is e t) a r =
      let h = a.fits in
      let k = a.kids.0.top.shaped in
      empty_equal e new (cc) t (cc) r

  pub fullness_keeps : {e l new : Tree} → Fullness Γ e l → Accepted σ l Γ predicate → Filled e new → Keeps I Γ l new
  unfolding Accepted type_of class_of lookup form_at
  fullness_keeps {new = new} (is_Ty e) a r = let h = a.fits in equal_type e new (cc (express_type (element (type_of e Γ)) Γ)) r
  fullness_keeps {new = new} (Ty_is e) a r = let h = a.fits in type_equal e new (cc (express_type (element (type_of e Γ)) Γ)) r
