-- The equations of E = ∅ for operators with any number of operands, for ⋃, and for id, prj1, prj2.
-- Main results: ext_emptied, cup_emptied, override_emptied, qunion_emptied, id_emptied, prj1_emptied, prj2_emptied; head_type.
use mathlib.Core.Path.{◌≡◌, refl, sym, ap, ◌∙◌, fun_ext}
use mathlib.Core.Bool.{not, ◌||◌}
use mathlib.Core.List.{List, [], ◌∷◌}
use Prim.Native.Nat.{ℕ, ◌≤◌}
use native.Mathlib.Omega.{arith}
use Rattle.frame.specs.Types.{Ty, pow, prod}
use Rattle.frame.specs.Trees.{Tree, Forest, nil, cons, count, many, typed, bodied, map_f}
use Rattle.frame.specs.Tags.{class_of, lookup, form_at}
use Rattle.frame.specs.Operators.{#BUnion, #Ovr, #QUnion, #KIdGen, #KPrj1Gen, #KPrj2Gen, #Forall, #LAnd, #LImp}
use Rattle.frame.specs.Places.{Ctx, push}
use Rattle.typing.specs.Typing.{relation, ty, type_of, types_in}
use Rattle.rules.specs.Equations.{⊥ᵖ, ◌⇒◌, ⋀, ∀ᵖ, ext, ◌≐∅}
use Rattle.meaning.specs.Lists.{any, all}
use Rattle.meaning.specs.Operations.{op_at, op_of}
use Rattle.meaning.specs.Meaning.{
  Interpretation,
  Vals,
  Den,
  truth,
  val,
  set_of,
  some,
  equals,
  overridden,
  value_of,
  bound_set,
  choices,
  means,
  means_all,
}
use Rattle.meaning.specs.Premises.{NoInt, SingleIntegers, SingleIntegersIn, NoInterOverNothing, NoInterOverNothingIn}
use Rattle.meaning.proofs.Sets.{some_false, some_any}
use Rattle.meaning.proofs.Kit as kit
use Rattle.truth.proofs.EmptySets as set
use Rattle.truth.proofs.EmptySetsMore as more
use Rattle.truth.proofs.Premises as premise
use Rattle.truth.proofs.Many.{Each, map_single, map_alive, empties_all}
use Rattle.truth.proofs.Emptied.{Emptied, emptied}
use Rattle.truth.proofs.EmptyRulesKit.{false_emptied}

-- the first of operands of one type
pub head_type : (t : Ty) (ks : Forest) (Γ : Ctx) → 1 ≤ count ks → Each t (types_in ks Γ) → ty 0 (types_in ks Γ) ≡ t
unfolding type_of
head_type t nil Γ l e = absurd (omega arith)
head_type t (cons k ks) Γ l e = e.0

module _ (I : Interpretation) (σ : ℕ → Ty) (Γ : Ctx) where
  -- {a, …, b}
  pub ext_emptied : (as' : Forest) → 1 ≤ count as' → SingleIntegers (ext as') Γ → Emptied I σ Γ (ext as') ⊥ᵖ
  unfolding SingleIntegers means value_of type_of op_of op_at class_of lookup form_at any
  ext_emptied nil l s = absurd (omega arith)
  ext_emptied (cons a as') l s =
      let u = type_of a Γ in
      false_emptied I Γ σ (ext (cons a as')) u refl
      (λ ρ. set.ext_some I.size u s.1 (val I (means I a Γ) ρ u) (λ x. any (λ k. equals I u x (val I k ρ u)) (means_all I as' Γ)))

  -- ---- A = ∅ ∧ … ∧ B = ∅
  module _ (e : Tree) (ks : Forest) (u : Ty) (he : type_of e Γ ≡ pow u) (h : Each (pow u) (types_in ks Γ)) where
    each_emptied : SingleIntegersIn ks Γ → (NoInterOverNothing I e Γ → NoInterOverNothingIn I ks Γ)
        → ((ρ : Vals I Γ) → some I u (set_of I (means I e Γ) ρ u) ≡ any (λ d. some I u (set_of I d ρ u)) (means_all I ks Γ))
        → Emptied I σ Γ e (⋀ (map_f (◌≐∅ Γ) ks))
    unfolding class_of lookup form_at
    each_emptied s l m =
        emptied I σ Γ e (⋀ (map_f (◌≐∅ Γ) ks)) u he (refl, refl)
        (premise.many_single I Γ #LAnd (refl, refl) (map_f (◌≐∅ Γ) ks) (map_single (◌≐∅ Γ) Γ Γ (λ k. premise.empty_single I Γ k) ks s))
        (λ a. premise.many_alive I Γ #LAnd (refl, refl) (map_f (◌≐∅ Γ) ks) (map_alive I (◌≐∅ Γ) Γ Γ (λ k. premise.empty_alive I Γ k) ks (l a)))
        (λ a ρ. kit.and_truth I Γ (map_f (◌≐∅ Γ) ks) ρ ∙ empties_all I Γ u ρ ks h ∙ ap not (sym (m ρ)))

  module _ (ks : Forest) (few : 1 ≤ count ks) where
    pub cup_emptied : (u : Ty) → Each (pow u) (types_in ks Γ) → SingleIntegers (many #BUnion ks) Γ
        → Emptied I σ Γ (many #BUnion ks) (⋀ (map_f (◌≐∅ Γ) ks))
    unfolding SingleIntegers NoInterOverNothing means value_of type_of op_of op_at class_of lookup form_at
    cup_emptied u h s =
        let e : type_of (many #BUnion ks) Γ ≡ pow u = head_type (pow u) ks Γ few h in
        each_emptied (many #BUnion ks) ks u e h s.3 (λ a. a.2)
        (λ ρ. some_any I.size u (premise.no_int (many #BUnion ks) Γ u s e) (λ d. set_of I d ρ u) (means_all I ks Γ))

    overrides : (u v : Ty) → NoInt u → NoInt v → (ρ : Vals I Γ) (ds : List (Den I Γ))
        → some I (prod u v) (λ a. overridden I ds ρ u v a.0 a.1) ≡ any (λ d. some I (prod u v) (set_of I d ρ (prod u v))) ds
    unfolding overridden any
    overrides u v n m ρ [] = some_false I.size (prod u v)
    overrides u v n m ρ (d ∷ ds) =
        more.ovr_some I.size u v n m (set_of I d ρ (prod u v)) (λ a. overridden I ds ρ u v a.0 a.1)
        ∙ ap (λ b. some I (prod u v) (set_of I d ρ (prod u v)) || b) (overrides u v n m ρ ds)

    pub override_emptied : (u v : Ty) → Each (relation u v) (types_in ks Γ) → SingleIntegers (many #Ovr ks) Γ
        → Emptied I σ Γ (many #Ovr ks) (⋀ (map_f (◌≐∅ Γ) ks))
    unfolding SingleIntegers NoInterOverNothing means value_of type_of op_of op_at class_of lookup form_at
    override_emptied u v h s =
        let e : type_of (many #Ovr ks) Γ ≡ relation u v = head_type (relation u v) ks Γ few h in
        let n = premise.no_int (many #Ovr ks) Γ (prod u v) s e in
        each_emptied (many #Ovr ks) ks (prod u v) e h s.3 (λ a. a.2) (λ ρ. overrides u v n.0 n.1 ρ (means_all I ks Γ))

  -- ⋃
  pub qunion_emptied : (xs : List Ty) (p e : Tree) (u : Ty) → type_of e (push xs Γ) ≡ pow u → SingleIntegers (bodied #QUnion xs p e) Γ
      → Emptied I σ Γ (bodied #QUnion xs p e) (∀ᵖ xs (p ⇒ ◌≐∅ (push xs Γ) e))
  unfolding SingleIntegers NoInterOverNothing means bound_set type_of op_of op_at class_of lookup form_at
  qunion_emptied xs p e u h s =
      let Δ = push xs Γ in
      emptied I σ Γ (bodied #QUnion xs p e) (∀ᵖ xs (p ⇒ ◌≐∅ Δ e)) u h (refl, refl)
      (premise.bound_single I Γ #Forall (refl, refl) (λ us. refl) xs (p ⇒ ◌≐∅ Δ e) s.0 s.2
      (premise.two_single I Δ #LImp (refl, refl) p (◌≐∅ Δ e) s.3.0 (premise.empty_single I Δ e s.3.1.0)))
      (λ a. premise.bound_alive I Γ #Forall (refl, refl) (λ us. refl) xs (p ⇒ ◌≐∅ Δ e) (refl, refl)
      (premise.two_alive I Δ #LImp (refl, refl) p (◌≐∅ Δ e) a.2.0 (premise.empty_alive I Δ e a.2.1.0)))
      (λ a ρ. kit.forall_truth I Γ xs (p ⇒ ◌≐∅ Δ e) ρ
      ∙ ap (λ g. all g (choices I xs Γ ρ)) (fun_ext (λ τ. kit.implies_truth I Δ p (◌≐∅ Δ e) τ ∙ ap (λ b. not (truth I (means I p Δ) τ) || b)
      (kit.empty_truth I Δ e u h τ)))
      ∙ set.qunion_none I.size u (premise.no_int e Δ u s.3.1.0 h) (truth I (means I p Δ)) (λ τ. set_of I (means I e Δ) τ u) (choices I xs Γ ρ))

  -- ---- id, prj1, prj2
  pub id_emptied : (t u : Ty) → t ≡ relation u u → SingleIntegers (typed #KIdGen t) Γ → Emptied I σ Γ (typed #KIdGen t) ⊥ᵖ
  unfolding means value_of type_of op_of op_at class_of lookup form_at
  id_emptied t u h s = false_emptied I Γ σ (typed #KIdGen t) (prod u u) h
      (λ ρ. set.id_some I.size u (premise.no_int (typed #KIdGen t) Γ (prod u u) s h).0)

  module _ (t u v : Ty) where
    pub prj1_emptied : t ≡ relation (prod u v) u → SingleIntegers (typed #KPrj1Gen t) Γ → Emptied I σ Γ (typed #KPrj1Gen t) ⊥ᵖ
    unfolding means value_of type_of op_of op_at class_of lookup form_at
    prj1_emptied h s =
        let n = premise.no_int (typed #KPrj1Gen t) Γ (prod (prod u v) u) s h in
        false_emptied I Γ σ (typed #KPrj1Gen t) (prod (prod u v) u) h (λ ρ. set.prj1_some I.size u v n.0.0 n.0.1)

    pub prj2_emptied : t ≡ relation (prod u v) v → SingleIntegers (typed #KPrj2Gen t) Γ → Emptied I σ Γ (typed #KPrj2Gen t) ⊥ᵖ
    unfolding means value_of type_of op_of op_at class_of lookup form_at
    prj2_emptied h s =
        let n = premise.no_int (typed #KPrj2Gen t) Γ (prod (prod u v) v) s h in
        false_emptied I Γ σ (typed #KPrj2Gen t) (prod (prod u v) v) h (λ ρ. set.prj2_some I.size u v n.0.0 n.0.1)
