-- The equations of the quantifiers keep what a predicate means.
-- Main results: forall_and_keeps, exists_or_keeps, exists_imp_keeps (places 85 to 87).
use mathlib.Core.Path.{◌≡◌, refl, sym, ◌∙◌}
use mathlib.Core.List.{List}
use Prim.Native.Nat.{ℕ}
use Rattle.frame.specs.Types.{Ty, bool}
use Rattle.frame.specs.Trees.{Tree, Forest, leaf, many, map_f}
use Rattle.frame.specs.Trees as tree
use Rattle.frame.specs.Operators.{#Exists, #Forall, #LAnd, #LImp, #LOr}
use Rattle.frame.specs.Tags.{predicate, binders_of, class_of, lookup, form_at, form_of}
use Rattle.frame.specs.Places.{Ctx, push}
use Rattle.typing.specs.Typing.{type_of, types_in}
use Rattle.typing.specs.Accepted.{Accepted}
use Rattle.rules.specs.Equations.{◌⇒◌, ⋀, ⋁, ∀ᵖ, ∃ᵖ}
use Rattle.meaning.specs.Lists.{any, all}
use Rattle.meaning.specs.Operations.{op_at, op_of}
use Rattle.meaning.specs.Meaning.{Interpretation, Vals, truth, choices, holds, quantified, means, means_all}
use Rattle.meaning.specs.Premises.{AllSingle, AllNoInt, SingleIntegers, SingleIntegersIn, NoInterOverNothing, NoInterOverNothingIn}
use Rattle.meaning.proofs.Lists.{all_swap, any_swap, any_imp}
use Rattle.meaning.proofs.Kit as kit
use Rattle.truth.proofs.Sound.{Formula, Keeps, keeps_truth}
use Rattle.truth.proofs.Premises.{NoInter}
use Rattle.truth.proofs.Premises as premise
use Rattle.truth.proofs.Many as many-law

module _ (I : Interpretation) (σ : ℕ → Ty) (Γ : Ctx) (xs : List Ty) where
  module _ (ps : Forest) where
    forall_and_truth : many-law.Each bool (types_in ps (push xs Γ)) → (ρ : Vals I Γ)
        → truth I (means I (∀ᵖ xs (⋀ ps)) Γ) ρ ≡ truth I (means I (⋀ (map_f (∀ᵖ xs) ps)) Γ) ρ
    unfolding means holds quantified op_of op_at class_of lookup
    forall_and_truth e ρ =
        all_swap (truth I) (choices I xs Γ ρ) (means_all I ps (push xs Γ))
        ∙ sym (many-law.map_all I (∀ᵖ xs) (push xs Γ) Γ bool ρ (λ d. all (truth I d) (choices I xs Γ ρ)) (λ k h. kit.forall_truth I Γ xs k ρ) ps e)

    exists_or_truth : many-law.Each bool (types_in ps (push xs Γ)) → (ρ : Vals I Γ)
        → truth I (means I (∃ᵖ xs (⋁ ps)) Γ) ρ ≡ truth I (means I (⋁ (map_f (∃ᵖ xs) ps)) Γ) ρ
    unfolding means holds quantified op_of op_at class_of lookup
    exists_or_truth e ρ =
        any_swap (truth I) (choices I xs Γ ρ) (means_all I ps (push xs Γ))
        ∙ sym (many-law.map_any I (∃ᵖ xs) (push xs Γ) Γ bool ρ (λ d. any (truth I d) (choices I xs Γ ρ)) (λ k h. kit.exists_truth I Γ xs k ρ) ps e)

    -- l is (q x·P) g … g (q x·Q)
    spread : (q g : ℕ) → Formula (leaf q) → ((us : List Ty) → binders_of (form_of q).layout us ≡ us) → NoInter q → Formula (leaf g) → NoInter g
        → (l : Tree) → Formula l → AllSingle xs → AllNoInt xs → SingleIntegersIn ps (push xs Γ)
        → (NoInterOverNothing I l Γ → NoInterOverNothingIn I ps (push xs Γ))
        → ((ρ : Vals I Γ) → truth I (means I l Γ) ρ ≡ truth I (means I (many g (map_f (tree.quantified q xs) ps)) Γ) ρ)
        → Keeps I Γ l (many g (map_f (tree.quantified q xs) ps))
    spread q g fq b nq fg ng l fl s n r k t =
        keeps_truth I l (many g (map_f (tree.quantified q xs) ps)) Γ fl fg
        (premise.many_single I Γ g fg (map_f (tree.quantified q xs) ps)
        (many-law.map_single (tree.quantified q xs) (push xs Γ) Γ (λ p h. premise.bound_single I Γ q fq b xs p s n h) ps r))
        (λ a. premise.many_alive I Γ g ng (map_f (tree.quantified q xs) ps)
        (many-law.map_alive I (tree.quantified q xs) (push xs Γ) Γ (λ p h. premise.bound_alive I Γ q fq b xs p nq h) ps (k a)))
        (λ a. t)

    -- ∀x·(P ∧ … ∧ Q) is (∀x·P) ∧ … ∧ (∀x·Q)
    pub forall_and_keeps : Accepted σ (∀ᵖ xs (⋀ ps)) Γ predicate → SingleIntegers (∀ᵖ xs (⋀ ps)) Γ → Keeps I Γ (∀ᵖ xs (⋀ ps)) (⋀ (map_f (∀ᵖ xs) ps))
    unfolding Accepted SingleIntegers NoInterOverNothing type_of op_of op_at class_of lookup form_at
    forall_and_keeps a s =
        spread #Forall #LAnd (refl, refl) (λ us. refl) (refl, refl) (refl, refl) (refl, refl) (∀ᵖ xs (⋀ ps)) (refl, refl) s.0 s.2
        s.3.0.3 (λ l. l.2.0.2)
        (forall_and_truth (many-law.each_alike bool (types_in ps (push xs Γ)) a.kids.0.fits))

    -- ∃x·(P ∨ … ∨ Q) is (∃x·P) ∨ … ∨ (∃x·Q)
    pub exists_or_keeps : Accepted σ (∃ᵖ xs (⋁ ps)) Γ predicate → SingleIntegers (∃ᵖ xs (⋁ ps)) Γ → Keeps I Γ (∃ᵖ xs (⋁ ps)) (⋁ (map_f (∃ᵖ xs) ps))
    unfolding Accepted SingleIntegers NoInterOverNothing type_of op_of op_at class_of lookup form_at
    exists_or_keeps a s =
        spread #Exists #LOr (refl, refl) (λ us. refl) (refl, refl) (refl, refl) (refl, refl) (∃ᵖ xs (⋁ ps)) (refl, refl) s.0 s.2
        s.3.0.3 (λ l. l.2.0.2)
        (exists_or_truth (many-law.each_alike bool (types_in ps (push xs Γ)) a.kids.0.fits))

  -- ∃x·(P ⇒ Q) is (∀x·P) ⇒ (∃x·Q)
  pub exists_imp_keeps : (p q : Tree) → SingleIntegers (∃ᵖ xs (p ⇒ q)) Γ → Keeps I Γ (∃ᵖ xs (p ⇒ q)) (∀ᵖ xs p ⇒ ∃ᵖ xs q)
  unfolding SingleIntegers NoInterOverNothing means holds quantified type_of op_of op_at class_of lookup form_at
  exists_imp_keeps p q s =
      keeps_truth I (∃ᵖ xs (p ⇒ q)) (∀ᵖ xs p ⇒ ∃ᵖ xs q) Γ (refl, refl) (refl, refl)
      (premise.two_single I Γ #LImp (refl, refl) (∀ᵖ xs p) (∃ᵖ xs q)
      (premise.bound_single I Γ #Forall (refl, refl) (λ us. refl) xs p s.0 s.2 s.3.0.3.0)
      (premise.bound_single I Γ #Exists (refl, refl) (λ us. refl) xs q s.0 s.2 s.3.0.3.1.0))
      (λ l. premise.two_alive I Γ #LImp (refl, refl) (∀ᵖ xs p) (∃ᵖ xs q)
      (premise.bound_alive I Γ #Forall (refl, refl) (λ us. refl) xs p (refl, refl) l.2.0.2.0)
      (premise.bound_alive I Γ #Exists (refl, refl) (λ us. refl) xs q (refl, refl) l.2.0.2.1.0))
      (λ l ρ. any_imp (truth I (means I p (push xs Γ))) (truth I (means I q (push xs Γ))) (choices I xs Γ ρ))
