-- What the trees that the equations build mean: their truth.
-- Main results: NAME-truth for NAME one of not, and, implies, equiv, forall, exists, equal, member, subset, empty (E = ∅), full
-- (E = Ty); type_full (a type's expression is everything); means_at (a node without types, by its operator).
use mathlib.Core.Path.{◌≡◌, refl, ap, ap₂, ◌∙◌, fun_ext}
use mathlib.Core.Bool.{true, false, not, ◌&&◌, ◌||◌, beq, or-true}
use mathlib.Core.List.{List, [], ◌∷◌}
use Rattle.frame.specs.Types.{Ty, bool, int, given, pow, prod}
use Rattle.frame.specs.Trees.{Tree, Forest, two, many, pair}
use Rattle.frame.specs.Tags.{class_of, lookup}
use Rattle.frame.specs.Operators.{#Equal, #In, #SubsetEq}
use Rattle.frame.specs.Places.{Ctx, push}
use Prim.Native.Nat.{ℕ}
use borrow.Author.Tests.{eq-eqb}
use Rattle.typing.specs.Typing.{type_of, types_in}
use Rattle.typing.specs.TypeExpression.{to_expression}
use Rattle.rules.specs.Equations.{¬ᵖ, ◌⇒◌, ◌⇔◌, ⋀, ∀ᵖ, ∃ᵖ, ◌≐◌, ◌∈ᵖ◌, ◌⊆◌, ∅, Ty_of, ◌≐∅, ◌≐Ty}
use Rattle.meaning.specs.Lists.{any, all}
use Rattle.meaning.specs.Operations.{Logic, Op, logic, equal, subset, member, op_at, op_of}
use Rattle.meaning.specs.Meaning.{
  Interpretation,
  Vals,
  truth,
  val,
  set_of,
  some,
  every,
  equals,
  choices,
  binders_in,
  node_means,
  identifier_value,
  holds,
  value_of,
  quantified,
  means,
  means_all,
}
use Rattle.meaning.proofs.Sets.{is_empty_lem, is_full, every_true}

-- ---- a type's expression is everything
module _ (I : Interpretation) where
  pub type_full : (t : Ty) (Γ : Ctx) (ρ : Vals I Γ) → set_of I (means I (to_expression t) Γ) ρ t ≡ (λ x. true)
  unfolding means to_expression op_of op_at class_of lookup value_of identifier_value
  type_full bool Γ ρ = refl
  type_full int Γ ρ = refl
  type_full (given n) Γ ρ = rw (eq-eqb n n refl)
  type_full (pow t) Γ ρ = fun_ext (λ s. ap (λ f. every I t (λ x. not (s x) || f x)) (type_full t Γ ρ) ∙ simp (or-true, every_true))
  type_full (prod t u) Γ ρ = fun_ext (λ p. ap₂ (λ f g. f p.0 && g p.1) (type_full t Γ ρ) (type_full u Γ ρ))

-- ---- what a node without types means, by its operator
module _ (I : Interpretation) (Γ : Ctx) where
  pub means_at : (g : ℕ) (o : Op) → op_of g ≡ o → (ks : Forest)
      → means I (many g ks) Γ ≡ node_means I o g 0 [] Γ (types_in ks (push (binders_in I o []) Γ)) (means_all I ks (push (binders_in I o []) Γ))
  unfolding means
  means_at g o e ks = ap (λ x. node_means I x g 0 [] Γ (types_in ks (push (binders_in I x []) Γ)) (means_all I ks (push (binders_in I x []) Γ))) e

  -- ---- connectives
  module _ (p : Tree) where
    pub not_truth : (ρ : Vals I Γ) → truth I (means I (¬ᵖ p) Γ) ρ ≡ not (truth I (means I p Γ) ρ)
    unfolding means holds op_of op_at class_of lookup
    not_truth ρ = refl

  module _ (ks : Forest) where
    pub and_truth : (ρ : Vals I Γ) → truth I (means I (⋀ ks) Γ) ρ ≡ all (λ k. truth I k ρ) (means_all I ks Γ)
    unfolding means holds op_of op_at class_of lookup
    and_truth ρ = refl

  module _ (p q : Tree) where
    pub implies_truth : (ρ : Vals I Γ) → truth I (means I (p ⇒ q) Γ) ρ ≡ (not (truth I (means I p Γ) ρ) || truth I (means I q Γ) ρ)
    unfolding means holds op_of op_at class_of lookup
    implies_truth ρ = refl

    pub equiv_truth : (ρ : Vals I Γ) → truth I (means I (p ⇔ q) Γ) ρ ≡ beq (truth I (means I p Γ) ρ) (truth I (means I q Γ) ρ)
    unfolding means holds op_of op_at class_of lookup
    equiv_truth ρ = refl

  -- ---- quantifiers
  module _ (xs : List Ty) (p : Tree) where
    pub forall_truth : (ρ : Vals I Γ) → truth I (means I (∀ᵖ xs p) Γ) ρ ≡ all (truth I (means I p (push xs Γ))) (choices I xs Γ ρ)
    unfolding means quantified op_of op_at class_of lookup
    forall_truth ρ = refl

    pub exists_truth : (ρ : Vals I Γ) → truth I (means I (∃ᵖ xs p) Γ) ρ ≡ any (truth I (means I p (push xs Γ))) (choices I xs Γ ρ)
    unfolding means quantified op_of op_at class_of lookup
    exists_truth ρ = refl

  -- ---- = ∈ ⊆. The operands' types show in what these mean: first the operator shut, then opened.
  module _ (a b : Tree) where
    shut : (g : ℕ) (o : Logic) → op_of g ≡ logic o → (t : Ty) → type_of a Γ ≡ t → (ρ : Vals I Γ)
        → truth I (means I (two g a b) Γ) ρ ≡ holds I o g (t ∷ type_of b Γ ∷ []) (means I a Γ ∷ means I b Γ ∷ []) ρ
    unfolding means type_of
    shut g o e t h ρ = ap (λ k. truth I k ρ) (means_at g (logic o) e (pair a b)) ∙ ap
        (λ x. holds I o g (x ∷ type_of b Γ ∷ []) (means I a Γ ∷ means I b Γ ∷ []) ρ) h

    pub equal_truth : (t : Ty) → type_of a Γ ≡ t → (ρ : Vals I Γ)
        → truth I (means I (a ≐ b) Γ) ρ ≡ equals I t (val I (means I a Γ) ρ t) (val I (means I b Γ) ρ t)
    unfolding holds op_of op_at class_of lookup
    equal_truth t h ρ = shut #Equal equal refl t h ρ

    pub member_truth : (t : Ty) → type_of a Γ ≡ t → (ρ : Vals I Γ)
        → truth I (means I (a ∈ᵖ b) Γ) ρ ≡ set_of I (means I b Γ) ρ t (val I (means I a Γ) ρ t)
    unfolding holds op_of op_at class_of lookup
    member_truth t h ρ = shut #In member refl t h ρ

    pub subset_truth : (u : Ty) → type_of a Γ ≡ pow u → (ρ : Vals I Γ)
        → truth I (means I (a ⊆ b) Γ) ρ ≡ every I u (λ x. not (set_of I (means I a Γ) ρ u x) || set_of I (means I b Γ) ρ u x)
    unfolding holds op_of op_at class_of lookup
    subset_truth u h ρ = shut #SubsetEq subset refl (pow u) h ρ

  -- ---- E = ∅, E = Ty
  pub none_of : (t : Ty) (ρ : Vals I Γ) (u : Ty) → set_of I (means I (∅ t) Γ) ρ u ≡ (λ x. false)
  unfolding means value_of op_of op_at class_of lookup
  none_of t ρ u = refl

  module _ (e : Tree) where
    pub empty_truth : (u : Ty) → type_of e Γ ≡ pow u → (ρ : Vals I Γ) → truth I (means I (◌≐∅ Γ e) Γ) ρ ≡ not (some I u (set_of I (means I e Γ) ρ u))
    empty_truth u h ρ =
        equal_truth e (∅ (type_of e Γ)) (pow u) h ρ ∙ ap (λ s. equals I (pow u) (set_of I (means I e Γ) ρ u) s) (none_of (type_of e Γ) ρ u)
        ∙ is_empty_lem I.size u (set_of I (means I e Γ) ρ u)

    full_at : (u : Ty) → type_of e Γ ≡ pow u → (ρ : Vals I Γ) → set_of I (means I (Ty_of Γ e) Γ) ρ u ≡ (λ x. true)
    full_at u h ρ = rw h (type_full I u Γ ρ)

    pub full_truth : (u : Ty) → type_of e Γ ≡ pow u → (ρ : Vals I Γ) → truth I (means I (◌≐Ty Γ e) Γ) ρ ≡ every I u (set_of I (means I e Γ) ρ u)
    full_truth u h ρ =
        equal_truth e (Ty_of Γ e) (pow u) h ρ ∙ ap (λ s. equals I (pow u) (set_of I (means I e Γ) ρ u) s) (full_at u h ρ)
        ∙ is_full I.size u (set_of I (means I e Γ) ρ u)
