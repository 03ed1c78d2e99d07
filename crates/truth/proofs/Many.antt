-- Lists of operands: one predicate made of each, lists joined, an operand among others.
-- Main results: map_single, map_alive, map_all, map_any (operands changed one by one), empties_all, fulls_all (each operand
-- is ∅, is full), append_means (two lists joined), among_means, each_alike (operands of one type); single_each,
-- single_all, alive_each, alive_all (what holds of each operand).
use mathlib.Core.Path.{◌≡◌, refl, sym, ap, ap₂, ◌∙◌}
use mathlib.Core.Logic.{inl, inr}
use mathlib.Core.Bool.{Bool, not, ◌&&◌, ◌||◌}
use mathlib.Core.List.{List, [], ◌∷◌, ◌++◌}
use Rattle.frame.specs.Types.{Ty, pow}
use Rattle.frame.specs.Trees.{Tree, Forest, nil, cons, append, map_f}
use Rattle.frame.specs.Places.{Ctx}
use Rattle.typing.specs.Typing.{alike, type_of, types_in}
use Rattle.typing.specs.Members.{In}
use Rattle.rules.specs.Equations.{Among, ◌≐∅, ◌≐Ty}
use Rattle.rules.proofs.Nodes.{Every}
use Rattle.meaning.specs.Lists.{any, all}
use Rattle.meaning.specs.Meaning.{Interpretation, Vals, Den, truth, set_of, some, every, means, means_all}
use Rattle.meaning.specs.Premises.{SingleIntegers, SingleIntegersIn, NoInterOverNothing, NoInterOverNothingIn}
use Rattle.meaning.proofs.Lists.{not_or}
use Rattle.meaning.proofs.Kit as kit

-- each of these types is t
abbrev pub Each : Ty → List Ty → Type 0
Each t [] = Unit {0}
Each t (u ∷ us) = (u ≡ t) × Each t us

pub each_alike : (t : Ty) (us : List Ty) → us ≡ alike t us → Each t us
each_alike t [] e = tt
each_alike t (u ∷ us) e = ((cc), each_alike t us (cc))

-- ---- what holds of each operand
module _ (Γ : Ctx) where
  pub single_each : (ks : Forest) → SingleIntegersIn ks Γ → Every (λ k. SingleIntegers k Γ) ks
  unfolding SingleIntegers
  single_each nil s = tt
  single_each (cons k ks) s = (s.0, single_each ks s.1)

  pub single_all : (ks : Forest) → Every (λ k. SingleIntegers k Γ) ks → SingleIntegersIn ks Γ
  unfolding SingleIntegers
  single_all nil s = tt
  single_all (cons k ks) s = (s.0, single_all ks s.1)

module _ (I : Interpretation) (Γ : Ctx) where
  pub alive_each : (ks : Forest) → NoInterOverNothingIn I ks Γ → Every (λ k. NoInterOverNothing I k Γ) ks
  unfolding NoInterOverNothing
  alive_each nil s = tt
  alive_each (cons k ks) s = (s.0, alive_each ks s.1)

  pub alive_all : (ks : Forest) → Every (λ k. NoInterOverNothing I k Γ) ks → NoInterOverNothingIn I ks Γ
  unfolding NoInterOverNothing
  alive_all nil s = tt
  alive_all (cons k ks) s = (s.0, alive_all ks s.1)

-- ---- operands changed one by one
module _ (f : Tree → Tree) (Γ Δ : Ctx) where
  pub map_single : ((k : Tree) → SingleIntegers k Γ → SingleIntegers (f k) Δ) → (ks : Forest) → SingleIntegersIn ks Γ → SingleIntegersIn (map_f f ks) Δ
  unfolding SingleIntegers
  map_single h nil s = tt
  map_single h (cons k ks) s = (h k s.0, map_single h ks s.1)

module _ (I : Interpretation) (f : Tree → Tree) (Γ Δ : Ctx) where
  pub map_alive : ((k : Tree) → NoInterOverNothing I k Γ → NoInterOverNothing I (f k) Δ) → (ks : Forest) → NoInterOverNothingIn I ks Γ
      → NoInterOverNothingIn I (map_f f ks) Δ
  unfolding NoInterOverNothing
  map_alive h nil s = tt
  map_alive h (cons k ks) s = (h k s.0, map_alive h ks s.1)

  -- t is the type of the operands, q what the new one says of the old
  module _ (t : Ty) (ρ : Vals I Δ) (q : Den I Γ → Bool) (h : (k : Tree) → type_of k Γ ≡ t → truth I (means I (f k) Δ) ρ ≡ q (means I k Γ)) where
    pub map_all : (ks : Forest) → Each t (types_in ks Γ) → all (λ d. truth I d ρ) (means_all I (map_f f ks) Δ) ≡ all q (means_all I ks Γ)
    unfolding means type_of all
    map_all nil e = refl
    map_all (cons k ks) e = ap₂ ◌&&◌ (h k e.0) (map_all ks e.1)

    pub map_any : (ks : Forest) → Each t (types_in ks Γ) → any (λ d. truth I d ρ) (means_all I (map_f f ks) Δ) ≡ any q (means_all I ks Γ)
    unfolding means type_of any
    map_any nil e = refl
    map_any (cons k ks) e = ap₂ ◌||◌ (h k e.0) (map_any ks e.1)

all_not : {A : Type 0} (p : A → Bool) (l : List A) → all (λ a. not (p a)) l ≡ not (any p l)
unfolding any all
all_not p [] = refl
all_not p (a ∷ l) = ap (λ b. not (p a) && b) (all_not p l) ∙ sym (not_or (p a) (any p l))

module _ (I : Interpretation) (Γ : Ctx) (u : Ty) (ρ : Vals I Γ) (ks : Forest) (e : Each (pow u) (types_in ks Γ)) where
  -- each operand is ∅, has every element
  pub empties_all : all (λ d. truth I d ρ) (means_all I (map_f (◌≐∅ Γ) ks) Γ) ≡ not (any (λ d. some I u (set_of I d ρ u)) (means_all I ks Γ))
  empties_all =
      map_all I (◌≐∅ Γ) Γ Γ (pow u) ρ (λ d. not (some I u (set_of I d ρ u))) (λ k h. kit.empty_truth I Γ k u h ρ) ks e
      ∙ all_not (λ d. some I u (set_of I d ρ u)) (means_all I ks Γ)

  pub fulls_all : all (λ d. truth I d ρ) (means_all I (map_f (◌≐Ty Γ) ks) Γ) ≡ all (λ d. every I u (set_of I d ρ u)) (means_all I ks Γ)
  fulls_all = map_all I (◌≐Ty Γ) Γ Γ (pow u) ρ (λ d. every I u (set_of I d ρ u)) (λ k h. kit.full_truth I Γ k u h ρ) ks e

-- ---- lists joined
module _ (I : Interpretation) (Γ : Ctx) where
  pub append_means : (ks ls : Forest) → means_all I (append ks ls) Γ ≡ means_all I ks Γ ++ means_all I ls Γ
  unfolding means
  append_means nil ls = refl
  append_means (cons k ks) ls = ap (λ ds. means I k Γ ∷ ds) (append_means ks ls)

  pub among_means : (k : Tree) (ks : Forest) → Among k ks → In (means I k Γ) (means_all I ks Γ)
  unfolding means
  among_means k nil i = elim i [ ]
  among_means k (cons j ks) (inl e) = inl (ap (λ t. means I t Γ) e)
  among_means k (cons j ks) (inr i) = inr (among_means k ks i)
