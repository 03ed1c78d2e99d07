-- How a step ends, in the words of document 01.
-- Main results: step_ends (at a predicate node of an accepted frame a step ends as changed or as unchanged; 12 where the result does not
-- fit), step_turned_down (the number that a step answers is that of the checks, else 11, else 12), no_place_lem (11 is for a place that is
-- no node, or an expression).
use mathlib.Core.Path.{◌≡◌, refl, sym, ap, ◌∙◌, subst}
use mathlib.Core.Bool.{Bool, true, false}
use mathlib.Core.List.{List, []}
use mathlib.Core.Logic.{◌⊎◌, inl, inr}
use Prim.Native.Nat.{ℕ, ◌≤◌, ◌<◌}
use native.Mathlib.Omega.{arith}
use lib.ListN.{length}
use lib.Dec.{ltb}
use borrow.Author.Tests.{ltb-true, ltb-false}
use Rattle.frame.specs.Trees.{Tree}
use Rattle.frame.specs.Tags.{pick}
use Rattle.frame.specs.Encoding.{enc}
use Rattle.frame.specs.Reading.{frame_limit}
use Rattle.frame.specs.Places.{Ctx, Found, found, absent, find}
use Rattle.typing.specs.Check.{Checked, accepted, refused, check}
use Rattle.rules.specs.Change.{Change, to, same}
use Rattle.rules.specs.Dispatch.{dispatch}
use Rattle.step.specs.Step.{
  Stepped,
  changed,
  unchanged,
  no_place,
  is_predicate,
  step_change,
  step_found,
  step_tree,
  Outcome,
  wrote,
  kept,
  turned_down,
  fit,
  outcome_of,
  outcome_on,
  step,
}

-- ---- at a predicate node
-- the result passes 4,096 bytes, or the lent output
abbrev pub TooLong : ℕ → Tree → Type 0
TooLong c u = (frame_limit < length (enc u)) ⊎ (c < length (enc u))

pub data Ends (t : Tree) (k c : ℕ) : Outcome → Type 0 where
  as_changed : (place : ℕ) (u : Tree) → step_tree t k ≡ changed place u → length (enc u) ≤ frame_limit → length (enc u) ≤ c → Ends t k c (wrote (enc u))
  as_unchanged : step_tree t k ≡ unchanged → Ends t k c kept
  as_too_long : (place : ℕ) (u : Tree) → step_tree t k ≡ changed place u → TooLong c u → Ends t k c (turned_down 12)

ends_fit : (t : Tree) (k c place : ℕ) (u : Tree) → step_tree t k ≡ changed place u → Ends t k c (fit c (enc u))
unfolding fit
ends_fit t k c place u e = go (ltb frame_limit (length (enc u))) refl (ltb c (length (enc u))) refl
  where
    go : (a : Bool) → ltb frame_limit (length (enc u)) ≡ a → (b : Bool) → ltb c (length (enc u)) ≡ b
        → Ends t k c (pick a (turned_down 12) (pick b (turned_down 12) (wrote (enc u))))
    go true p b q = as_too_long place u e (inl (ltb-true frame_limit (length (enc u)) p))
    go false p true q = as_too_long place u e (inr (ltb-true c (length (enc u)) q))
    go false p false q = as_changed place u e (ltb-false frame_limit (length (enc u)) p) (ltb-false c (length (enc u)) q)

ends_tree : (t : Tree) (k c : ℕ) (Γ : Ctx) (v : Tree) → find t [] k ≡ found Γ v → is_predicate v ≡ true → Ends t k c (outcome_of c (step_tree t k))
unfolding step_tree
ends_tree t k c Γ v f p = on_change (dispatch Γ v) refl
  where
    is : (d : Change) → dispatch Γ v ≡ d → step_tree t k ≡ step_change t k d
    is d h = ap (step_found t k) f ∙ ap (λ (b : Bool). pick b (step_change t k (dispatch Γ v)) no_place) p ∙ ap (step_change t k) h

    on_change : (d : Change) → dispatch Γ v ≡ d → Ends t k c (outcome_of c (step_tree t k))
    on_change (to place w) h = let z = is (to place w) h in subst (λ (x : Stepped). Ends t k c (outcome_of c x)) (sym z) (ends_fit t k c place _ z)
    on_change same h = let z = is same h in subst (λ (x : Stepped). Ends t k c (outcome_of c x)) (sym z) (as_unchanged z)

pub step_ends : (s : List ℕ) (k c : ℕ) (t : Tree) (Γ : Ctx) (v : Tree) → check s ≡ accepted t → find t [] k ≡ found Γ v
    → is_predicate v ≡ true → Ends t k c (step s k c)
unfolding step
step_ends s k c t Γ v a f p = subst (λ (x : Checked). Ends t k c (outcome_on k c x)) (sym a) (ends_tree t k c Γ v f p)

-- ---- numbers
pub data TurnedDown (s : List ℕ) (k c : ℕ) : ℕ → Type 0 where
  by_check : (n : ℕ) → check s ≡ refused n → TurnedDown s k c n
  by_place : (t : Tree) → check s ≡ accepted t → step_tree t k ≡ no_place → TurnedDown s k c 11
  by_length : (t : Tree) (place : ℕ) (u : Tree) → check s ≡ accepted t → step_tree t k ≡ changed place u → TooLong c u → TurnedDown s k c 12

pub step_turned_down : (s : List ℕ) (k c n : ℕ) → step s k c ≡ turned_down n → TurnedDown s k c n
unfolding step
step_turned_down s k c n e = on_check (check s) refl e
  where
    number : (x : Outcome) (m : ℕ) → x ≡ turned_down n → x ≡ turned_down m → m ≡ n
    number x m e f = cc

    too_long : (t : Tree) (place : ℕ) (u : Tree) → check s ≡ accepted t → step_tree t k ≡ changed place u → (x : Outcome) → Ends t k c x
        → fit c (enc u) ≡ x → x ≡ turned_down n → TurnedDown s k c n
    too_long t place u a z _ (as_changed q w y l m) f e = cc
    too_long t place u a z _ (as_unchanged y) f e = cc
    too_long t place u a z _ (as_too_long q w y l) f e = subst (TurnedDown s k c) (number _ 12 e refl) (by_length t q w a y l)

    on_step : (t : Tree) → check s ≡ accepted t → (x : Stepped) → step_tree t k ≡ x → outcome_of c x ≡ turned_down n → TurnedDown s k c n
    on_step t a (changed p u) z e = too_long t p u a z (fit c (enc u)) (ends_fit t k c p u z) refl e
    on_step t a unchanged z e = cc
    on_step t a no_place z e = subst (TurnedDown s k c) (number _ 11 e refl) (by_place t a z)

    on_check : (x : Checked) → check s ≡ x → outcome_on k c x ≡ turned_down n → TurnedDown s k c n
    on_check (accepted t) a e = on_step t a (step_tree t k) refl e
    on_check (refused m) a e = subst (TurnedDown s k c) (number _ m e refl) (by_check m a)

-- 11: the place is no node, or an expression
pub no_place_lem : (t : Tree) (k : ℕ) → step_tree t k ≡ no_place
    → (find t [] k ≡ absent) ⊎ ((Γ : Ctx) × ((v : Tree) × ((find t [] k ≡ found Γ v) × (is_predicate v ≡ false))))
unfolding step_tree
no_place_lem t k e = on_found (find t [] k) refl e
  where
    none : (d : Change) → step_change t k d ≡ no_place → ⊥
    none (to q w) e = let z : ◌≡◌ {A = ℕ} 0 1 = cc in omega arith
    none same e = let z : ◌≡◌ {A = ℕ} 0 1 = cc in omega arith

    on_sort : (Γ : Ctx) (v : Tree) → find t [] k ≡ found Γ v → (b : Bool) → is_predicate v ≡ b
        → pick b (step_change t k (dispatch Γ v)) no_place ≡ no_place
        → (find t [] k ≡ absent) ⊎ ((Δ : Ctx) × ((w : Tree) × ((find t [] k ≡ found Δ w) × (is_predicate w ≡ false))))
    on_sort Γ v f true p e = absurd (none (dispatch Γ v) e)
    on_sort Γ v f false p e = inr (Γ, (v, (f, p)))

    on_found : (x : Found) → find t [] k ≡ x → step_found t k x ≡ no_place
        → (find t [] k ≡ absent) ⊎ ((Γ : Ctx) × ((v : Tree) × ((find t [] k ≡ found Γ v) × (is_predicate v ≡ false))))
    on_found (found Γ v) f e = on_sort Γ v f (is_predicate v) refl e
    on_found absent f e = inl f
