-- A run is a row of steps.
-- Main results: steps_join; first_step_lem (what a run does next is a step), run_steps (a run's last tree lies as many steps from the
-- first as the run counts, and its frame is within the limit), run_ends (what its word says of the last tree).
use mathlib.Core.Path.{◌≡◌, refl, ap, ◌∙◌, subst}
use mathlib.Core.Bool.{Bool, true, false}
use Prim.Native.Nat.{ℕ, zero, suc, ◌+◌, ◌≤◌}
use native.Mathlib.Omega.{arith}
use lib.ListN.{length}
use lib.Dec.{ltb}
use borrow.Author.Tests.{ltb-true, ltb-false}
use Rattle.frame.specs.Trees.{Tree, nodes}
use Rattle.frame.specs.Tags.{pick}
use Rattle.frame.specs.Encoding.{enc}
use Rattle.frame.specs.Reading.{frame_limit}
use Rattle.step.specs.Step.{Stepped, changed, unchanged, no_place, step_tree}
use Rattle.run.specs.Steps.{Steps, none, more}
use Rattle.run.specs.Run.{First, next, nowhere, or_next, first_from, first_step, Word, REST, SPENT, FULL, ran, at_end, go_on, run_tree, EndsAs}

pub steps_join : {t u v : Tree} {m n : ℕ} → Steps t m u → Steps u n v → Steps t (m + n) v
steps_join {n = n} (none t) s = let z : n ≡ 0 + n = omega arith in rw (← z) s
steps_join {v = v} {n = n} (more t w u k place m e r) s =
    let z : suc (m + n) ≡ suc m + n = omega arith in rw (← z) (more t w v k place (m + n) e (steps_join r s))

pub record OneStep (t u : Tree) : Type 0 where
  pub k : ℕ
  pub place : ℕ
  pub is : step_tree t k ≡ changed place u

first_from_lem : (n : ℕ) (t : Tree) (k : ℕ) (u : Tree) → first_from n t k ≡ next u → OneStep t u
unfolding first_from
first_from_lem zero t k u e = cc
first_from_lem (suc n) t k u e = go (step_tree t k) refl (first_from n t (k + 1)) (first_from_lem n t (k + 1) u) e
  where
    go : (x : Stepped) → step_tree t k ≡ x → (f : First) → (f ≡ next u → OneStep t u) → or_next x f ≡ next u → OneStep t u
    go (changed p w) x f h e = let y : w ≡ u = cc in record { k = k; place = p; is = x ∙ ap (changed p) y }
    go unchanged x f h e = h e
    go no_place x f h e = h e

pub first_step_lem : (t u : Tree) → first_step t ≡ next u → OneStep t u
unfolding first_step
first_step_lem t u e = first_from_lem (nodes t) t 0 u e

-- ---- runs
pub record Rows (n : ℕ) (t : Tree) (m : ℕ) (u : Tree) : Type 0 where
  pub made : ℕ
  pub count : m ≡ n + made
  pub steps : Steps t made u
  pub fits : length (enc t) ≤ frame_limit → length (enc u) ≤ frame_limit

no_row : (n m : ℕ) (t u : Tree) → n ≡ m → t ≡ u → Rows n t m u
no_row n m t u e f = record { made = 0; count = omega arith; steps = rw f (none u); fits = λ l. rw f at l }

pub run_steps : (budget n : ℕ) (t : Tree) (w : Word) (m : ℕ) (u : Tree) → run_tree budget n t ≡ ran w m u → Rows n t m u
unfolding run_tree
run_steps zero n t w m u e = go (first_step t) e
  where
    go : (f : First) → at_end f n t ≡ ran w m u → Rows n t m u
    go (next v) e = no_row n m t u (cc) (cc)
    go nowhere e = no_row n m t u (cc) (cc)
run_steps (suc budget) n t w m u e = go (first_step t) refl e (run_steps budget (n + 1))
  where
    on : (v : Tree) → first_step t ≡ next v → (b : Bool) → ltb frame_limit (length (enc v)) ≡ b
        → pick b (ran FULL n t) (run_tree budget (n + 1) v) ≡ ran w m u
        → ((t : Tree) (w : Word) (m : ℕ) (u : Tree) → run_tree budget (n + 1) t ≡ ran w m u → Rows (n + 1) t m u) → Rows n t m u
    on v f true l e ih = no_row n m t u (cc) (cc)
    on v f false l e ih =
        let r = ih v w m u e in
        let s = first_step_lem t v f in
        record {
          made = suc r.made;
          count = omega (arith, r.count);
          steps = more t v u s.k s.place r.made s.is r.steps;
          fits = λ x. r.fits (ltb-false frame_limit (length (enc v)) l);
        }

    go : (f : First) → first_step t ≡ f → go_on f n t (run_tree budget (n + 1)) ≡ ran w m u
        → ((t : Tree) (w : Word) (m : ℕ) (u : Tree) → run_tree budget (n + 1) t ≡ ran w m u → Rows (n + 1) t m u) → Rows n t m u
    go (next v) f e ih = on v f (ltb frame_limit (length (enc v))) refl e ih
    go nowhere f e ih = no_row n m t u (cc) (cc)

-- ---- what the word says of the last tree
module _ (n most : ℕ) (t : Tree) (w : Word) (m : ℕ) (u : Tree) where
  as_word : (x : Word) → ran x n t ≡ ran w m u → EndsAs x n most t → EndsAs w m most u
  as_word x e h = let a : x ≡ w = cc in let b : n ≡ m = cc in let c : t ≡ u = cc in rw (← a, ← b, ← c) h

abbrev After : ℕ → ℕ → Type 0
After budget n = (t : Tree) (w : Word) (m : ℕ) (u : Tree) → run_tree budget n t ≡ ran w m u → EndsAs w m (n + budget) u

pub run_ends : (budget n : ℕ) (t : Tree) (w : Word) (m : ℕ) (u : Tree) → run_tree budget n t ≡ ran w m u → EndsAs w m (n + budget) u
unfolding run_tree
run_ends zero n t w m u e = go (first_step t) refl e
  where
    go : (f : First) → first_step t ≡ f → at_end f n t ≡ ran w m u → EndsAs w m (n + 0) u
    go (next v) f e = as_word n (n + 0) t w m u SPENT e (omega arith, (v, f))
    go nowhere f e = as_word n (n + 0) t w m u REST e f
run_ends (suc budget) n t w m u e = go (first_step t) refl e (run_ends budget (n + 1))
  where
    on : (v : Tree) → first_step t ≡ next v → (b : Bool) → ltb frame_limit (length (enc v)) ≡ b
        → pick b (ran FULL n t) (run_tree budget (n + 1) v) ≡ ran w m u → After budget (n + 1) → EndsAs w m (n + suc budget) u
    on v f true l e ih = as_word n (n + suc budget) t w m u FULL e (omega arith, (v, f, ltb-true frame_limit (length (enc v)) l))
    on v f false l e ih =
        let z : n + 1 + budget ≡ n + suc budget = omega arith in
        subst (λ (i : ℕ). EndsAs w m i u) z (ih v w m u e)

    go : (f : First) → first_step t ≡ f → go_on f n t (run_tree budget (n + 1)) ≡ ran w m u → After budget (n + 1) → EndsAs w m (n + suc budget) u
    go (next v) f e ih = on v f (ltb frame_limit (length (enc v))) refl e ih
    go nowhere f e ih = as_word n (n + suc budget) t w m u REST e f
