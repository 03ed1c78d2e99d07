-- A series of calls is a row of steps from the first frame's tree.
-- Main results: call_holds (after a call, whatever it is and whatever it is lent, the held frame is an accepted frame, as many
-- steps on as the call counts), series_holds (the same of the whole list).
use mathlib.Core.Path.{◌≡◌, refl}
use mathlib.Core.Bool.{Bool, true, false}
use mathlib.Core.List.{List, [], ◌∷◌, ◌++◌}
use Prim.Native.Nat.{ℕ, ◌≤◌}
use native.Mathlib.Omega.{arith}
use lib.ListN.{length, take, drop}
use lib.Seq.{take_at}
use lib.Dec.{ltb}
use Rattle.frame.specs.Types.{Ty}
use Rattle.frame.specs.Trees.{Tree}
use Rattle.frame.specs.Tags.{pick, predicate}
use Rattle.frame.specs.Encoding.{enc}
use Rattle.frame.specs.Reading.{frame_limit}
use Rattle.typing.specs.Accepted.{Accepted}
use Rattle.typing.specs.Check.{accepted, check}
use Rattle.typing.proofs.Checked.{check_back}
use Rattle.step.specs.Step.{Stepped, changed, unchanged, no_place, step_tree, Outcome, wrote, kept, turned_down, outcome_of, step}
use Rattle.step.proofs.Steps.{step_accepted, fit_wrote}
use Rattle.run.specs.Run as R
use Rattle.run.specs.Run.{Ran, ran, ended_by, run_tree, run}
use Rattle.run.specs.Series.{
  Call,
  step_at,
  run_with,
  held_after_step,
  held_after_run,
  held_after,
  step_count,
  run_count,
  changes_of,
  held_after_all,
  changing_steps,
}
use Rattle.run.specs.Steps.{Steps, none, more}
use Rattle.run.proofs.Runs.{steps_join, run_steps}

-- accepted trees stay accepted over steps
pub steps_accepted : (σ : ℕ → Ty) {t u : Tree} {n : ℕ} → Steps t n u → Accepted σ t [] predicate → Accepted σ u [] predicate
steps_accepted σ (none t) a = a
steps_accepted σ (more t u v k place n e s) a = steps_accepted σ s (step_accepted σ t k place u a e)

-- the held frame s stands for t, which σ types
pub record Holds (σ : ℕ → Ty) (s : List ℕ) (t : Tree) : Type 0 where
  pub checks : check s ≡ accepted t
  pub bytes : s ≡ enc t
  pub accepted : Accepted σ t [] predicate
  pub fits : length (enc t) ≤ frame_limit

-- after n changing steps from t
pub record HoldsAfter (σ : ℕ → Ty) (t : Tree) (n : ℕ) (s : List ℕ) : Type 0 where
  pub tree : Tree
  pub holds : Holds σ s tree
  pub steps : Steps t n tree

held : (xs d : List ℕ) → take (length xs) (xs ++ d) ≡ xs
held xs d = take_at xs d (length xs) refl

module _ (σ : ℕ → Ty) (s : List ℕ) (t : Tree) (h : Holds σ s t) where
  stays : HoldsAfter σ t 0 s
  stays = record { tree = t; holds = h; steps = none t }

  -- a frame of an accepted tree n steps on is held
  moves : (u : Tree) (n : ℕ) → Steps t n u → length (enc u) ≤ frame_limit → HoldsAfter σ t n (enc u)
  moves u n st l =
      let a = steps_accepted σ st h.accepted in
      record { tree = u; holds = record { checks = check_back σ u a l; bytes = refl; accepted = a; fits = l }; steps = st }

  -- ---- a step
  on_outcome : (k c : ℕ) (d : List ℕ) (x : Stepped) → step_tree t k ≡ x → (o : Outcome) → outcome_of c x ≡ o
      → HoldsAfter σ t (step_count o) (held_after_step o s d)
  on_outcome k c d (changed p u) x (wrote xs) e =
      let f = fit_wrote c (enc u) xs e in
      let m = moves u 1 (more t u u k p 0 x (none u)) f.1 in
      rw (held xs (drop (length xs) d)) (rw f.0 at m)
  on_outcome k c d x y kept e = stays
  on_outcome k c d x y (turned_down n) e = stays
  on_outcome k c d unchanged x (wrote xs) e = cc
  on_outcome k c d no_place x (wrote xs) e = cc

  step_holds : (k : ℕ) (d : List ℕ) → HoldsAfter σ t (step_count (step s k (length d))) (held_after_step (step s k (length d)) s d)
  unfolding step
  step_holds k d = rw h.checks (on_outcome k (length d) d (step_tree t k) refl (outcome_of (length d) (step_tree t k)) refl)

  -- ---- a run
  on_ran : (b : ℕ) (d : List ℕ) (x : Ran) → run_tree b 0 t ≡ x → (short : Bool)
      → HoldsAfter σ t (run_count (pick short (R.turned_down 12) (ended_by x))) (held_after_run (pick short (R.turned_down 12) (ended_by x)) s d)
  on_ran b d x e true = stays
  on_ran b d (ran w m u) e false =
      let r = run_steps b 0 t w m u e in
      let y : r.made ≡ m = omega (arith, r.count) in
      let l : length (enc u) ≤ frame_limit = r.fits h.fits in
      rw (held (enc u) (drop (length (enc u)) d)) (moves u m (rw y at r.steps) l)

  run_holds : (b : ℕ) (d : List ℕ) → HoldsAfter σ t (run_count (run s b (length d))) (held_after_run (run s b (length d)) s d)
  unfolding run
  run_holds b d = rw h.checks (on_ran b d (run_tree b 0 t) refl (ltb (length d) frame_limit))

  -- ---- any call
  pub call_holds : (c : Call) → HoldsAfter σ t (changes_of s c) (held_after s c)
  unfolding changes_of held_after
  call_holds (step_at k d) = step_holds k d
  call_holds (run_with b d) = run_holds b d

pub series_holds : (σ : ℕ → Ty) (s : List ℕ) (t : Tree) → Holds σ s t → (cs : List Call) → HoldsAfter σ t (changing_steps s cs) (held_after_all s cs)
unfolding changing_steps held_after_all
series_holds σ s t h [] = record { tree = t; holds = h; steps = none t }
series_holds σ s t h (c ∷ cs) =
    let a = call_holds σ s t h c in
    let b = series_holds σ (held_after s c) a.tree a.holds cs in
    record { tree = b.tree; holds = b.holds; steps = steps_join a.steps b.steps }
