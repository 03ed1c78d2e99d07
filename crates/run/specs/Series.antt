-- A series of calls (document 01, "The answer record", last paragraph).
use Rattle.std.specs.Prelude.{ℕ, ◌+◌, List, [], ◌∷◌, length, take}
use Rattle.step.specs.Step.{Outcome, wrote, kept, turned_down, step, step_output}
use Rattle.run.specs.Run.{RunOutcome, ended, run, run_output}
use Rattle.run.specs.Run as R

-- "Each call, a step or a run, reads the held frame and is lent an output apart from it, of any length and with any old bytes."
pub data Call : Type 0 where
  -- a place, and the lent output's bytes
  step_at : ℕ → List ℕ → Call
  -- a budget, and the lent output's bytes
  run_with : ℕ → List ℕ → Call

-- "After changed, REST, SPENT or FULL, the output's first bytes, as many as the answered length, become the held frame;
-- unchanged or a number leaves it as it was." held is the frame before the call, d the output's old bytes.
abbrev pub held_after_step : Outcome → List ℕ → List ℕ → List ℕ
held_after_step (wrote xs) held d = take (length xs) (step_output (wrote xs) d)
held_after_step kept held d = held
held_after_step (turned_down n) held d = held

abbrev pub held_after_run : RunOutcome → List ℕ → List ℕ → List ℕ
held_after_run (ended w n xs) held d = take (length xs) (run_output (ended w n xs) d)
held_after_run (R.turned_down c) held d = held

unfoldable pub held_after : List ℕ → Call → List ℕ
held_after held (step_at k d) = held_after_step (step held k (length d)) held d
held_after held (run_with b d) = held_after_run (run held b (length d)) held d

-- "The changing steps of a series are its steps answered changed plus the counts that its runs answered."
abbrev pub step_count : Outcome → ℕ
step_count (wrote xs) = 1
step_count kept = 0
step_count (turned_down n) = 0

abbrev pub run_count : RunOutcome → ℕ
run_count (ended w n xs) = n
run_count (R.turned_down c) = 0

unfoldable pub changes_of : List ℕ → Call → ℕ
changes_of held (step_at k d) = step_count (step held k (length d))
changes_of held (run_with b d) = run_count (run held b (length d))

-- the frame held after all the calls, and the number of changing steps. "Between calls nobody writes it": what one call leaves is what
-- the next reads.
unfoldable pub held_after_all : List ℕ → List Call → List ℕ
held_after_all held [] = held
held_after_all held (c ∷ cs) = held_after_all (held_after held c) cs

unfoldable pub changing_steps : List ℕ → List Call → ℕ
changing_steps held [] = 0
changing_steps held (c ∷ cs) = changes_of held c + changing_steps (held_after held c) cs
