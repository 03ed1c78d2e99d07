-- What `write_out` and `admit` ask and answer.
use Rattle.std.specs.Prelude.{◌≡◌, List, ℕ, ◌≤◌, length, Option, Result, Ok, Err}
use Rattle.frame.specs.declared.refusals.Refusal.{Refusal}
use Rattle.frame.specs.Refusals.{number}
use Rattle.frame.specs.Trees.{Tree}
use Rattle.typing.specs.Check.{accepted, check, check_answer}
use Rattle.put.specs.Out.{Wrote}
use Rattle.step.specs.Step.{fit, step_answer, step_output}
use Rattle.step.specs.declared.Step.{Step}
use Rattle.run.specs.Run.{run, turned_down}

-- ---- a step's new frame
abbrev pub OutPre : Option (List ℕ) → Type 0
OutPre f = (xs : List ℕ) × Wrote f xs

pub record OutPost (f : Option (List ℕ)) (o p : List ℕ) (r : Result Step Refusal) : Type 0 where
  pub done : (xs : List ℕ) → Wrote f xs → (r ≡ step_answer (fit (length o) xs)) × (p ≡ step_output (fit (length o) xs) o)

-- ---- before a run's first step
-- the run of s ends before it, with the number of this refusal; or s is accepted, and the lent output is long enough
abbrev pub Admits : List ℕ → ℕ → Result (Unit {0}) Refusal → Type 0
Admits s lent (Err r) = (budget : ℕ) → run s budget lent ≡ turned_down (number r)
Admits s lent (Ok u) = (t : Tree) × (check s ≡ accepted t) × (4096 ≤ lent)

-- of every frame that the checks answer so
pub record AdmitPost (a : Result ℕ Refusal) (lent : ℕ) (r : Result (Unit {0}) Refusal) : Type 0 where
  pub admits : (s : List ℕ) → a ≡ check_answer (check s) → Admits s lent r
