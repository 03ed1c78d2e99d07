-- What the code of one step asks and answers, by the definition of step/specs/Step.antt.
use Rattle.std.specs.Prelude.{◌≡◌, List, ℕ, length, Result}
use Rattle.frame.specs.declared.refusals.Refusal.{Refusal}
use Rattle.frame.specs.Trees.{Tree}
use Rattle.typing.specs.Check.{accepted, check}
use Rattle.nav.specs.AtPlaces.{PlacesOf}
use Rattle.nav.specs.declared.Places.{Places}
use Rattle.filling.specs.Operands.{HeldIn}
use Rattle.step.specs.Step.{step, step_answer, step_output}
use Rattle.step.specs.declared.Step.{Step}

-- an accepted frame, with its tables
pub record HeldPre (p : Places) : Type 0 where
  pub t : Tree
  pub checks : check p.bytes.now ≡ accepted t
  pub table : PlacesOf p t
  pub held : HeldIn p t

-- "The contract of each entry gives answer, count and every byte of the output afterwards, refusals too: by an equation with a
-- definition wherever these rules settle it"; the output was o and is p
pub record StepPost (s : List ℕ) (k : ℕ) (o p : List ℕ) (r : Result Step Refusal) : Type 0 where
  pub answer : r ≡ step_answer (step s k (length o))
  pub output : p ≡ step_output (step s k (length o)) o
