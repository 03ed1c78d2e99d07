-- What the code of the run asks and answers, by the definition of run/specs/Run.antt.
use Rattle.std.specs.Prelude.{◌≡◌, [], ℕ, List, ◌≤◌, length, Ok}
use Rattle.frame.specs.Types.{Ty}
use Rattle.frame.specs.Trees.{Tree}
use Rattle.frame.specs.Tags.{predicate}
use Rattle.frame.specs.Encoding.{enc}
use Rattle.frame.specs.Reading.{frame_limit}
use Rattle.typing.specs.Accepted.{Accepted}
use Rattle.typing.specs.Check.{check, accepted}
use Rattle.run.specs.Run.{Word, ran, run_tree, ending_for, run, run_answer, run_output}
use Rattle.run.specs.declared.Ending.{Ending}
use Rattle.run.specs.declared.Run.{Run}
use Rattle.turn.specs.Progress.{At}

-- the run is at the accepted tree t
pub record AtTree (x : At) (t : Tree) : Type 0 where
  pub bytes : x.frame ≡ enc t
  pub σ : ℕ → Ty
  pub accepted : Accepted σ t [] predicate
  pub fits : length x.frame ≤ frame_limit

abbrev pub RoundsPre : At → Type 0
RoundsPre o = (t : Tree) × AtTree o t

-- the run of that tree, from o on, has ended at p
pub record RunEnded (t : Tree) (o p : At) (e : Ending) : Type 0 where
  pub word : Word
  pub last : Tree
  pub ended : run_tree o.left o.steps t ≡ ran word p.steps last
  pub ending : e ≡ ending_for word
  pub bytes : p.frame ≡ enc last
  pub fits : length p.frame ≤ frame_limit

pub record RoundsPost (o p : At) (e : Ending) : Type 0 where
  pub ends : (t : Tree) → AtTree o t → RunEnded t o p e

-- nothing stands against a run of s with the output o
abbrev pub CanRun : List ℕ → List ℕ → Type 0
CanRun s o = (t : Tree) × (check s ≡ accepted t) × (4096 ≤ length o)

-- the answer and the output of a run that nothing stood against
pub record RunPost (s : List ℕ) (budget : ℕ) (o p : List ℕ) (r : Run) : Type 0 where
  pub answer : Ok r ≡ run_answer (run s budget (length o))
  pub output : p ≡ run_output (run s budget (length o)) o
