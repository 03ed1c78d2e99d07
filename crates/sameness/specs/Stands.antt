-- A tree that stands at a position of a frame.
use Rattle.std.specs.Prelude.{ℕ, ◌+◌, List, length}
use Rattle.frame.specs.Trees.{Tree, Forest}
use Rattle.frame.specs.Tags.{Sort}
use Rattle.frame.specs.Encoding.{enc, encs}
use Rattle.frame.specs.Spans.{Spans}
use Rattle.frame.specs.WellFormed.{Wf, Wfs}

pub record Stands (s : List ℕ) (at : ℕ) (e : Sort) (t : Tree) : Type 0 where
  pub bytes : Spans s at (at + length (enc t)) (enc t)
  pub formed : Wf t e

-- trees of these sorts, one after the other
pub record StandAll (s : List ℕ) (at : ℕ) (es : List Sort) (ts : Forest) : Type 0 where
  pub bytes : Spans s at (at + length (encs ts)) (encs ts)
  pub formed : Wfs ts es
