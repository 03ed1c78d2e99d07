-- What the code that answers line by line does, by the definitions of program/specs/Pieces.antt.
use Rattle.std.specs.Prelude.{ℕ, List, All, ◌≢◌}
use Rattle.lines.specs.LineReads.{Reads}
use Rattle.program.specs.Text.{newline}
use Rattle.program.specs.Pieces.{answers, last_line}
use Rattle.printing.specs.Written.{Adds}
use Rattle.simplify.specs.declared.stream.Stream.{Stream}

-- no byte of xs ends a line
abbrev pub NoEnd : List ℕ → Type 0
NoEnd xs = All (λ c. c ≢ newline) xs

-- after the text: the line that is then held, and behind the answers that wait those of the lines that ended
pub record Feeds (old : Stream) (text : List ℕ) (new : Stream) : Type 0 where
  pub line : (held : List ℕ) → Reads old.line held → Reads new.line (last_line text held)
  pub adds : (held : List ℕ) → Reads old.line held → Adds old.answers (answers text held) new.answers
