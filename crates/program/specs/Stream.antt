-- The whole output for the whole input (document 01: "A line ends at byte 0A, which is no part of it; bytes after the last 0A are a
-- line too, if there are any.").
use Rattle.std.specs.Prelude.{ℕ, Bool, true, false, eqb}
use mathlib.Core.List.{List, [], ◌∷◌, flat_map}
use Rattle.program.specs.Text.{newline, line_text}

-- the lines of c and what follows it: c ends an empty line, or stands first in the line that follows, or, where none does, is one itself
abbrev pub line_from : Bool → ℕ → List (List ℕ) → List (List ℕ)
line_from true c lines = [] ∷ lines
line_from false c [] = (c ∷ []) ∷ []
line_from false c (line ∷ lines) = (c ∷ line) ∷ lines

unfoldable pub lines_of : List ℕ → List (List ℕ)
lines_of [] = []
lines_of (c ∷ text) = line_from (eqb c newline) c (lines_of text)

-- what `simplify` prints for the input: "The program `simplify` reads lines from standard input, runs each [..] and prints the
-- answer word, the step count in decimal and the frame, or REFUSED and the number"
unfoldable pub simplified : List ℕ → List ℕ
simplified text = flat_map line_text (lines_of text)
