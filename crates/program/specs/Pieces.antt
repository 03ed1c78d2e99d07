-- The input as it comes, in pieces: what is printed for each piece, and then at the end. No definition rests on this; `whole_input`
-- (proofs/Pieces.antt) says that however the input is cut, this is what Stream.antt says of the whole.
use Rattle.std.specs.Prelude.{ℕ, Bool, true, false, List, [], ◌∷◌, ◌++◌, eqb}
use Rattle.program.specs.Text.{newline, line_text}

-- `held` are the characters of the line so far; `go` goes on with those of the line then begun
abbrev pub answers_at : Bool → List ℕ → ℕ → (List ℕ → List ℕ) → List ℕ
answers_at true held c go = line_text held ++ go []
answers_at false held c go = go (held ++ (c ∷ []))

-- what is printed for the lines that end within the text
unfoldable pub answers : List ℕ → List ℕ → List ℕ
answers [] held = []
answers (c ∷ cs) held = answers_at (eqb c newline) held c (answers cs)

abbrev pub last_line_at : Bool → List ℕ → ℕ → (List ℕ → List ℕ) → List ℕ
last_line_at true held c go = go []
last_line_at false held c go = go (held ++ (c ∷ []))

-- the characters after the last line's end
unfoldable pub last_line : List ℕ → List ℕ → List ℕ
last_line [] held = held
last_line (c ∷ cs) held = last_line_at (eqb c newline) held c (last_line cs)

-- "bytes after the last 0A are a line too, if there are any"
abbrev pub last_answer : List ℕ → List ℕ
last_answer [] = []
last_answer (c ∷ cs) = line_text (c ∷ cs)

unfoldable pub whole_of : List (List ℕ) → List ℕ
whole_of [] = []
whole_of (piece ∷ pieces) = piece ++ whole_of pieces

-- `held` is the line that goes on
unfoldable pub in_pieces : List (List ℕ) → List ℕ → List ℕ
in_pieces [] held = last_answer held
in_pieces (piece ∷ pieces) held = answers piece held ++ in_pieces pieces (last_line piece held)
