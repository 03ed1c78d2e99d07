-- A line that comes in pieces (document 01: "in text, one frame a line in capital hexadecimal"): what its reader has of the characters
-- so far, and what it answers at the end.
use Rattle.std.specs.Prelude.{ℕ, ◌≤◌, ◌<◌, ◌≡◌, Option, Some, None, Result, Ok, Err, List, ◌∷◌, ◌++◌, length, drop, ltb}
use Rattle.frame.specs.Tags.{pick}
use Rattle.frame.specs.Reading.{frame_limit}
use Rattle.frame.specs.Refusals.{refusal}
use Rattle.frame.specs.declared.refusals.Refusal.{Refusal}
use Rattle.frame.specs.Lines.{digit_of, Line, frame, bad_line, read_line, write_line}
use Rattle.put.specs.Out.{Wrote}
use Rattle.lines.specs.declared.Pending.{Pending}
use Rattle.lines.specs.declared.Pending.TheVariants.{Nothing, High, Malformed}
use Rattle.lines.specs.declared.LineReader.{LineReader}

-- the line whose frame begins with the bytes s and goes on as l
abbrev pub after : List ℕ → Line → Line
after s (frame t) = frame (s ++ t)
after s bad_line = bad_line

-- what is left of the characters cs, whose pairs make the bytes s: how the line is read, whatever follows
abbrev pub Leaves : List ℕ → List ℕ → Pending → Type 0
Leaves cs s Nothing = (more : List ℕ) → read_line (cs ++ more) ≡ after s (read_line more)
Leaves cs s (High h) = (c : ℕ) × (h ≡ digit_of c) × (h ≤ 15) × ((more : List ℕ) → read_line (cs ++ more) ≡ after s (read_line (c ∷ more)))
Leaves cs s Malformed = (more : List ℕ) → read_line (cs ++ more) ≡ bad_line

-- the reader has read the characters cs of a line
pub record Reads (line : LineReader) (cs : List ℕ) : Type 0 where
  pub made : List ℕ
  pub wrote : Wrote line.bytes made
  pub leaves : Leaves cs made line.pending

-- "1. A text line has an odd count of characters or one outside 0-9, A-F. 2. The frame has [..] more than 4,096." A line of no characters is
-- the frame of no bytes, which gets its 2 from `parse`. "Where an answer is an enum, a definition gives this paper's number and values for
-- each case of the enum."
abbrev pub line_answer : Line → Result (List ℕ) Refusal
line_answer (frame s) = pick (ltb frame_limit (length s)) (Err (refusal 2)) (Ok s)
line_answer bad_line = Err (refusal 1)

-- the text of s at the start of the output, whose later bytes are kept; nothing is written, and its length is not answered, where it has no room
pub record WritePost (s o o' : List ℕ) (r : Option ℕ) : Type 0 where
  pub wrote : length (write_line s) ≤ length o → (r ≡ Some (length (write_line s))) × (o' ≡ write_line s ++ drop (length (write_line s)) o)
  pub short : length o < length (write_line s) → (r ≡ None) × (o' ≡ o)
