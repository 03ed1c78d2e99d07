-- Text (document 01: "in text, one frame a line in capital hexadecimal").
use Rattle.std.specs.Prelude.{ℕ, ◌+◌, ◌*◌, ◌-◌, ◌/◌, ◌%◌, Bool, true, false, ◌&&◌, List, [], ◌∷◌, leb}
use Rattle.frame.specs.Tags.{pick}

-- the value of a character 0-9, A-F; 16 for any other
unfoldable pub digit_of : ℕ → ℕ
digit_of c = pick (leb 48 c && leb c 57) (c - 48) (pick (leb 65 c && leb c 70) (c - 55) 16)

pub data Line : Type 0 where
  frame : List ℕ → Line
  -- "1. A text line has an odd count of characters or one outside 0-9, A-F."
  bad_line : Line

abbrev pub cons_byte : Bool → ℕ → Line → Line
cons_byte true b (frame s) = frame (b ∷ s)
cons_byte true b bad_line = bad_line
cons_byte false b l = bad_line

unfoldable pub read_line : List ℕ → Line
read_line [] = frame []
read_line (c ∷ []) = bad_line
read_line (c ∷ d ∷ cs) = cons_byte (leb (digit_of c) 15 && leb (digit_of d) 15) (digit_of c * 16 + digit_of d) (read_line cs)

-- the character of a value below 16
unfoldable pub digit_for : ℕ → ℕ
digit_for v = pick (leb v 9) (v + 48) (v + 55)

unfoldable pub write_line : List ℕ → List ℕ
write_line [] = []
write_line (b ∷ s) = digit_for (b / 16) ∷ digit_for (b % 16) ∷ write_line s
