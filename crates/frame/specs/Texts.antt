-- A frame written as document 01 writes it, "in text, one frame a line in capital hexadecimal": for the tables of cases.
use Rattle.std.specs.Prelude.{ℕ, zero, suc, List, [] as []ᴸ, ◌∷◌ as ◌∷ᴸ◌}
use Prim.Native.Char.{code}
use Prim.Native.String.{String, [], ◌∷◌, ◌++◌}
use Rattle.frame.specs.Lines.{Line, frame, bad_line, read_line}

-- the characters of a text, each by its code
abbrev pub codes : String → List ℕ
codes [] = []ᴸ
codes (c ∷ t) = code c ∷ᴸ codes t

abbrev frame_of : Line → List ℕ
frame_of (frame s) = s
frame_of bad_line = []ᴸ

-- the bytes that it stands for; none if it is no line
unfoldable pub bytes : String → List ℕ
bytes t = frame_of (read_line (codes t))

-- a text n times
unfoldable pub times : ℕ → String → String
times zero t = ""
times (suc n) t = t ++ times n t
