-- A line of text and its answer (document 01: "The program `simplify` reads lines from standard input, runs each with budget
-- 65,535 and prints the answer word, the step count in decimal and the frame, or REFUSED and the number, with one space between.").
use Rattle.std.specs.Prelude.{ℕ, zero, suc, ◌+◌, ◌/◌, ◌%◌, Bool, true, false, List, [], ◌∷◌, ◌++◌, ltb}
use Rattle.frame.specs.Lines.{Line, frame, bad_line, read_line, write_line}
use Rattle.frame.specs.Texts.{codes}
use Rattle.frame.specs.Reading.{frame_limit}
use Rattle.run.specs.Run.{Word, REST, SPENT, FULL, RunOutcome, ended, turned_down, run}

abbrev pub space : ℕ
space = 0x20

-- "A line ends at byte 0A, which is no part of it"
abbrev pub newline : ℕ
newline = 0x0A

-- ---- a number in decimal
-- the digits before the last by `front`, which is handed the number without its last digit
abbrev pub with_last : Bool → ℕ → (ℕ → List ℕ) → List ℕ
with_last true n front = (48 + n) ∷ []
with_last false n front = front (n / 10) ++ ((48 + n % 10) ∷ [])

-- with at most k digits before the last
unfoldable pub decimal_in : ℕ → ℕ → List ℕ
decimal_in zero n = (48 + n) ∷ []
decimal_in (suc k) n = with_last (ltb n 10) n (decimal_in k)

-- n has at most n digits before its last
unfoldable pub decimal : ℕ → List ℕ
decimal n = decimal_in n n

-- ---- an answer
abbrev pub word_text : Word → List ℕ
word_text REST = codes "REST"
word_text SPENT = codes "SPENT"
word_text FULL = codes "FULL"

abbrev pub refused_word : List ℕ
refused_word = codes "REFUSED"

-- "the answer word, the step count in decimal and the frame, [..] with one space between"
unfoldable pub ended_text : List ℕ → ℕ → List ℕ → List ℕ
ended_text word n xs = word ++ (space ∷ []) ++ decimal n ++ (space ∷ []) ++ write_line xs ++ (newline ∷ [])

-- "REFUSED and the number, with one space between"
unfoldable pub refused_text : ℕ → List ℕ
refused_text c = refused_word ++ (space ∷ []) ++ decimal c ++ (newline ∷ [])

unfoldable pub answer_text : RunOutcome → List ℕ
answer_text (ended w n xs) = ended_text (word_text w) n xs
answer_text (turned_down c) = refused_text c

-- ---- a line
-- "runs each with budget 65,535"
abbrev pub budget : ℕ
budget = 65535

-- the program lends a run as many bytes as a frame may have, so that 12 never arises
abbrev pub lent : ℕ
lent = frame_limit

-- "1. A text line has an odd count of characters or one outside 0-9, A-F."
abbrev pub line_outcome : Line → RunOutcome
line_outcome (frame s) = run s budget lent
line_outcome bad_line = turned_down 1

-- what is printed for the line of the characters cs
unfoldable pub line_text : List ℕ → List ℕ
line_text cs = answer_text (line_outcome (read_line cs))
