-- What printing a run's answer asks and answers, by the definitions of program/specs/Text.antt.
use Rattle.std.specs.Prelude.{◌≡◌, List, ℕ, ◌≤◌, length, Result, Ok, Err}
use Rattle.frame.specs.Reading.{frame_limit}
use Rattle.frame.specs.Refusals.{IsNumber}
use Rattle.frame.specs.Texts.{codes}
use Rattle.frame.specs.declared.refusals.Refusal.{Refusal}
use Rattle.run.specs.Run.{RunOutcome, ended, turned_down, word_answer, run_answer, run_output}
use Rattle.run.specs.declared.Ending.{Ending}
use Rattle.run.specs.declared.Ending.TheVariants.{Rest, Spent, Full}
use Rattle.run.specs.declared.Run.{Run}
use Rattle.program.specs.Text.{budget, lent}

-- the bytes of the longest answer: SPENT, five digits and 4,096 bytes, two spaces and the line's end
abbrev pub longest : ℕ
longest = 8205

abbrev pub ending_text : Ending → List ℕ
ending_text Rest = codes "REST"
ending_text Spent = codes "SPENT"
ending_text Full = codes "FULL"

-- no count is above the budget, and no frame above the limit; a number is that of a refusal
abbrev pub Small : RunOutcome → Type 0
Small (ended w n xs) = (n ≤ budget) × (length xs ≤ frame_limit)
Small (turned_down c) = IsNumber c

-- a is the answer of an outcome, and the buffer its output
pub record Answers (a : Result Run Refusal) (last : List ℕ) (x : RunOutcome) : Type 0 where
  pub old : List ℕ
  pub answer : a ≡ run_answer x
  pub output : last ≡ run_output x old
  pub long : length old ≡ lent
  pub small : Small x

abbrev pub AnswerPre : Result Run Refusal → List ℕ → Type 0
AnswerPre a last = (x : RunOutcome) × Answers a last x

-- ---- of an answer with a number for a refusal
-- no count is above the budget, and no frame above the limit; a number may be any
abbrev pub NumberedSmall : RunOutcome → Type 0
NumberedSmall (ended w n xs) = (n ≤ budget) × (length xs ≤ frame_limit)
NumberedSmall (turned_down c) = Unit {0}

-- the answer of an outcome as `run_answer` has it, but with the number itself, which may be any
abbrev pub numbered_answer : RunOutcome → Result Run ℕ
numbered_answer (ended w n xs) = Ok (word_answer w n (length xs))
numbered_answer (turned_down c) = Err c

-- a is the answer of an outcome, and the buffer its output
pub record NumberedAnswers (a : Result Run ℕ) (last : List ℕ) (x : RunOutcome) : Type 0 where
  pub old : List ℕ
  pub answer : a ≡ numbered_answer x
  pub output : last ≡ run_output x old
  pub long : length old ≡ lent
  pub small : NumberedSmall x

abbrev pub NumberedAnswerPre : Result Run ℕ → List ℕ → Type 0
NumberedAnswerPre a last = (x : RunOutcome) × NumberedAnswers a last x
