-- What a text holds, and what writing behind it does.
use Rattle.std.specs.Prelude.{◌≡◌, ℕ, ◌+◌, ◌≤◌, List, ◌++◌, length, take, drop, Result}
use Rattle.frame.specs.declared.refusals.Refusal.{Refusal}
use Rattle.run.specs.Run.{RunOutcome}
use Rattle.run.specs.declared.Run.{Run}
use Rattle.program.specs.Text.{answer_text}
use Rattle.printing.specs.AnswerPosts.{longest, Answers, NumberedAnswers}
use Rattle.printing.specs.declared.Text.{Text}

-- the bytes that were written
unfoldable pub written : Text → List ℕ
written t = take t.end t.bytes.now

-- the lent bytes behind them
unfoldable pub behind : Text → List ℕ
behind t = drop t.end t.bytes.now

-- xs is written, over as many of the bytes behind; those after them are kept
pub record Adds (old : Text) (xs : List ℕ) (new : Text) : Type 0 where
  pub writes : written new ≡ written old ++ xs
  pub keeps : behind new ≡ drop (length xs) (behind old)
  pub fits : length xs + length (behind new) ≡ length (behind old)
  pub same_reference : new.bytes.ghost_name ≡ old.bytes.ghost_name

-- the answer's text, which is no longer than the longest
pub record AnswerPost (a : Result Run Refusal) (last : List ℕ) (old new : Text) : Type 0 where
  pub puts : (x : RunOutcome) → Answers a last x → Adds old (answer_text x) new
  pub room : length (written new) ≤ length (written old) + longest

-- the same of an answer with a number for a refusal
pub record NumberedAnswerPost (a : Result Run ℕ) (last : List ℕ) (old new : Text) : Type 0 where
  pub puts : (x : RunOutcome) → NumberedAnswers a last x → Adds old (answer_text x) new
  pub room : length (written new) ≤ length (written old) + longest
