-- The word of an answer is that of what the definition gives: the number of a refusal is the definition's.
-- Main results: check_word_lem, step_word_lem, run_word_lem, and the same with a number for a refusal: numbered_check_word_lem,
-- numbered_step_word_lem, numbered_run_word_lem; numbered_lem (what `map_err(u8::from)` makes of an answer); check_answer_lem,
-- step_answer_lem, run_answer_lem (the word of an answer is that of it with its number).
use Rattle.std.proofs.Common.{◌≡◌, ℕ, ◌+◌, ◌*◌, ◌^◌, List, Result, Ok, Err, MatchResult, IsErrAnd, refl, ap, ◌∙◌}
use Rattle.frame.specs.declared.refusals.Refusal.{Refusal}
use Rattle.frame.specs.Refusals.{number}
use Rattle.frame.proofs.RefusalNumbers.{number_back}
use Rattle.typing.specs.Check.{Checked, accepted, refused, check, check_answer}
use Rattle.typing.proofs.Answers.{check_number}
use Rattle.step.specs.Step.{Outcome, wrote, kept, turned_down, step, step_answer}
use Rattle.step.specs.declared.Step.{Step}
use Rattle.step.specs.declared.Step.TheVariants.{Changed, Unchanged}
use Rattle.step.proofs.Answers.{step_number}
use Rattle.run.specs.Run as R
use Rattle.run.specs.Run.{REST, SPENT, FULL, RunOutcome, ended, run, run_answer}
use Rattle.run.specs.declared.Run.{Run}
use Rattle.run.proofs.Answers.{run_number}
use Rattle.words.specs.Words.{
  check_word,
  step_word,
  run_word,
  check_answer_word,
  step_answer_word,
  run_answer_word,
  numbered_check_word,
  numbered_step_word,
  numbered_run_word,
  by_number,
}

pub numbered_lem : {T : Type 0} (a : Result T Refusal) (b : Result T ℕ)
    → MatchResult a (λ x. b ≡ Ok x) (λ r. IsErrAnd b (λ c. c ≡ number r)) → b ≡ by_number a
numbered_lem (Ok x) b h = h
numbered_lem (Err r) (Ok y) h = absurd h
numbered_lem (Err r) (Err c) h = ap (λ i. Err i) h

-- ---- with its number an answer has the same word
pub check_answer_lem : (a : Result ℕ Refusal) → numbered_check_word (by_number a) ≡ check_answer_word a
check_answer_lem (Ok n) = refl
check_answer_lem (Err r) = refl

pub step_answer_lem : (a : Result Step Refusal) → numbered_step_word (by_number a) ≡ step_answer_word a
step_answer_lem (Ok Unchanged) = refl
step_answer_lem (Ok (Changed n)) = refl
step_answer_lem (Err r) = refl

pub run_answer_lem : (a : Result Run Refusal) → numbered_run_word (by_number a) ≡ run_answer_word a
run_answer_lem (Ok r) = refl
run_answer_lem (Err r) = refl

-- ---- the word of what the definition gives
pub check_word_lem : (s : List ℕ) → check_answer_word (check_answer (check s)) ≡ check_word (check s)
check_word_lem s = go (check s) refl
  where
    go : (x : Checked) → check s ≡ x → check_answer_word (check_answer x) ≡ check_word x
    go (accepted t) h = refl
    go (refused n) h = number_back n (check_number s n h)

pub step_word_lem : (s : List ℕ) (k c : ℕ) → step_answer_word (step_answer (step s k c)) ≡ step_word (step s k c)
step_word_lem s k c = go (step s k c) refl
  where
    go : (x : Outcome) → step s k c ≡ x → step_answer_word (step_answer x) ≡ step_word x
    go (wrote xs) h = refl
    go kept h = refl
    go (turned_down n) h = ap (λ i. 131072 + i) (number_back n (step_number s k c n h))

pub run_word_lem : (s : List ℕ) (budget c : ℕ) → run_answer_word (run_answer (run s budget c)) ≡ run_word (run s budget c)
run_word_lem s budget c = go (run s budget c) refl
  where
    go : (x : RunOutcome) → run s budget c ≡ x → run_answer_word (run_answer x) ≡ run_word x
    go (ended REST n xs) h = refl
    go (ended SPENT n xs) h = refl
    go (ended FULL n xs) h = refl
    go (R.turned_down n) h = ap (λ i. 4 * 2 ^ 48 + i) (number_back n (run_number s budget c n h))

-- ---- the same with a number for a refusal
pub numbered_check_word_lem : (s : List ℕ) → numbered_check_word (by_number (check_answer (check s))) ≡ check_word (check s)
numbered_check_word_lem s = check_answer_lem (check_answer (check s)) ∙ check_word_lem s

pub numbered_step_word_lem : (s : List ℕ) (k c : ℕ) → numbered_step_word (by_number (step_answer (step s k c))) ≡ step_word (step s k c)
numbered_step_word_lem s k c = step_answer_lem (step_answer (step s k c)) ∙ step_word_lem s k c

pub numbered_run_word_lem : (s : List ℕ) (budget c : ℕ) → numbered_run_word (by_number (run_answer (run s budget c))) ≡ run_word (run s budget c)
numbered_run_word_lem s budget c = run_answer_lem (run_answer (run s budget c)) ∙ run_word_lem s budget c
