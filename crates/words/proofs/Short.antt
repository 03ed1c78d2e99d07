-- The frames of steps and runs are within the limit, so that their lengths have room beside a word.
-- Main results: step_short, run_short, and the same with a number for a refusal: numbered_step_short, numbered_run_short;
-- short_step_numbered, short_run_numbered (an answer with its number is as short).
use Rattle.std.proofs.Common.{◌≡◌, ℕ, List, Result, Ok, Err, refl, sym, subst}
use Rattle.frame.specs.declared.refusals.Refusal.{Refusal}
use Rattle.frame.specs.Spans.{Bytes}
use Rattle.step.specs.Step.{Outcome, wrote, kept, turned_down, step, step_answer}
use Rattle.step.specs.declared.Step.{Step}
use Rattle.step.specs.declared.Step.TheVariants.{Changed, Unchanged}
use Rattle.step.proofs.Steps.{step_wrote}
use Rattle.run.specs.Run as R
use Rattle.run.specs.Run.{RunOutcome, ended, run, run_answer}
use Rattle.run.specs.declared.Run.{Run}
use Rattle.run.proofs.Sizes.{run_small}
use Rattle.words.specs.Posts.{ShortStep, ShortRun, NumberedShortStep, NumberedShortRun}
use Rattle.words.specs.Words.{by_number}

pub step_short : (s : List ℕ) → Bytes s → (k c : ℕ) (a : Result Step Refusal) → a ≡ step_answer (step s k c) → ShortStep a
step_short s b k c a e = subst ShortStep (sym e) (go (step s k c) refl)
  where
    go : (x : Outcome) → step s k c ≡ x → ShortStep (step_answer x)
    go (wrote xs) h = (step_wrote s b k c xs h).fits
    go kept h = tt
    go (turned_down n) h = tt

pub run_short : (s : List ℕ) → Bytes s → (budget c : ℕ) (a : Result Run Refusal) → a ≡ run_answer (run s budget c) → ShortRun a
run_short s b budget c a e = subst ShortRun (sym e) (go (run s budget c) refl)
  where
    go : (x : RunOutcome) → run s budget c ≡ x → ShortRun (run_answer x)
    go (ended w n xs) h = (run_small s b budget c w n xs h).1
    go (R.turned_down n) h = tt

-- ---- the same with a number for a refusal
pub short_step_numbered : (a : Result Step Refusal) → ShortStep a → NumberedShortStep (by_number a)
short_step_numbered (Ok Unchanged) h = tt
short_step_numbered (Ok (Changed n)) h = h
short_step_numbered (Err r) h = tt

pub short_run_numbered : (a : Result Run Refusal) → ShortRun a → NumberedShortRun (by_number a)
short_run_numbered (Ok r) h = h
short_run_numbered (Err r) h = tt

pub numbered_step_short : (s : List ℕ) → Bytes s → (k c : ℕ) (a : Result Step ℕ) → a ≡ by_number (step_answer (step s k c)) → NumberedShortStep a
numbered_step_short s b k c a e = subst NumberedShortStep (sym e) (short_step_numbered _ (step_short s b k c _ refl))

pub numbered_run_short : (s : List ℕ) → Bytes s → (budget c : ℕ) (a : Result Run ℕ) → a ≡ by_number (run_answer (run s budget c)) → NumberedShortRun a
numbered_run_short s b budget c a e = subst NumberedShortRun (sym e) (short_run_numbered _ (run_short s b budget c _ refl))
