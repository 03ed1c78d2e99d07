-- What the code that makes a word of an answer asks.
use Rattle.std.specs.Prelude.{ℕ, ◌≤◌, Result, Ok, Err}
use Rattle.frame.specs.declared.refusals.Refusal.{Refusal}
use Rattle.frame.specs.Reading.{frame_limit}
use Rattle.step.specs.declared.Step.{Step}
use Rattle.step.specs.declared.Step.TheVariants.{Changed, Unchanged}
use Rattle.run.specs.declared.Run.{Run}

-- the length of an answer's frame is within the limit
abbrev pub ShortStep : Result Step Refusal → Type 0
ShortStep (Ok Unchanged) = Unit {0}
ShortStep (Ok (Changed n)) = n ≤ frame_limit
ShortStep (Err r) = Unit {0}

abbrev pub ShortRun : Result Run Refusal → Type 0
ShortRun (Ok r) = r.length ≤ frame_limit
ShortRun (Err r) = Unit {0}

-- the same of an answer with a number for a refusal
abbrev pub NumberedShortStep : Result Step ℕ → Type 0
NumberedShortStep (Ok Unchanged) = Unit {0}
NumberedShortStep (Ok (Changed n)) = n ≤ frame_limit
NumberedShortStep (Err c) = Unit {0}

abbrev pub NumberedShortRun : Result Run ℕ → Type 0
NumberedShortRun (Ok r) = r.length ≤ frame_limit
NumberedShortRun (Err c) = Unit {0}
