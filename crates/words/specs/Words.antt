-- The answers of the static library: one number of 64 bits for each answer. include/lustrejasper.h says the same in C. "Where an answer is
-- an enum, a definition gives this paper's number and values for each case of the enum. The promises use that definition."
use Rattle.std.specs.Prelude.{ℕ, ◌+◌, ◌*◌, ◌^◌, length, Result, Ok, Err}
use Rattle.frame.specs.declared.refusals.Refusal.{Refusal}
use Rattle.frame.specs.Refusals.{number}
use Rattle.typing.specs.Check.{Checked, accepted, refused}
use Rattle.step.specs.Step.{Outcome, wrote, kept, turned_down}
use Rattle.step.specs.declared.Step.{Step}
use Rattle.step.specs.declared.Step.TheVariants.{Changed, Unchanged}
use Rattle.run.specs.Run.{Word, REST, SPENT, FULL, RunOutcome, ended}
use Rattle.run.specs.Run as R
use Rattle.run.specs.declared.Ending.{Ending}
use Rattle.run.specs.declared.Ending.TheVariants.{Rest, Spent, Full}
use Rattle.run.specs.declared.Run.{Run}

-- ---- of what the definitions give
-- 0 for a frame that is accepted, else the number
abbrev pub check_word : Checked → ℕ
check_word (accepted t) = 0
check_word (refused n) = n

-- 65,536 × word + value: 0 unchanged; 1 changed, and the length; 2 refused, and the number
abbrev pub step_word : Outcome → ℕ
step_word kept = 0
step_word (wrote xs) = 65536 + length xs
step_word (turned_down n) = 131072 + n

-- 2^48 × word + 2^32 × length + count: 1 REST, 2 SPENT, 3 FULL; 4 refused, with length 0 and the number for the count
abbrev pub run_word : RunOutcome → ℕ
run_word (ended REST n xs) = 2 ^ 48 + 2 ^ 32 * length xs + n
run_word (ended SPENT n xs) = 2 * 2 ^ 48 + 2 ^ 32 * length xs + n
run_word (ended FULL n xs) = 3 * 2 ^ 48 + 2 ^ 32 * length xs + n
run_word (R.turned_down c) = 4 * 2 ^ 48 + c

-- ---- of the code's answers
abbrev pub check_answer_word : Result ℕ Refusal → ℕ
check_answer_word (Ok n) = 0
check_answer_word (Err r) = number r

abbrev pub step_answer_word : Result Step Refusal → ℕ
step_answer_word (Ok Unchanged) = 0
step_answer_word (Ok (Changed n)) = 65536 + n
step_answer_word (Err r) = 131072 + number r

abbrev pub number_of_ending : Ending → ℕ
number_of_ending Rest = 2 ^ 48
number_of_ending Spent = 2 * 2 ^ 48
number_of_ending Full = 3 * 2 ^ 48

abbrev pub run_answer_word : Result Run Refusal → ℕ
run_answer_word (Ok r) = number_of_ending r.ending + 2 ^ 32 * r.length + r.steps
run_answer_word (Err r) = 4 * 2 ^ 48 + number r

-- ---- of the code's answers with a number for a refusal, which may be any
abbrev pub numbered_check_word : Result ℕ ℕ → ℕ
numbered_check_word (Ok n) = 0
numbered_check_word (Err c) = c

abbrev pub numbered_step_word : Result Step ℕ → ℕ
numbered_step_word (Ok Unchanged) = 0
numbered_step_word (Ok (Changed n)) = 65536 + n
numbered_step_word (Err c) = 131072 + c

abbrev pub numbered_run_word : Result Run ℕ → ℕ
numbered_run_word (Ok r) = number_of_ending r.ending + 2 ^ 32 * r.length + r.steps
numbered_run_word (Err c) = 4 * 2 ^ 48 + c

-- an answer with the number of its refusal
abbrev pub by_number : {T : Type 0} → Result T Refusal → Result T ℕ
by_number (Ok x) = Ok x
by_number (Err r) = Err (number r)
