-- What a run answers, and what it leaves in the lent output, for each way in which it ends, by one evaluation. (Whole runs stand in
-- crates/program/specs/Sample.antt, as the program prints them.)
use Rattle.std.specs.Prelude.{◌≡◌, refl, List, [], ◌∷◌, map, ℕ, Result, Ok, Err}
use Prim.Native.String.{String}
use Rattle.frame.specs.declared.refusals.Refusal.{Refusal}
use Rattle.frame.specs.declared.refusals.Refusal.TheVariants.{EndsInside, NoRoom}
use Rattle.frame.specs.Lines.{digit_of, read_line}
use Rattle.frame.specs.Texts.{bytes}
use Rattle.run.specs.Run.{REST, SPENT, FULL, RunOutcome, ended, turned_down, run_answer, run_output}
use Rattle.run.specs.declared.Ending.TheVariants.{Rest, Spent, Full}
use Rattle.run.specs.declared.Run.{Run}

data Lent : Type 0 where
  -- how a run ends, and the bytes of the lent output; what it answers, and the bytes afterwards
  lent : RunOutcome → String → Result Run Refusal → String → Lent

-- "The output then holds the last tree from byte 0, and each byte after it is as before the run." An output here is shorter than a run asks for:
-- how long it is was looked at before.
outputs : List Lent
outputs =
    lent (ended REST 3 (bytes "0263")) "A1A2A3A4" (Ok (record { ending = Rest; steps = 3; length = 2 })) "0263A3A4"
    ∷ lent (ended SPENT 0 (bytes "02BD0262")) "A1A2A3A4" (Ok (record { ending = Spent; steps = 0; length = 4 })) "02BD0262"
    ∷ lent (ended FULL 1 (bytes "0262")) "A1A2A3A4" (Ok (record { ending = Full; steps = 1; length = 2 })) "0262A3A4"
    -- "Each answers its number alone and leaves the output's old bytes."
    ∷ lent (turned_down 12) "A1A2A3A4" (Err NoRoom) "A1A2A3A4"
    ∷ lent (turned_down 3) "A1A2A3A4" (Err EndsInside) "A1A2A3A4"
    ∷ []

abbrev answered_for : Lent → Result Run Refusal × List ℕ
answered_for (lent o d a e) = (run_answer o, run_output o (bytes d))

abbrev afterwards : Lent → Result Run Refusal × List ℕ
afterwards (lent o d a e) = (a, bytes e)

output_cases : map answered_for outputs ≡ map afterwards outputs
unfolding digit_of read_line bytes outputs
output_cases = refl
