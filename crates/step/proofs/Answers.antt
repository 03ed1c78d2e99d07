-- What an answer of `step` says of the step.
-- Main results: step_number (a step is turned down for a refusal's number), step_refused.
use Rattle.std.proofs.Common.{◌≡◌, ℕ, List, Err, sym, ap, ◌∙◌, refl}
use Rattle.frame.specs.declared.refusals.Refusal.{Refusal}
use Rattle.frame.specs.declared.refusals.Refusal.TheVariants.{NoPlace, NoRoom}
use Rattle.frame.specs.Refusals.{number, refusal, IsNumber}
use Rattle.frame.proofs.RefusalNumbers.{number_back}
use Rattle.typing.proofs.Answers.{check_number}
use Rattle.step.specs.Step.{Outcome, wrote, kept, turned_down, step, step_answer}
use Rattle.step.proofs.Ends.{TurnedDown, by_check, by_place, by_length, step_turned_down}

pub step_number : (s : List ℕ) (k c n : ℕ) → step s k c ≡ turned_down n → IsNumber n
step_number s k c n e = go n (step_turned_down s k c n e)
  where
    go : (n : ℕ) → TurnedDown s k c n → IsNumber n
    go _ (by_check n h) = check_number s n h
    go _ (by_place t h p) = (NoPlace, refl)
    go _ (by_length t place u h p l) = (NoRoom, refl)

-- the number of a step's refusal is that of the definition
pub step_refused : (s : List ℕ) (k c : ℕ) (r : Refusal) → Err r ≡ step_answer (step s k c) → step s k c ≡ turned_down (number r)
step_refused s k c r e = go (step s k c) refl e
  where
    go : (x : Outcome) → step s k c ≡ x → Err r ≡ step_answer x → step s k c ≡ turned_down (number r)
    go (wrote xs) p e = cc
    go kept p e = cc
    go (turned_down n) p e =
        let z : r ≡ refusal n = cc in
        p ∙ ap turned_down (sym (ap number z ∙ number_back n (step_number s k c n p)))
