-- What an answer of `run` says of the run.
-- Main results: run_number (a run is turned down for a refusal's number), run_refused.
use Rattle.std.proofs.Common.{◌≡◌, ℕ, Bool, true, false, List, Err, ltb, sym, ap, ◌∙◌, refl}
use Rattle.frame.specs.declared.refusals.Refusal.{Refusal}
use Rattle.frame.specs.declared.refusals.Refusal.TheVariants.{NoRoom}
use Rattle.frame.specs.Refusals.{number, refusal, IsNumber}
use Rattle.frame.specs.Reading.{frame_limit}
use Rattle.frame.specs.Tags.{pick}
use Rattle.frame.proofs.RefusalNumbers.{number_back}
use Rattle.typing.specs.Check.{Checked, accepted, refused, check}
use Rattle.typing.proofs.Answers.{check_number}
use Rattle.run.specs.Run.{Ran, ran, RunOutcome, ended, turned_down, ended_by, run_tree, run_on, run, run_answer}

pub run_number : (s : List ℕ) (budget c n : ℕ) → run s budget c ≡ turned_down n → IsNumber n
unfolding run
run_number s budget c n e = go (check s) refl e
  where
    fitted : (b : Bool) (r : Ran) → pick b (turned_down 12) (ended_by r) ≡ turned_down n → IsNumber n
    fitted true r e = (NoRoom, cc)
    fitted false (ran w m u) e = cc

    go : (x : Checked) → check s ≡ x → run_on budget c x ≡ turned_down n → IsNumber n
    go (accepted t) p e = fitted (ltb c frame_limit) (run_tree budget 0 t) e
    go (refused m) p e = let z : m ≡ n = cc in check_number s n (p ∙ ap refused z)

-- the number of a run's refusal is that of the definition
pub run_refused : (s : List ℕ) (budget c : ℕ) (r : Refusal) → Err r ≡ run_answer (run s budget c) → run s budget c ≡ turned_down (number r)
run_refused s budget c r e = go (run s budget c) refl e
  where
    go : (x : RunOutcome) → run s budget c ≡ x → Err r ≡ run_answer x → run s budget c ≡ turned_down (number r)
    go (ended w n xs) p e = cc
    go (turned_down n) p e =
        let z : r ≡ refusal n = cc in
        p ∙ ap turned_down (sym (ap number z ∙ number_back n (run_number s budget c n p)))
