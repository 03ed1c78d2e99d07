-- A run's answer with the number of its refusal, on plain values: what `put_answer` makes of an answer.
-- Main results: numbered_lem (the number is the outcome's); numbered_answers (with its number an answer is that of the same outcome),
-- numbered_pre, numbered_post; ended_maps, refused_maps (the two cases of an answer).
use Rattle.std.proofs.Common.{◌≡◌, ℕ, List, Result, Ok, Err, MatchResult, IsErrAnd, refl, sym, ap, ◌∙◌, subst}
use Rattle.frame.specs.Refusals.{number, IsNumber}
use Rattle.frame.specs.declared.refusals.Refusal.{Refusal}
use Rattle.frame.proofs.RefusalNumbers.{number_back}
use Rattle.run.specs.Run.{RunOutcome, ended, turned_down, run_answer}
use Rattle.run.specs.declared.Run.{Run}
use Rattle.printing.specs.AnswerPosts.{Small, Answers, AnswerPre, NumberedSmall, numbered_answer, NumberedAnswers, NumberedAnswerPre}
use Rattle.printing.specs.Written.{AnswerPost, NumberedAnswerPost}
use Rattle.printing.specs.declared.Text.{Text}

-- n is the answer a with the number of its refusal
abbrev pub Maps : Result Run Refusal → Result Run ℕ → Type 0
Maps a n = MatchResult a (λ r. n ≡ Ok r) (λ r. IsErrAnd n (λ c. c ≡ number r))

pub ended_maps : (a : Result Run Refusal) (r : Run) → a ≡ Ok r → Maps a (Ok r)
ended_maps a r e = subst (λ b. Maps b (Ok r)) (sym e) refl

pub refused_maps : (a : Result Run Refusal) (r : Refusal) (c : ℕ) → a ≡ Err r → c ≡ number r → Maps a (Err c)
refused_maps a r c e h = subst (λ b. Maps b (Err c)) (sym e) h

-- that number is the outcome's
pub numbered_lem : (x : RunOutcome) → ((c : ℕ) → x ≡ turned_down c → IsNumber c) → (n : Result Run ℕ) → Maps (run_answer x) n → n ≡ numbered_answer x
numbered_lem (ended w k xs) s n h = h
numbered_lem (turned_down c) s (Ok r) h = absurd h
numbered_lem (turned_down c) s (Err i) h = ap (λ j. Err j) (h ∙ number_back c (s c refl))

is_number : (x : RunOutcome) → Small x → (c : ℕ) → x ≡ turned_down c → IsNumber c
is_number (ended w k xs) s c e = cc
is_number (turned_down d) s c e = let f : d ≡ c = cc in subst IsNumber f s

numbered_small : (x : RunOutcome) → Small x → NumberedSmall x
numbered_small (ended w k xs) s = s
numbered_small (turned_down c) s = tt

module _ (a : Result Run Refusal) (n : Result Run ℕ) (last : List ℕ) (maps : Maps a n) where
  pub numbered_answers : (x : RunOutcome) → Answers a last x → NumberedAnswers n last x
  numbered_answers x h = record {
    old = h.old;
    answer = numbered_lem x (is_number x h.small) n (subst (λ b. Maps b n) h.answer maps);
    output = h.output;
    long = h.long;
    small = numbered_small x h.small;
  }

  pub numbered_pre : AnswerPre a last → NumberedAnswerPre n last
  numbered_pre (x, h) = (x, numbered_answers x h)

  pub numbered_post : (o p : Text) → NumberedAnswerPost n last o p → AnswerPost a last o p
  numbered_post o p h = record { puts = λ x ans. h.puts x (numbered_answers x ans); room = h.room }
