-- The answers of lines, on plain values.
use Rattle.std.proofs.Common.{◌≡◌, ℕ, ◌<◌, Bool, true, false, List, length, Result, Ok, Err, MatchResult, IsErrAnd, refl, sym, ap, ◌∙◌, subst, arith}
use lib.Dec.{ltb}
use borrow.Author.Tests.{ltb-true, lt-ltb, ne_eqb}
use Rattle.frame.specs.Tags.{pick}
use Rattle.frame.specs.Reading.{frame_limit, parse}
use Rattle.frame.specs.Spans.{Bytes}
use Rattle.frame.specs.Lines.{Line, frame, bad_line, read_line}
use Rattle.frame.specs.Refusals.{number}
use Rattle.frame.specs.declared.refusals.Refusal.{Refusal}
use Rattle.frame.specs.declared.refusals.Refusal.TheVariants.{BadLine, BadLength}
use Rattle.lines.specs.LineReads.{line_answer}
use Rattle.typing.specs.Check.{check}
use Rattle.run.specs.Run.{RunOutcome, ended, turned_down, run, run_answer, run_output}
use Rattle.run.specs.declared.Run.{Run}
use Rattle.run.proofs.Answers.{run_number}
use Rattle.run.proofs.Sizes.{run_small}
use Rattle.program.specs.Text.{budget, lent, refused_text, answer_text, line_outcome, line_text}
use Rattle.printing.specs.AnswerPosts.{Small, Answers, NumberedAnswers}
use Rattle.printing.proofs.NumberedAnswers.{numbered_answers}

-- ---- `last` is the buffer after a run
small_of : (s : List ℕ) → Bytes s → (x : RunOutcome) → run s budget lent ≡ x → Small x
small_of s b (ended w n xs) e = run_small s b budget lent w n xs e
small_of s b (turned_down c) e = run_number s budget lent c e

pub run_answers : (s : List ℕ) → Bytes s → (old : List ℕ) → length old ≡ lent → (a : Result Run Refusal) (last : List ℕ)
    → (a ≡ run_answer (run s budget (length old))) × (last ≡ run_output (run s budget (length old)) old) → Answers a last (run s budget lent)
run_answers s b old l a last h = record {
  old = old;
  answer = subst (λ (i : ℕ). a ≡ run_answer (run s budget i)) l h.0;
  output = subst (λ (i : ℕ). last ≡ run_output (run s budget i) old) l h.1;
  long = l;
  small = small_of s b (run s budget lent) refl;
}

-- n is the answer a with the number of its refusal
abbrev pub Numbered : Result Run Refusal → Result Run ℕ → Type 0
Numbered a n = MatchResult a (λ x. n ≡ Ok x) (λ r. IsErrAnd n (λ c. c ≡ number r))

pub numbered_run_answers : (s : List ℕ) → Bytes s → (old : List ℕ) → length old ≡ lent → (a : Result Run Refusal) (n : Result Run ℕ) (last : List ℕ)
    → (a ≡ run_answer (run s budget (length old))) × (last ≡ run_output (run s budget (length old)) old)
    → Numbered a n → NumberedAnswers n last (run s budget lent)
numbered_run_answers s b old l a n last h numbers = numbered_answers a n last numbers _ (run_answers s b old l a last h)

-- ---- a line by what its reader answers
-- "2. The frame has [..] more than 4,096."
long_refused : (s : List ℕ) → frame_limit < length s → run s budget lent ≡ turned_down 2
unfolding run check parse
long_refused s h = rw (ne_eqb (length s) 0 (λ e. omega arith), lt-ltb frame_limit (length s) h)

pub frame_text : (held f : List ℕ) → line_answer (read_line held) ≡ Ok f → answer_text (run f budget lent) ≡ line_text held
unfolding line_text
frame_text held f e = go (read_line held) e
  where
    on_long : (s : List ℕ) (b : Bool) → pick b (Err BadLength) (Ok s) ≡ Ok f → f ≡ s
    on_long s true h = cc
    on_long s false h = cc

    go : (l : Line) → line_answer l ≡ Ok f → answer_text (run f budget lent) ≡ answer_text (line_outcome l)
    go (frame s) e = ap (λ x. answer_text (run x budget lent)) (on_long s (ltb frame_limit (length s)) e)
    go bad_line e = cc

pub refusal_text : (held : List ℕ) (r : Refusal) → line_answer (read_line held) ≡ Err r → refused_text (number r) ≡ line_text held
unfolding line_text answer_text
refusal_text held r e = go (read_line held) e
  where
    on_long : (s : List ℕ) (b : Bool) → ltb frame_limit (length s) ≡ b → pick b (Err BadLength) (Ok s) ≡ Err r
        → refused_text (number r) ≡ answer_text (run s budget lent)
    on_long s true h e =
        let z : r ≡ BadLength = cc in
        ap (λ x. refused_text (number x)) z ∙ sym (ap answer_text (long_refused s (ltb-true frame_limit (length s) h)))
    on_long s false h e = cc

    go : (l : Line) → line_answer l ≡ Err r → refused_text (number r) ≡ answer_text (line_outcome l)
    go (frame s) e = on_long s (ltb frame_limit (length s)) refl e
    go bad_line e = let z : r ≡ BadLine = cc in ap (λ x. refused_text (number x)) z
