-- What `put_answer` asks of an answer and the buffer is met, with a buffer of 4,096 bytes, by every refusal, and by every ending with a
-- count and a length within the limits.
-- Main results: refused_pre, ended_pre.
use Rattle.std.proofs.Common.{◌≡◌, ℕ, ◌≤◌, List, ◌++◌, length, take, drop, Ok, Err, refl, sym, ap, ◌∙◌, arith}
use Rattle.std.proofs.lemmas.List.{take-append-drop}
use lib.Seq.{length-take-le}
use Rattle.frame.specs.Reading.{frame_limit}
use Rattle.frame.specs.declared.refusals.Refusal.{Refusal}
use Rattle.frame.specs.Refusals.{number}
use Rattle.frame.proofs.RefusalNumbers.{numbered}
use Rattle.run.specs.Run.{Word, ended, turned_down, word_answer}
use Rattle.program.specs.Text.{budget, lent}
use Rattle.printing.specs.AnswerPosts.{AnswerPre}

pub refused_pre : (r : Refusal) (last : List ℕ) → length last ≡ lent → AnswerPre (Err r) last
refused_pre r last l = (turned_down (number r), record { old = last; answer = ap (λ q. Err q) (sym (numbered r)); output = refl; long = l; small = (r, refl) })

pub ended_pre : (w : Word) (n k : ℕ) (last : List ℕ) → n ≤ budget → k ≤ frame_limit → length last ≡ lent → AnswerPre (Ok (word_answer w n k)) last
ended_pre w n k last few short l =
    let z : length (take k last) ≡ k = length-take-le k last (omega (arith, short, l)) in (
      ended w n (take k last),
      record {
        old = last;
        answer = ap (λ i. Ok (word_answer w n i)) (sym z);
        output = sym (ap (λ i. take k last ++ drop i last) z ∙ take-append-drop k last);
        long = l;
        small = (few, omega (arith, z, short));
      },
    )
