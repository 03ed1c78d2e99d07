-- A run's answer as text, on plain values: the ways out of `put_numbered_answer`.
-- Main results: numbered_ended_room, numbered_ended_post (a run that ended); refused_short, numbered_refused_post; the same of an answer that
-- has a `Refusal`: ended_room, ended_post, refused_post.
use Rattle.std.proofs.Common.{◌≡◌, ℕ, ◌≤◌, ◌<◌, List, length, take, drop, Result, Ok, Err, refl, sym, ap, ap₂, ◌∙◌, subst, arith, length-append, length-take}
use lib.Seq.{take_at}
use Rattle.frame.specs.declared.refusals.Refusal.{Refusal}
use Rattle.frame.specs.Refusals.{number}
use Rattle.lines.proofs.LineWrites.{write_length}
use Rattle.run.specs.Run.{Word, REST, SPENT, FULL, RunOutcome, ended, turned_down, ending_for, word_answer}
use Rattle.run.specs.declared.Ending.{Ending}
use Rattle.run.specs.declared.Ending.TheVariants.{Rest, Spent, Full}
use Rattle.run.specs.declared.Run.{Run}
use Rattle.program.specs.Text.{budget, lent, word_text, ended_text, refused_text, answer_text}
use Rattle.printing.specs.AnswerPosts.{longest, ending_text, AnswerPre, NumberedAnswers, NumberedAnswerPre}
use Rattle.printing.specs.declared.Text.{Text}
use Rattle.printing.specs.Written.{Adds, AnswerPost, NumberedAnswerPost}
use Rattle.printing.proofs.Texts.{ended_length, refused_length, digits_most}
use Rattle.printing.proofs.NumberedAnswers.{numbered_pre, numbered_post, ended_maps, refused_maps}

-- ---- an answer with a word
word_lem : (w : Word) → ending_text (ending_for w) ≡ word_text w
word_lem REST = refl
word_lem SPENT = refl
word_lem FULL = refl

short_word : (e : Ending) → length (ending_text e) ≤ 5
short_word Rest = omega arith
short_word Spent = omega arith
short_word Full = omega arith

-- the outcome of an answer with a word: its frame stands at the buffer's start
record Said (r : Run) (last : List ℕ) (x : RunOutcome) : Type 0 where
  word : Word
  is : x ≡ ended word r.steps (take r.length last)
  ending : r.ending ≡ ending_for word
  few : r.steps ≤ budget
  short : r.length ≤ lent

said : (a : Result Run ℕ) (r : Run) (last : List ℕ) → a ≡ Ok r → (x : RunOutcome) → NumberedAnswers a last x → Said r last x
said a r last e (ended w m ys) h =
    let f : Ok r ≡ Ok (word_answer w m (length ys)) = sym e ∙ h.answer in
    let g : r ≡ word_answer w m (length ys) = cc in
    let n : r.steps ≡ m = ap (λ (q : Run). q.steps) g in
    let l : r.length ≡ length ys = ap (λ (q : Run). q.length) g in
    let t : take r.length last ≡ ys =
    ap₂ (λ (i : ℕ) (z : List ℕ). take i z) l h.output ∙ take_at ys (drop (length ys) h.old) (length ys) refl in
    record {
      word = w;
      is = ap₂ (λ (i : ℕ) (z : List ℕ). ended w i z) (sym n) (sym t);
      ending = ap (λ (q : Run). q.ending) g;
      few = omega (arith, n, h.small.0);
      short = omega (arith, l, h.small.1);
    }
said a r last e (turned_down c) h = let f : Ok r ≡ Err c = sym e ∙ h.answer in cc

module _ (a : Result Run ℕ) (r : Run) (last : List ℕ) (e : a ≡ Ok r) (pre : NumberedAnswerPre a last) where
  ended_short : length (ended_text (ending_text r.ending) r.steps (take r.length last)) ≤ longest
  ended_short =
      let s = said a r last e pre.0 pre.1 in
      omega (
        arith,
        ended_length (ending_text r.ending) r.steps (take r.length last),
        write_length (take r.length last),
        length-take {A = ℕ},
        s.few,
        s.short,
        short_word r.ending,
        digits_most 5 r.steps (omega arith) (omega (arith, s.few)) (omega (arith, s.few)),
      )

  module _ (word : List ℕ) (is : word ≡ ending_text r.ending) where
    pub numbered_ended_room : (n : ℕ) → longest ≤ n → length (ended_text word r.steps (take r.length last)) ≤ n
    numbered_ended_room n h = rw is (omega (arith, ended_short))

    pub numbered_ended_post : (o p : Text) → Adds o (ended_text word r.steps (take r.length last)) p → NumberedAnswerPost a last o p
    unfolding answer_text
    numbered_ended_post o p h = record {
      puts = λ x ans.
          (let s = said a r last e x ans in
          subst (λ t. Adds o t p) (ap (λ w. ended_text w r.steps (take r.length last)) (is ∙ ap ending_text s.ending ∙ word_lem s.word)
          ∙ sym (ap answer_text s.is)) h);
      room = omega (arith, numbered_ended_room longest (omega arith), ap length h.writes, length-append {A = ℕ});
    }

-- ---- an answer with a number
pub refused_short : (n : ℕ) → n < 256 → length (refused_text n) ≤ longest
refused_short n h = omega (arith, refused_length n, digits_most 3 n (omega arith) (omega arith) (omega arith))

of_refused : (a : Result Run ℕ) (last : List ℕ) (n : ℕ) → a ≡ Err n → (x : RunOutcome) → NumberedAnswers a last x → x ≡ turned_down n
of_refused a last n e (ended w m ys) h = let f : Err n ≡ Ok (word_answer w m (length ys)) = sym e ∙ h.answer in cc
of_refused a last n e (turned_down c) h = let f : Err c ≡ Err n = sym h.answer ∙ e in cc

pub numbered_refused_post : (a : Result Run ℕ) (last : List ℕ) (n : ℕ) → a ≡ Err n → n < 256 → (o p : Text) → Adds o (refused_text n) p → NumberedAnswerPost a last o p
unfolding answer_text
numbered_refused_post a last n e l o p h = record {
  puts = λ x ans. subst (λ t. Adds o t p) (sym (ap answer_text (of_refused a last n e x ans))) h;
  room = omega (arith, refused_short n l, ap length h.writes, length-append {A = ℕ});
}

-- ---- the same of an answer that has a `Refusal`
module _ (a : Result Run Refusal) (r : Run) (last : List ℕ) (e : a ≡ Ok r) (pre : AnswerPre a last) where
  with_number : NumberedAnswerPre (Ok r) last
  with_number = numbered_pre a (Ok r) last (ended_maps a r e) pre

  module _ (word : List ℕ) (is : word ≡ ending_text r.ending) where
    pub ended_room : (n : ℕ) → longest ≤ n → length (ended_text word r.steps (take r.length last)) ≤ n
    ended_room = numbered_ended_room (Ok r) r last refl with_number word is

    pub ended_post : (o p : Text) → Adds o (ended_text word r.steps (take r.length last)) p → AnswerPost a last o p
    ended_post o p h = numbered_post a (Ok r) last (ended_maps a r e) o p (numbered_ended_post (Ok r) r last refl with_number word is o p h)

pub refused_post : (a : Result Run Refusal) (last : List ℕ) (r : Refusal) → a ≡ Err r → (n : ℕ) → n ≡ number r → n < 256 → (o p : Text)
    → Adds o (refused_text n) p → AnswerPost a last o p
refused_post a last r e n is l o p h = numbered_post a (Err n) last (refused_maps a r n e is) o p (numbered_refused_post (Err n) last n refl l o p h)
