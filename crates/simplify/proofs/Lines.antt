-- What is answered for a piece of the input, and at its end, on plain values.
-- Main results: feeds_none, feeds_part, feeds_line (`feed`), line_last (`finish`).
use Rattle.std.proofs.Common.{◌≡◌, ℕ, false, List, [], ◌∷◌, ◌++◌, refl, sym, ap, ap₂, ◌∙◌, subst, append_assoc, append-nil}
use Rattle.std.proofs.Common.{suc, ◌+◌, ◌-◌, ◌<◌, length, take, drop, get_or, add-one, length-drop, take-append-drop, arith}
use Rattle.std.proofs.Math.Seq.{take_all, take-suc}
use lib.Dec.{eqb}
use borrow.Author.Tests.{ne_eqb}
use Rattle.lines.specs.LineReads.{Reads}
use Rattle.program.specs.Text.{newline, line_text}
use Rattle.program.specs.Pieces.{answers, last_line, last_answer}
use Rattle.program.proofs.Pieces.{answers_join, last_join}
use Rattle.printing.specs.Written.{Adds}
use Rattle.printing.proofs.Writes.{adds_none, adds_then}
use Rattle.simplify.specs.declared.stream.Stream.{Stream}
use Rattle.simplify.specs.Feeding.{NoEnd, Feeds}

-- ---- a part of the input without a line's end, and one that ends with the first
no_end : (xs held : List ℕ) → NoEnd xs → (answers xs held ≡ []) × (last_line xs held ≡ held ++ xs)
unfolding answers last_line
no_end [] held h = (refl, sym (append-nil held))
no_end (c ∷ xs) held h =
    let e : eqb c newline ≡ false = ne_eqb c newline (h 0 0 (omega arith)) in
    let ih = no_end xs (held ++ (c ∷ [])) (λ k d l. h (suc k) d (omega arith)) in
    (rw e ih.0, rw e (ih.1 ∙ append_assoc held (c ∷ []) xs))

one_end : (held : List ℕ) → (answers (newline ∷ []) held ≡ line_text held) × (last_line (newline ∷ []) held ≡ [])
unfolding answers last_line
one_end held = (append-nil (line_text held), refl)

-- behind the text t
module _ (t s held : List ℕ) (n : NoEnd s) where
  pub goes_answers : answers (t ++ s) held ≡ answers t held
  goes_answers =
      answers_join t s held ∙ ap (λ x. answers t held ++ x) (no_end s (last_line t held) n).0 ∙ append-nil (answers t held)

  pub goes_line : last_line (t ++ s) held ≡ last_line t held ++ s
  goes_line = last_join t s held ∙ (no_end s (last_line t held) n).1

  pub ends_answers : answers (t ++ s ++ newline ∷ []) held ≡ answers t held ++ line_text (last_line t held ++ s)
  ends_answers =
      answers_join (t ++ s) (newline ∷ []) held
      ∙ ap₂ (λ x y. x ++ y) goes_answers ((one_end (last_line (t ++ s) held)).0 ∙ ap line_text goes_line)

  pub ends_line : last_line (t ++ s ++ newline ∷ []) held ≡ []
  ends_line = last_join (t ++ s) (newline ∷ []) held ∙ (one_end (last_line (t ++ s) held)).1

pub rest_of : (n : ℕ) (r : List ℕ) → take (length r - n) (drop n r) ≡ drop n r
rest_of n r = take_all (length r - n) (drop n r) (omega (arith, length-drop n r))

-- a text by its part before the place e, the line's end there and the part behind
cut_at : (r : List ℕ) (e : ℕ) → e < length r → get_or r e 0 ≡ newline
    → take e r ++ newline ∷ [] ++ take (length r - (e + 1)) (drop (e + 1) r) ≡ r
cut_at r e l h =
    let b : take (e + 1) r ≡ take e r ++ newline ∷ [] = rw add-one (take-suc r e 0 l) ∙ ap (λ x. take e r ++ x ∷ []) h in
    ap (λ x. take e r ++ newline ∷ [] ++ x) (rest_of (e + 1) r) ∙ ap (λ x. x ++ drop (e + 1) r) (sym b) ∙ take-append-drop (e + 1) r

-- the same behind the text t
pub cut_behind : (t r p : List ℕ) (e : ℕ) → e < length r → get_or r e 0 ≡ newline → t ++ r ≡ p
    → t ++ take e r ++ newline ∷ [] ++ take (length r - (e + 1)) (drop (e + 1) r) ≡ p
cut_behind t r p e l h q =
    let rest : List ℕ = take (length r - (e + 1)) (drop (e + 1) r) in
    ap (λ x. x ++ rest) (append_assoc t (take e r) (newline ∷ []))
    ∙ append_assoc t (take e r ++ newline ∷ []) rest
    ∙ ap (λ x. t ++ x) (cut_at r e l h)
    ∙ q

-- ---- the answers of a piece
pub feeds_none : (s : Stream) → Feeds s [] s
unfolding answers last_line
feeds_none s = record { line = λ held r. r; adds = λ held r. adds_none s.answers }

-- a line more, without its end and with it
module _ {old now next : Stream} {t : List ℕ} (s : List ℕ) (n : NoEnd s) (feeds : Feeds old t now) (same : next.answers ≡ now.answers)
    (read : (cs : List ℕ) → Reads now.line cs → Reads next.line (cs ++ s)) where
  pub feeds_part : Feeds old (t ++ s) next
  feeds_part = record {
    line = λ held r. subst (Reads next.line) (sym (goes_line t s held n)) (read (last_line t held) (feeds.line held r));
    adds = λ held r. rw (goes_answers t s held n, same) (feeds.adds held r);
  }

  pub feeds_line : {last : Stream} → Reads last.line [] → ((cs : List ℕ) → Reads next.line cs → Adds next.answers (line_text cs) last.answers)
      → Feeds old (t ++ s ++ newline ∷ []) last
  feeds_line {last} new adds = record {
    line = λ held r. subst (Reads last.line) (sym (ends_line t s held n)) new;
    adds = λ held r. let before : Adds old.answers (answers t held) next.answers = rw same (feeds.adds held r) in
        rw (ends_answers t s held n) (adds_then before (adds (last_line t held ++ s) (read (last_line t held) (feeds.line held r))));
  }

-- ---- the end of the input
pub line_last : (held : List ℕ) → (held ≡ [] → ⊥) → line_text held ≡ last_answer held
line_last [] n = absurd (n refl)
line_last (c ∷ cs) n = refl
