-- A line in pieces, on plain values: one byte and one character more, and the end of the line.
use Rattle.std.proofs.Common.{◌≡◌, ℕ, ◌+◌, ◌*◌, ◌≤◌, ◌<◌, List, [], ◌∷◌, ◌++◌, length, Bool, true, false, ◌&&◌, refl, sym, ap, ◌∙◌, subst, append_assoc, append-nil, Ok, Err, arith}
use lib.Dec.{leb, ltb}
use Rattle.frame.specs.Tags.{pick}
use Rattle.frame.specs.declared.refusals.Refusal.{Refusal}
use Rattle.std.proofs.Common.{Result}
use borrow.Author.Tests.{le-leb, lt-leb, lt-ltb, le-ltb}
use Rattle.put.specs.Out.{Wrote}
use Rattle.put.proofs.Puts.{wrote_none, wrote_is, wrote_full}
use Rattle.std.proofs.Common.{Option, Some, None, Bor, MatchResult, option_copied}
use Rattle.std.specs.Option.{ok_or}
use Rattle.frame.specs.Reading.{frame_limit}
use Rattle.frame.specs.Lines.{digit_of, Line, frame, bad_line, cons_byte, read_line}
use Rattle.frame.specs.declared.refusals.Refusal.TheVariants.{BadLine, BadLength}
use Rattle.lines.specs.declared.LineReader.{LineReader}
use Rattle.lines.specs.LineReads.{after, Leaves, Reads, line_answer}
use Rattle.lines.specs.declared.Pending.{Pending}
use Rattle.lines.specs.declared.Pending.TheVariants.{Nothing, High, Malformed}

-- ---- how lines are read
cons_bad : (b : Bool) (x : ℕ) (l : Line) → b ≡ false → cons_byte b x l ≡ bad_line
cons_bad b x l e = rw e

first_bad : (c : ℕ) (more : List ℕ) → 15 < digit_of c → read_line (c ∷ more) ≡ bad_line
unfolding read_line
first_bad c [] h = refl
first_bad c (d ∷ more) h = rw (lt-leb (digit_of c) 15 h)

second_bad : (c d : ℕ) (more : List ℕ) → 15 < digit_of d → read_line (c ∷ d ∷ more) ≡ bad_line
unfolding read_line
second_bad c d more h = go (leb (digit_of c) 15)
  where
    go : (b : Bool) → cons_byte (b && leb (digit_of d) 15) (digit_of c * 16 + digit_of d) (read_line more) ≡ bad_line
    go true = rw (lt-leb (digit_of d) 15 h)
    go false = refl

pair_good : (c d : ℕ) (more : List ℕ) → digit_of c ≤ 15 → digit_of d ≤ 15
    → read_line (c ∷ d ∷ more) ≡ after ((digit_of c * 16 + digit_of d) ∷ []) (read_line more)
unfolding read_line
pair_good c d more h k = rw (le-leb (digit_of c) 15 h, le-leb (digit_of d) 15 k) (go (read_line more))
  where
    x : ℕ
    x = digit_of c * 16 + digit_of d

    go : (l : Line) → cons_byte true x l ≡ after (x ∷ []) l
    go (frame s) = refl
    go bad_line = refl

after_bad : (s : List ℕ) (l : Line) → l ≡ bad_line → after s l ≡ bad_line
after_bad s l e = rw e

after_after : (s t : List ℕ) (l : Line) → after s (after t l) ≡ after (s ++ t) l
after_after s t (frame u) = ap frame (sym (append_assoc s t u))
after_after s t bad_line = refl

-- ---- nothing read
after_none : (l : Line) → l ≡ after [] l
after_none (frame s) = refl
after_none bad_line = refl

pub reads_none : (line : LineReader) → line.pending ≡ Nothing → line.bytes ≡ Some [] → Reads line []
reads_none line e w = record {
  made = [];
  wrote = subst (λ o. Wrote o []) (sym w) wrote_none;
  leaves = subst (Leaves [] []) (sym e) (λ more. after_none (read_line more));
}

-- ---- one character more
module _ (cs s : List ℕ) (c : ℕ) where
  one_more : (more : List ℕ) → read_line (cs ++ c ∷ [] ++ more) ≡ read_line (cs ++ (c ∷ more))
  one_more more = ap read_line (append_assoc cs (c ∷ []) more)

  pub leaves_bad : (p : Pending) → 15 < digit_of c → Leaves cs s p → Leaves (cs ++ c ∷ []) s Malformed
  leaves_bad Nothing h l more = one_more more ∙ l (c ∷ more) ∙ after_bad s _ (first_bad c more h)
  leaves_bad (High d) h l more = one_more more ∙ l.3 (c ∷ more) ∙ after_bad s _ (second_bad l.0 c more h)
  leaves_bad Malformed h l more = one_more more ∙ l (c ∷ more)

  pub leaves_first : (d : ℕ) → d ≡ digit_of c → d ≤ 15 → Leaves cs s Nothing → Leaves (cs ++ c ∷ []) s (High d)
  leaves_first d e h l = (c, e, h, λ more. one_more more ∙ l (c ∷ more))

  pub leaves_second : (h d : ℕ) → d ≡ digit_of c → d ≤ 15 → Leaves cs s (High h) → Leaves (cs ++ c ∷ []) (s ++ (h * 16 + d) ∷ []) Nothing
  leaves_second h d e k l more =
      let z : h * 16 + d ≡ digit_of l.0 * 16 + digit_of c = omega (arith, l.1) in
      one_more more
      ∙ l.3 (c ∷ more)
      ∙ ap (after s) (pair_good l.0 c more (omega (arith, l.1, l.2)) (omega arith))
      ∙ after_after s ((digit_of l.0 * 16 + digit_of c) ∷ []) (read_line more)
      ∙ ap (λ x. after (s ++ x ∷ []) (read_line more)) (sym z)

  pub leaves_malformed : Leaves cs s Malformed → Leaves (cs ++ c ∷ []) s Malformed
  leaves_malformed l more = one_more more ∙ l (c ∷ more)

-- ---- the end of the line
-- the frame of the characters cs, whose pairs make the bytes s
ends_whole : (cs s : List ℕ) → Leaves cs s Nothing → read_line cs ≡ frame s
unfolding read_line
ends_whole cs s l = ap read_line (sym (append-nil cs)) ∙ l [] ∙ ap frame (append-nil s)

ends_bad : (cs s : List ℕ) (p : Pending) → (p ≡ Nothing → ⊥) → Leaves cs s p → read_line cs ≡ bad_line
unfolding read_line
ends_bad cs s Nothing n l = absurd (n refl)
ends_bad cs s (High h) n l = ap read_line (sym (append-nil cs)) ∙ l.3 []
ends_bad cs s Malformed n l = ap read_line (sym (append-nil cs)) ∙ l []

module _ (line : LineReader) (cs : List ℕ) (r : Reads line cs) where
  pub answer_bad : (line.pending ≡ Nothing → ⊥) → line_answer (read_line cs) ≡ Err BadLine
  answer_bad n = ap line_answer (ends_bad cs r.made line.pending n r.leaves)

  module _ (e : line.pending ≡ Nothing) where
    made_whole : read_line cs ≡ frame r.made
    made_whole = ends_whole cs r.made (subst (Leaves cs r.made) e r.leaves)

    answer_long : line.bytes ≡ None → line_answer (read_line cs) ≡ Err BadLength
    answer_long n = rw (made_whole, lt-ltb frame_limit (length r.made) (wrote_full line.bytes r.made r.wrote n))

    answer_frame : (s : List ℕ) → line.bytes ≡ Some s → line_answer (read_line cs) ≡ Ok s
    answer_frame s n =
        let w = wrote_is line.bytes r.made s r.wrote n in
        rw (made_whole, le-ltb frame_limit (length r.made) w.1) (ap Ok (sym w.0))

    -- what the bytes that fit a frame, if they do, are turned into
    pub answer_of : (o : Option (Bor (List ℕ))) → option_copied o ≡ line.bytes
        → MatchResult (ok_or o BadLength) (λ f. line_answer (read_line cs) ≡ Ok f.now) (λ r. line_answer (read_line cs) ≡ Err r)
    answer_of None h = answer_long (sym h)
    answer_of (Some f) h = answer_frame f.now (sym h)

-- ---- a line of no characters
frame_empty : (cs : List ℕ) → read_line cs ≡ frame [] → cs ≡ []
unfolding read_line
frame_empty [] e = refl
frame_empty (c ∷ []) e = cc
frame_empty (c ∷ d ∷ cs) e = go (leb (digit_of c) 15 && leb (digit_of d) 15) (read_line cs) e
  where
    go : (b : Bool) (l : Line) → cons_byte b (digit_of c * 16 + digit_of d) l ≡ frame [] → c ∷ d ∷ cs ≡ []
    go true (frame s) e = cc
    go true bad_line e = cc
    go false l e = cc

pub empty_of : (cs f : List ℕ) → line_answer (read_line cs) ≡ Ok f → length f ≡ 0 → cs ≡ []
empty_of cs f e z = go (read_line cs) refl
  where
    no_items : (s : List ℕ) → length s ≡ 0 → s ≡ []
    no_items [] e = refl
    no_items (x ∷ s) e = absurd (omega arith)

    on_long : (s : List ℕ) (b : Bool) → ltb frame_limit (length s) ≡ b → pick b (Err BadLength) (Ok s) ≡ Ok f → s ≡ []
    on_long s true h e = cc
    on_long s false h e = let y : s ≡ f = cc in no_items s (ap length y ∙ z)

    go : (l : Line) → read_line cs ≡ l → cs ≡ []
    go (frame s) h = frame_empty cs (h ∙ ap frame (on_long s (ltb frame_limit (length s)) refl (rw h at e)))
    go bad_line h = let y : ◌≡◌ {A = Result (List ℕ) Refusal} (Err BadLine) (Ok f) = rw h at e in cc

pub answer_empty : (cs : List ℕ) → cs ≡ [] → line_answer (read_line cs) ≡ Ok []
unfolding read_line
answer_empty cs e = rw e
