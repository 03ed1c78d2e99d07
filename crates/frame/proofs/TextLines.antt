-- Lines of text: writing and reading are inverse between lists of bytes and the lines that are read.
-- Main results: line_back, line_write.
use mathlib.Core.Path.{◌≡◌, refl, subst}
use mathlib.Core.Bool.{Bool, true, false, ◌&&◌}
use mathlib.Core.List.{List, [], ◌∷◌}
use Prim.Native.Nat.{ℕ, suc, ◌+◌, ◌*◌, ◌-◌, ◌/◌, ◌%◌, ◌≤◌, ◌<◌}
use native.Mathlib.Omega.{arith}
use lib.Dec.{leb}
use borrow.Author.Tests.{leb-true, leb-false, le-leb, lt-leb}
use Rattle.frame.specs.Tags.{pick}
use Rattle.frame.specs.Lines.{digit_of, digit_for, Line, frame, bad_line, cons_byte, read_line, write_line}
use Rattle.frame.specs.Spans.{Bytes}
use Rattle.frame.proofs.Spans.{bytes_nil, bytes_cons}
use Rattle.frame.proofs.Booleans.{both_true}

pub bad_line_not {ℓ} : {X : Type ℓ} {s : List ℕ} → bad_line ≡ frame s → X
bad_line_not e = let z : ◌≡◌ {A = ℕ} 0 1 = cc in absurd (omega arith)

-- ---- a digit and its character
pub digit_back : (v : ℕ) → v < 16 → digit_of (digit_for v) ≡ v
unfolding digit_of digit_for
digit_back v h = go (leb v 9) refl
  where
    go : (b : Bool) → leb v 9 ≡ b → digit_of (pick b (v + 48) (v + 55)) ≡ v
    go true e = let l = leb-true v 9 e in rw (le-leb 48 (v + 48) (omega arith), le-leb (v + 48) 57 (omega arith)) (omega arith)
    go false e =
        let l = leb-false v 9 e in
        rw (
          lt-leb (v + 55) 57 (omega arith),
          le-leb 48 (v + 55) (omega arith),
          le-leb 65 (v + 55) (omega arith),
          le-leb (v + 55) 70
              (omega arith),
        ) (omega arith)

pub digit_write : (c : ℕ) → digit_of c ≤ 15 → digit_for (digit_of c) ≡ c
unfolding digit_of digit_for
digit_write c h = go (leb 48 c && leb c 57) (leb 65 c && leb c 70) refl refl h
  where
    go : (a b : Bool) → (leb 48 c && leb c 57) ≡ a → (leb 65 c && leb c 70) ≡ b → pick a (c - 48) (pick b (c - 55) 16) ≤ 15
        → digit_for (pick a (c - 48) (pick b (c - 55) 16)) ≡ c
    go true b ea eb h =
        let t = both_true (leb 48 c) (leb c 57) ea in
        let lo = leb-true 48 c t.0 in
        let hi = leb-true c 57 t.1 in
        rw (le-leb (c - 48) 9 (omega arith)) (omega arith)
    go false true ea eb h =
        let t = both_true (leb 65 c) (leb c 70) eb in
        let lo = leb-true 65 c t.0 in
        let hi = leb-true c 70 t.1 in
        rw (lt-leb (c - 55) 9 (omega arith)) (omega arith)
    go false false ea eb h = absurd (omega arith)

-- ---- lines
pub line_back : (s : List ℕ) → Bytes s → read_line (write_line s) ≡ frame s
unfolding read_line write_line
line_back [] bs = refl
line_back (b ∷ s) bs =
    let l : b < 256 = bs 0 in
    let z : b / 16 * 16 + b % 16 ≡ b = omega arith in
    let h : b / 16 < 16 = omega arith in
    let k : b % 16 < 16 = omega arith in
    rw (
      digit_back (b / 16) h,
      digit_back (b % 16) k,
      le-leb (b / 16) 15 (omega arith),
      le-leb (b % 16) 15
          (omega arith),
      line_back s (λ i. bs (suc i)),
      z,
    )

-- a line that is read is the text of its bytes
pub record LineWrite (cs s : List ℕ) : Type 0 where
  pub text : write_line s ≡ cs
  pub bytes : Bytes s

pub line_write : (cs s : List ℕ) → read_line cs ≡ frame s → LineWrite cs s
unfolding read_line write_line
line_write [] s e = let es : [] ≡ s = cc in subst (LineWrite []) es record { text = refl; bytes = bytes_nil }
line_write (c ∷ []) s e = bad_line_not e
line_write (c ∷ d ∷ cs) s e = on_rest (leb (digit_of c) 15 && leb (digit_of d) 15) refl (read_line cs) (line_write cs) e
  where
    on_rest : (b : Bool) → (leb (digit_of c) 15 && leb (digit_of d) 15) ≡ b → (l : Line) → ((r : List ℕ) → l ≡ frame r → LineWrite cs r)
        → cons_byte b (digit_of c * 16 + digit_of d) l ≡ frame s → LineWrite (c ∷ d ∷ cs) s
    on_rest true eb (frame r) ih e =
        let t = both_true (leb (digit_of c) 15) (leb (digit_of d) 15) eb in
        let hc = leb-true (digit_of c) 15 t.0 in
        let hd = leb-true (digit_of d) 15 t.1 in
        let x : ℕ = digit_of c * 16 + digit_of d in
        let es : x ∷ r ≡ s = cc in
        let v = ih r refl in
        let hi : x / 16 ≡ digit_of c = omega arith in
        let lo : x % 16 ≡ digit_of d = omega arith in
        subst (LineWrite (c ∷ d ∷ cs)) es record {
          text = rw (hi, lo, digit_write c hc, digit_write d hd, v.text);
          bytes = bytes_cons x r (omega arith) v.bytes;
        }
    on_rest true eb bad_line ih e = bad_line_not e
    on_rest false eb l ih e = bad_line_not e
