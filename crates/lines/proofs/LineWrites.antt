-- Lines of text that are written.
-- Main results: write_length; write_none, write_more, write_all.
use mathlib.Core.Path.{◌≡◌, refl, sym, ap, ap₂, ◌∙◌}
use mathlib.Core.List.{List, [], ◌∷◌, ◌++◌}
use Prim.Native.Nat.{ℕ, suc, ◌+◌, ◌*◌, ◌/◌, ◌%◌, ◌≤◌, ◌<◌}
use native.Mathlib.Omega.{arith}
use native.Mathlib.Numerals.{add-one}
use lib.ListN.{length, take, drop, get_or, set, length-take}
use lib.Seq.{sets, sets-eq, take-suc}
use Rattle.std.specs.Prelude.{Some, None}
use Rattle.frame.specs.Lines.{digit_for, write_line}
use Rattle.lines.specs.LineReads.{WritePost}
use Rattle.frame.proofs.Tables.{sets_append}

-- ---- a line's text
pub write_length : (s : List ℕ) → length (write_line s) ≡ 2 * length s
unfolding write_line
write_length [] = omega arith
write_length (b ∷ s) = let ih = write_length s in omega arith

pub write_append : (s t : List ℕ) → write_line (s ++ t) ≡ write_line s ++ write_line t
unfolding write_line
write_append [] t = refl
write_append (b ∷ s) t = ap (λ (l : List ℕ). digit_for (b / 16) ∷ digit_for (b % 16) ∷ l) (write_append s t)

-- two stores more: the text of one byte more
pub write_more : (s o : List ℕ) (i : ℕ) → i < length s → (x y : ℕ) → x ≡ digit_for (get_or s i 0 / 16) → y ≡ digit_for (get_or s i 0 % 16)
    → set (set (sets o 0 (write_line (take i s))) (2 * i) x) (2 * i + 1) y ≡ sets o 0 (write_line (take (i + 1) s))
unfolding write_line
write_more s o i h x y ex ey =
    let t : List ℕ = take i s in
    let b : ℕ = get_or s i 0 in
    let n : 0 + length (write_line t) ≡ 2 * i = omega (arith, write_length t, length-take i s) in
    let m : suc (2 * i) ≡ 2 * i + 1 = omega arith in
    let e : take (i + 1) s ≡ t ++ (b ∷ []) = rw add-one (take-suc s i 0 h) in
    sym (ap (λ (l : List ℕ). sets o 0 (write_line l)) e
    ∙ ap (λ (l : List ℕ). sets o 0 l) (write_append t (b ∷ []))
    ∙ sets_append o 0 (write_line t) (digit_for (b / 16) ∷ digit_for (b % 16) ∷ [])
    ∙ ap (λ (k : ℕ). set (set (sets o 0 (write_line t)) k (digit_for (b / 16))) (suc k) (digit_for (b % 16))) n
    ∙ ap₂ (λ (u v : ℕ). set (set (sets o 0 (write_line t)) (2 * i) u) (suc (2 * i)) v) (sym ex) (sym ey)
    ∙ ap (λ (k : ℕ). set (set (sets o 0 (write_line t)) (2 * i) x) k y) m)

pub write_none : (s o : List ℕ) → length o / 2 < length s → WritePost s o o None
write_none s o h = record { wrote = λ l. absurd (omega (arith, write_length s)); short = λ l. (refl, refl) }

pub write_all : (s o o' : List ℕ) → length s ≤ length o / 2 → o' ≡ sets o 0 (write_line s) → WritePost s o o' (Some (2 * length s))
write_all s o o' h eo =
    let n = write_length s in
    let z : 0 + length (write_line s) ≡ length (write_line s) = omega arith in
    record {
      wrote = λ l. (ap Some (sym n), eo ∙ sets-eq (write_line s) o 0 (omega arith) ∙ ap (λ (k : ℕ). write_line s ++ drop k o) z);
      short = λ l. absurd (omega arith);
    }
