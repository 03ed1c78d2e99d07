-- Texts that are written one behind another, on plain values.
-- Main results: adds_at (what was written where), adds_then (two texts), adds_none.
use Rattle.std.proofs.Common.{◌≡◌, ℕ, ◌+◌, ◌≤◌, List, [], ◌++◌, length, take, drop, refl, sym, ap, ◌∙◌, append_assoc, append-nil, length-append, length-drop, arith}
use lib.Seq.{take_at, drop_at, drop-drop, length-take-le}
use Rattle.printing.specs.declared.Text.{Text}
use Rattle.printing.specs.Written.{written, behind, Adds}

-- the text xs goes over the bytes behind the old end, of which `rest` are kept
pub adds_at : (old new : Text) (xs : List ℕ) → length xs ≤ length (behind old) → new.end ≡ old.end + length xs
    → new.bytes.now ≡ take old.end old.bytes.now ++ (xs ++ drop (length xs) (drop old.end old.bytes.now))
    → new.bytes.ghost_name ≡ old.bytes.ghost_name → Adds old xs new
unfolding written behind
adds_at old new xs h e b n =
    let l : old.end ≤ length old.bytes.now = old.within in
    let p : List ℕ = take old.end old.bytes.now in
    let r : List ℕ = drop (length xs) (drop old.end old.bytes.now) in
    let z : length (p ++ xs) ≡ new.end = length-append p xs ∙ ap (λ i. i + length xs) (length-take-le old.end old.bytes.now l) ∙ sym e in
    let y : new.bytes.now ≡ (p ++ xs) ++ r = b ∙ sym (append_assoc p xs r) in
    record {
      writes = ap (take new.end) y ∙ take_at (p ++ xs) r new.end z;
      keeps = ap (drop new.end) y ∙ drop_at (p ++ xs) r new.end z;
      fits = omega (arith, h, ap length (ap (drop new.end) y ∙ drop_at (p ++ xs) r new.end z), length-drop {A = ℕ});
      same_reference = n;
    }

pub adds_then : {a b c : Text} {xs ys : List ℕ} → Adds a xs b → Adds b ys c → Adds a (xs ++ ys) c
adds_then {a} {b} {c} {xs} {ys} p q = record {
  writes = q.writes ∙ ap (λ t. t ++ ys) p.writes ∙ append_assoc (written a) xs ys;
  keeps = q.keeps ∙ ap (drop (length ys)) p.keeps ∙ drop-drop (length ys) (length xs) (behind a)
      ∙ ap (λ n. drop n (behind a)) (sym (length-append xs ys));
  fits = omega (arith, p.fits, q.fits, length-append xs ys);
  same_reference = q.same_reference ∙ p.same_reference;
}

pub adds_none : (a : Text) → Adds a [] a
adds_none a = record { writes = sym (append-nil (written a)); keeps = refl; fits = omega arith; same_reference = refl }
