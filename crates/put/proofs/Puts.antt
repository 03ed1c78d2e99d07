-- Laws of writing. Main results: puts_nil, puts_then, puts_as (a writing after another); puts_in, puts_over, puts_none (what fits and what
-- doesn't); word_bytes, word_each; between_span, between_front, between_back (a frame's bytes, and those before and behind a part);
-- wrote_none, wrote_held, wrote_full (the start and the outcome).
use mathlib.Core.Path.{◌≡◌, refl, sym, ap, ◌∙◌, subst}
use mathlib.Core.Bool.{Bool, true, false}
use mathlib.Core.List.{List, [], ◌∷◌, ◌++◌, append_assoc, append-nil}
use Prim.Native.Nat.{ℕ, ◌+◌, ◌-◌, ◌/◌, ◌%◌, ◌≤◌, ◌<◌}
use native.Mathlib.Omega.{arith}
use lib.Dec.{leb}
use lib.ListN.{length, take, drop, length-append, length-drop}
use lib.Seq.{take-length, length-take-le, paste}
use Rattle.std.proofs.lemmas.List.Edits.{take-paste}
use borrow.Author.Tests.{leb-true, leb-false}
use Rattle.std.proofs.Common.{Option, Some, None}
use Rattle.frame.specs.Encoding.{enc_number}
use Rattle.frame.specs.Spans.{Spans}
use Rattle.frame.specs.Tags.{pick}
use Rattle.put.specs.Out.{held, AtMost, behind, Puts, Wrote}
use Rattle.put.specs.Copied.{between}

-- ---- what fits behind xs, and what doesn't
picked_in {ℓ} : {X : Type ℓ} (m n : ℕ) (x y : X) → m ≤ n → pick (leb m n) x y ≡ x
picked_in m n x y h = go (leb m n) refl
  where
    go : (b : Bool) → leb m n ≡ b → pick b x y ≡ x
    go true e = refl
    go false e = absurd (omega (arith, leb-false m n e))

picked_over {ℓ} : {X : Type ℓ} (m n : ℕ) (x y : X) → n < m → pick (leb m n) x y ≡ y
picked_over m n x y h = go (leb m n) refl
  where
    go : (b : Bool) → leb m n ≡ b → pick b x y ≡ y
    go true e = absurd (omega (arith, leb-true m n e))
    go false e = refl

behind_in : (xs ys : List ℕ) → length ys ≤ 4096 - length xs → behind (Some xs) ys ≡ Some (xs ++ ys)
unfolding behind
behind_in xs ys h = picked_in (length ys) (4096 - length xs) (Some (xs ++ ys)) None h

behind_over : (xs ys : List ℕ) → 4096 - length xs < length ys → behind (Some xs) ys ≡ None
unfolding behind
behind_over xs ys h = picked_over (length ys) (4096 - length xs) (Some (xs ++ ys)) None h

behind_none : (ys : List ℕ) → behind None ys ≡ None
unfolding behind
behind_none ys = refl

-- the same of a writer that holds xs, and of one that holds nothing
pub puts_in : (o : Option (List ℕ)) (xs ys : List ℕ) → o ≡ Some xs → length ys ≤ 4096 - length xs → Puts o (Some (xs ++ ys)) ys
puts_in o xs ys e h = sym (ap (λ (w : Option (List ℕ)). behind w ys) e ∙ behind_in xs ys h)

pub puts_over : (o : Option (List ℕ)) (xs ys : List ℕ) → o ≡ Some xs → 4096 - length xs < length ys → Puts o None ys
puts_over o xs ys e h = sym (ap (λ (w : Option (List ℕ)). behind w ys) e ∙ behind_over xs ys h)

pub puts_none : (o : Option (List ℕ)) (ys : List ℕ) → o ≡ None → Puts o None ys
puts_none o ys e = sym (ap (λ (w : Option (List ℕ)). behind w ys) e ∙ behind_none ys)

-- ---- one writing after another
-- by whether ys fits behind xs
by_room {ℓ} : {X : Type ℓ} (xs ys : List ℕ) → (length ys ≤ 4096 - length xs → X) → (4096 - length xs < length ys → X) → X
by_room {X} xs ys f g = go (leb (length ys) (4096 - length xs)) refl
  where
    go : (b : Bool) → leb (length ys) (4096 - length xs) ≡ b → X
    go true e = f (leb-true _ _ e)
    go false e = g (leb-false _ _ e)

pub puts_nil : (o : Option (List ℕ)) → Puts o o []
puts_nil None = sym (behind_none [])
puts_nil (Some xs) = sym (behind_in xs [] (omega arith) ∙ ap Some (append-nil xs))

behind_then : (o : Option (List ℕ)) (ys zs : List ℕ) → behind (behind o ys) zs ≡ behind o (ys ++ zs)
behind_then None ys zs = ap (λ (w : Option (List ℕ)). behind w zs) (behind_none ys) ∙ behind_none zs ∙ sym (behind_none (ys ++ zs))
behind_then (Some xs) ys zs = by_room xs ys fits over
  where
    over : 4096 - length xs < length ys → behind (behind (Some xs) ys) zs ≡ behind (Some xs) (ys ++ zs)
    over h =
        ap (λ (w : Option (List ℕ)). behind w zs) (behind_over xs ys h) ∙ behind_none zs
        ∙ sym (behind_over xs (ys ++ zs) (omega (arith, length-append ys zs)))

    fits : length ys ≤ 4096 - length xs → behind (behind (Some xs) ys) zs ≡ behind (Some xs) (ys ++ zs)
    fits h =
        ap (λ (w : Option (List ℕ)). behind w zs) (behind_in xs ys h)
        ∙ by_room (xs ++ ys) zs
        (λ k. behind_in (xs ++ ys) zs k ∙ ap Some (append_assoc xs ys zs)
        ∙ sym (behind_in xs (ys ++ zs) (omega (arith, length-append ys zs, length-append xs ys))))
        (λ k. behind_over (xs ++ ys) zs k ∙ sym (behind_over xs (ys ++ zs) (omega (arith, length-append ys zs, length-append xs ys))))

pub puts_then : (o p q : Option (List ℕ)) (ys zs : List ℕ) → Puts o p ys → Puts p q zs → Puts o q (ys ++ zs)
puts_then o p q ys zs a b = b ∙ ap (λ (w : Option (List ℕ)). behind w zs) a ∙ behind_then o ys zs

-- the same bytes, said otherwise
pub puts_as : (o p : Option (List ℕ)) (ys zs : List ℕ) → ys ≡ zs → Puts o p ys → Puts o p zs
puts_as o p ys zs e a = a ∙ ap (behind o) e

-- ---- a number of two bytes
pub word_bytes : (w : ℕ) → w / 256 ∷ w % 256 ∷ [] ≡ enc_number 2 w
unfolding enc_number
word_bytes w = let z : w % 256 ≡ w % 256 / 1 = omega arith in ap (λ (x : ℕ). w / 256 ∷ x ∷ []) z

-- the same by each byte of the number, as `to_be_bytes` gives them
pub word_each : (w : ℕ) → w < 65536 → w / 256 % 256 ∷ w % 256 ∷ [] ≡ enc_number 2 w
word_each w h = let z : w / 256 % 256 ≡ w / 256 = omega arith in ap (λ (x : ℕ). x ∷ w % 256 ∷ []) z ∙ word_bytes w

-- ---- bytes of a frame
-- what stands from a up to b, as a list
pub between_span : (s : List ℕ) (a b : ℕ) (xs : List ℕ) → Spans s a b xs → between s a b ≡ xs
between_span s a b xs h = let z : b - a ≡ length xs = omega (arith, h.long) in ap (λ (n : ℕ). take n (drop a s)) z ∙ h.bytes

-- the bytes before a position, and those from one on
pub between_front : (s : List ℕ) (n : ℕ) → between s 0 n ≡ take n s
between_front s n = let z : n - 0 ≡ n = omega arith in ap (λ (i : ℕ). take i s) z

pub between_back : (s : List ℕ) (a : ℕ) → between s a (length s) ≡ drop a s
between_back s a =
    let z : length s - a ≡ length (drop a s) = omega (arith, length-drop a s) in
    ap (λ (i : ℕ). take i (drop a s)) z ∙ take-length (drop a s)

-- ---- the writer before the first byte, and what it holds at the end
pub wrote_none : Wrote (Some []) []
wrote_none = puts_nil (Some [])

pub wrote_held : (o : Option (List ℕ)) (xs : List ℕ) → Wrote o xs → length xs ≤ 4096 → o ≡ Some xs
wrote_held o xs w h = w ∙ behind_in [] xs (omega arith)

-- what is held is what was written
pub wrote_is : (o : Option (List ℕ)) (xs ys : List ℕ) → Wrote o xs → o ≡ Some ys → (ys ≡ xs) × (length xs ≤ 4096)
wrote_is o xs ys w e = by_room [] xs
    (λ h. (let z : Some ys ≡ Some xs = sym e ∙ w ∙ behind_in [] xs h in (cc, omega arith)))
    (λ h. (let z : Some ys ≡ None = sym e ∙ w ∙ behind_over [] xs h in cc))

pub wrote_full : (o : Option (List ℕ)) (xs : List ℕ) → Wrote o xs → o ≡ None → 4096 < length xs
wrote_full o xs w e = by_room [] xs
    (λ h. (let z : None ≡ Some xs = sym e ∙ w ∙ behind_in [] xs h in cc))
    (λ h. omega arith)

-- ---- the writer's fields
module _ (o : Option (List ℕ)) (m : Option ℕ) (bytes s : List ℕ) (view : held m bytes ≡ o) (long : length bytes ≡ 4096) (most : AtMost 4096 m) where
  held_some : (n : ℕ) → m ≡ Some n → (o ≡ Some (take n bytes)) × (length (take n bytes) ≡ n)
  held_some n e =
      let h : n ≤ 4096 = subst (AtMost 4096) e most in
      (sym view ∙ ap (λ (x : Option ℕ). held x bytes) e, length-take-le n bytes (omega arith))

  -- s was copied behind the n bytes, or there was no room, or nothing was held
  pub puts_copied : (n : ℕ) (new : List ℕ) → m ≡ Some n → length s ≤ 4096 - n → new ≡ paste bytes n s (length s)
      → Puts o (Some (take (n + length s) new)) s
  puts_copied n new e h a =
      let p = held_some n e in
      let q : n ≤ 4096 = subst (AtMost 4096) e most in
      let z = take-paste bytes n s (length s) (omega arith) (omega arith) in
      ap Some (ap (take (n + length s)) a ∙ z ∙ ap (λ (x : List ℕ). take n bytes ++ x) (take-length s))
      ∙ puts_in o (take n bytes) s p.0 (omega (arith, p.1))

  pub puts_short : (n : ℕ) → m ≡ Some n → 4096 - n < length s → Puts o None s
  puts_short n e h = let p = held_some n e in puts_over o (take n bytes) s p.0 (omega (arith, p.1))

  pub puts_lost : m ≡ None → Puts o None s
  puts_lost e = puts_none o s (sym view ∙ ap (λ (x : Option ℕ). held x bytes) e)
