-- Numbers of w bytes, high byte first: reading and writing are inverse. One law over the width for both directions.
-- Main results: number_length, number_small, number_span, number_back, number_bytes, number_more.
use mathlib.Core.Path.{◌≡◌, refl, sym, ap, ap₂, ◌∙◌, subst}
use mathlib.Core.List.{List, ◌++◌}
use Prim.Native.Nat.{ℕ, zero, suc, ◌+◌, ◌*◌, ◌/◌, ◌%◌, ◌^◌, ◌≤◌, ◌<◌}
use native.Mathlib.Omega.{arith}
use native.Mathlib.Nat.{
  add-zero,
  suc-mul,
  mul-le-mul_right,
  one-le-pow,
  pow-suc,
  mod-lt,
  mul-add-div_right,
  mul-add-mod_self_right,
  div-eq_of_lt,
  mod-eq_of_lt,
  div-add-mod',
  div-lt_iff_lt-mul,
  mul_assoc,
  pow-le-pow_right,
  lt_of_lt_of_le,
}
use native.Mathlib.Numerals.{add-one}
use lib.ListN.{length, get_or}
use lib.Dec.{lit<}
use Rattle.frame.specs.Encoding.{enc_number}
use Rattle.frame.specs.Reading.{number_at}
use Rattle.frame.specs.Spans.{Bytes, Spans}
use Rattle.frame.proofs.Spans.{span_nil, span_cons, span_first, bytes_nil, bytes_cons}

-- a power of 256 is no zero
pub power_positive : (w : ℕ) → 0 < 256 ^ w
power_positive w = one-le-pow w 256 (lit< tt)

pub number_length : (w n : ℕ) → length (enc_number w n) ≡ w
unfolding enc_number
number_length zero n = refl
number_length (suc w) n = ap suc (number_length w (n % 256 ^ w))

-- a byte b and a number x below P make a number below 256 * P, and come apart again
glue_small : (b x P : ℕ) → b < 256 → x < P → b * P + x < P * 256
glue_small b x P h l = omega (arith, mul-le-mul_right {m = suc b} {n = 256} P h, suc-mul b P)

glue_high : (b x P : ℕ) → x < P → (b * P + x) / P ≡ b
glue_high b x P l =
    let z : x / P ≡ 0 = div-eq_of_lt l in
    let g : (b * P + x) / P ≡ b + x / P = mul-add-div_right (omega arith) b x in
    omega arith

glue_low : (b x P : ℕ) → x < P → (b * P + x) % P ≡ x
glue_low b x P l = mul-add-mod_self_right b P x ∙ mod-eq_of_lt l

-- the high byte of a number below 256 ^ suc w
high_small : (w n : ℕ) → n < 256 ^ suc w → n / 256 ^ w < 256
high_small w n h = (div-lt_iff_lt-mul (power_positive w)).1 (omega (arith, pow-suc 256 w))

pub number_small : (w : ℕ) (s : List ℕ) → Bytes s → (p : ℕ) → number_at w s p < 256 ^ w
unfolding number_at
number_small zero s bs p = lit< tt
number_small (suc w) s bs p = rw pow-suc (glue_small (get_or s p 0) (number_at w s (p + 1)) (256 ^ w) (bs p) (number_small w s bs (p + 1)))

-- the w bytes at a place are those of the number that stands there
pub number_span : (w : ℕ) (s : List ℕ) → Bytes s → (p : ℕ) → p + w ≤ length s → Spans s p (p + w) (enc_number w (number_at w s p))
unfolding enc_number number_at
number_span zero s bs p h = rw add-zero (span_nil (omega arith))
number_span (suc w) s bs p h =
    let b = get_or s p 0 in
    let x = number_at w s (p + 1) in
    let l = number_small w s bs (p + 1) in
    let z : p + 1 + w ≡ p + suc w = omega arith in
    rw (glue_high b x (256 ^ w) l, glue_low b x (256 ^ w) l)
    (span_cons (omega arith) refl (subst (λ (k : ℕ). Spans s (p + 1) k (enc_number w x)) z (number_span w s bs (p + 1) (omega arith))))

-- the bytes of a number stand at a place: that number is read, and what follows stands behind it
pub record NumberBack (w : ℕ) (s : List ℕ) (at p n : ℕ) (xs : List ℕ) : Type 0 where
  pub number : number_at w s at ≡ n
  pub rest : Spans s (at + w) p xs
  pub within : at + w ≤ length s

pub number_back : (w : ℕ) (s : List ℕ) (at p n : ℕ) (xs : List ℕ) → n < 256 ^ w → Spans s at p (enc_number w n ++ xs) → NumberBack w s at p n xs
unfolding enc_number number_at
number_back zero s at p n xs h a = record {
  number = omega arith;
  rest = rw add-zero a;
  within = omega (arith, a.long, a.within);
}
number_back (suc w) s at p n xs h a =
    let P = 256 ^ w in
    let f = span_first a in
    let g = number_back w s (at + 1) p (n % P) xs (mod-lt n (power_positive w)) f.rest in
    let z : at + 1 + w ≡ at + suc w = omega arith in record {
      number = ap₂ (λ (b x : ℕ). b * P + x) f.byte g.number ∙ div-add-mod' n P;
      rest = subst (λ (k : ℕ). Spans s k p xs) z g.rest;
      within = omega (arith, g.within);
    }

pub number_bytes : (w n : ℕ) → n < 256 ^ w → Bytes (enc_number w n)
unfolding enc_number
number_bytes zero n h = bytes_nil
number_bytes (suc w) n h =
    bytes_cons (n / 256 ^ w) (enc_number w (n % 256 ^ w)) (high_small w n h) (number_bytes w (n % 256 ^ w) (mod-lt n (power_positive w)))

-- a number of two bytes, as the code puts it together
pub number_two : (s : List ℕ) (p : ℕ) → number_at 2 s p ≡ get_or s p 0 * 256 + get_or s (p + 1) 0
unfolding number_at
number_two s p = omega arith

-- ---- a number read from the left: the next byte is the lowest
next_byte : (w : ℕ) (s : List ℕ) (p : ℕ) → number_at (suc w) s p ≡ number_at w s p * 256 + get_or s (p + w) 0
unfolding number_at
next_byte zero s p = let z : p ≡ p + 0 = omega arith in omega (arith, ap (λ (i : ℕ). get_or s i 0) z)
next_byte (suc w) s p =
    let g : ℕ = get_or s p 0 in
    let z : p + 1 + w ≡ p + suc w = omega arith in
    let e : g * 256 ^ suc w ≡ g * 256 ^ w * 256 = ap (λ (i : ℕ). g * i) (pow-suc 256 w) ∙ sym (mul_assoc g (256 ^ w) 256) in
    omega (arith, next_byte w s (p + 1), ap (λ (i : ℕ). get_or s i 0) z)

pub number_more : (w : ℕ) (s : List ℕ) (p : ℕ) → number_at (w + 1) s p ≡ number_at w s p * 256 + get_or s (p + w) 0
number_more w s p = rw add-one (next_byte w s p)

-- a number of at most seven bytes has room for one byte more
pub number_room : (w : ℕ) (s : List ℕ) → Bytes s → (p : ℕ) → w < 8 → number_at w s p < 256 ^ 7
number_room w s bs p h = lt_of_lt_of_le (number_small w s bs p) (pow-le-pow_right {n = 256} (lit< tt) {i = w} {j = 7} (omega arith))
