-- Masks by their bits.
-- Main results: bit_none, bit_one, bit_or_lem (the bits of 0, of 2 ^ j, and of an or); below_more; covered (an and with a complement is 0 where
-- each bit of the one mask is a bit of the other).
use mathlib.Core.Path.{◌≡◌, refl, sym, ap, ap₂, ◌∙◌}
use mathlib.Core.Bool.{Bool, true, false, not, ◌&&◌, ◌||◌}
use Prim.Native.Nat.{ℕ, zero, suc, ◌+◌, ◌-◌, ◌*◌, ◌/◌, ◌%◌, ◌^◌, ◌≤◌, ◌<◌, min, max}
use native.Mathlib.Omega.{arith}
use native.Mathlib.Nat.{pow-suc}
use lib.Dec.{eqb, ltb, eqb-zero-suc, eqb-suc-zero, eqb-suc-suc}
use lib.Bits.{bit_and, bit_or, and_step, or_step}
use borrow.Author.Tests.{ne_eqb, ltb-true, ltb-false}
use Rattle.frame.proofs.Tables.{all_below}
use Rattle.frame.proofs.Booleans.{and_swap}
use Rattle.functional.specs.Functional.{bit}

-- a digit is 0 or 1
data Digit : ℕ → Type 0 where
  is_0 : Digit 0
  is_1 : Digit 1

digit : (x : ℕ) → x < 2 → Digit x
digit zero h = is_0
digit (suc zero) h = is_1
digit (suc (suc x)) h = absurd (omega arith)

last_digit : (m : ℕ) → Digit (m % 2)
last_digit m = digit (m % 2) (omega arith)

-- ---- no bit, one bit
pub bit_none : (i : ℕ) → bit 0 i ≡ false
unfolding bit
bit_none zero = refl
bit_none (suc i) = bit_none i

pub bit_one : (j i : ℕ) → bit (2 ^ j) i ≡ eqb i j
unfolding bit
bit_one zero zero = refl
bit_one zero (suc i) = bit_none i ∙ sym (eqb-suc-zero i)
bit_one (suc j) zero = let z : 2 ^ suc j % 2 ≡ 0 = omega (arith, pow-suc 2 j) in rw z (sym (eqb-zero-suc j))
bit_one (suc j) (suc i) = let z : 2 ^ suc j / 2 ≡ 2 ^ j = omega (arith, pow-suc 2 j) in rw z (bit_one j i ∙ sym (eqb-suc-suc i j))

-- ---- or
or_digits : (x y : ℕ) → Digit x → Digit y → (max x y < 2) × (eqb (max x y) 1 ≡ (eqb x 1 || eqb y 1))
or_digits _ _ is_0 is_0 = (omega arith, refl)
or_digits _ _ is_0 is_1 = (omega arith, refl)
or_digits _ _ is_1 is_0 = (omega arith, refl)
or_digits _ _ is_1 is_1 = (omega arith, refl)

pub bit_or_lem : (a b i : ℕ) → bit (bit_or a b) i ≡ (bit a i || bit b i)
unfolding bit
bit_or_lem a b zero =
    let d = or_digits (a % 2) (b % 2) (last_digit a) (last_digit b) in
    let z : bit_or a b % 2 ≡ max (a % 2) (b % 2) = omega (arith, or_step a b, d.0) in
    rw z d.1
bit_or_lem a b (suc i) =
    let d = or_digits (a % 2) (b % 2) (last_digit a) (last_digit b) in
    let z : bit_or a b / 2 ≡ bit_or (a / 2) (b / 2) = omega (arith, or_step a b, d.0) in
    rw z (bit_or_lem (a / 2) (b / 2) i)

-- ---- each bit of a is a bit of b
-- a test at all numbers below suc k, from the first on
below_first : (k : ℕ) (f : ℕ → Bool) → all_below (suc k) f ≡ (f 0 && all_below k (λ i. f (suc i)))
below_first zero f = refl
below_first (suc k) f =
    ap (λ (x : Bool). f (suc k) && x) (below_first k f) ∙ and_swap (f (suc k)) (f 0) (all_below k (λ i. f (suc i)))

-- a test that holds from n on
module _ (f h : ℕ → Bool) where
  below_same : (n : ℕ) → ((i : ℕ) → i < n → f i ≡ h i) → all_below n f ≡ all_below n h
  below_same zero same = refl
  below_same (suc n) same = ap₂ ◌&&◌ (same n (omega arith)) (below_same n (λ i l. same i (omega arith)))

  module _ (n : ℕ) (same : (i : ℕ) → i < n → f i ≡ h i) (more : (i : ℕ) → n ≤ i → f i ≡ true) where
    pub below_more : (k : ℕ) → n ≤ k → all_below k f ≡ all_below n h
    below_more zero l = let z : n ≡ 0 = omega arith in rw z refl
    below_more (suc k) l = go (ltb k n) refl (λ q. below_more k q)
      where
        go : (b : Bool) → ltb k n ≡ b → (n ≤ k → all_below k f ≡ all_below n h) → (f k && all_below k f) ≡ all_below n h
        go true e ih =
            let q = ltb-true k n e in
            let z : n ≡ suc k = omega arith in
            below_same (suc k) (λ i m. same i (omega arith)) ∙ sym (ap (λ (j : ℕ). all_below j h) z)
        go false e ih = let q = ltb-false k n e in rw (more k q) (ih q)

and_digits : (x y : ℕ) → Digit x → Digit y → (min x (1 - y) < 2) × (eqb (min x (1 - y)) 0 ≡ (not (eqb x 1) || eqb y 1))
and_digits _ _ is_0 is_0 = (omega arith, refl)
and_digits _ _ is_0 is_1 = (omega arith, refl)
and_digits _ _ is_1 is_0 = (omega arith, refl)
and_digits _ _ is_1 is_1 = (omega arith, refl)

-- a number is 0 where its digits are
zero_digits : (a c : ℕ) → eqb (a * 2 + c) 0 ≡ (eqb c 0 && eqb a 0)
zero_digits a zero = go a
  where
    go : (a : ℕ) → eqb (a * 2 + 0) 0 ≡ eqb a 0
    go zero = refl
    go (suc a) = ne_eqb (suc a * 2 + 0) 0 (λ e. omega arith) ∙ sym (eqb-suc-zero a)
zero_digits a (suc c) = rw (ne_eqb (a * 2 + suc c) 0 (λ e. omega arith), eqb-suc-zero c) refl

pub covered : (k a b : ℕ) → a < 2 ^ k → b < 2 ^ k → eqb (bit_and a (2 ^ k - 1 - b)) 0 ≡ all_below k (λ i. not (bit a i) || bit b i)
unfolding bit
covered zero a b ha hb = let z : a ≡ 0 = omega arith in rw z refl
covered (suc k) a b ha hb =
    let p = pow-suc 2 k in
    let c : ℕ = 2 ^ suc k - 1 - b in
    let h : c / 2 ≡ 2 ^ k - 1 - b / 2 = omega (arith, p, hb) in
    let l : c % 2 ≡ 1 - b % 2 = omega (arith, p, hb) in
    let d = and_digits (a % 2) (b % 2) (last_digit a) (last_digit b) in
    let ih = covered k (a / 2) (b / 2) (omega (arith, p, ha)) (omega (arith, p, hb)) in
    ap (λ (x : ℕ). eqb x 0) (and_step a c ∙ ap₂ (λ (x y : ℕ). bit_and (a / 2) x * 2 + min (a % 2) y) h l)
    ∙ zero_digits (bit_and (a / 2) (2 ^ k - 1 - b / 2)) (min (a % 2) (1 - b % 2))
    ∙ ap₂ ◌&&◌ d.1 ih
    ∙ sym (below_first k (λ i. not (bit a i) || bit b i))
