-- Tables: a test that is computed at each entry, the last arm of a match, and stores one after the other.
-- Main results: below, entry, flag (a computed test); past_all, last_entry (the last arm of a match); sets_append.
use mathlib.Core.Path.{◌≡◌, refl, ap, ◌∙◌}
use mathlib.Core.Bool.{Bool, true, false, ◌&&◌}
use mathlib.Core.List.{List, [], ◌∷◌, ◌++◌}
use Prim.Native.Nat.{ℕ, zero, suc, ◌+◌, ◌≤◌, ◌<◌}
use native.Mathlib.Omega.{arith}
use lib.ListN.{length, get_or, set}
use lib.Seq.{sets}
use lib.Dec.{eqb}
use borrow.Author.Tests.{eqb-true, eqb-false}
use Rattle.frame.proofs.Inversion.{true_not}
use Rattle.frame.proofs.Booleans.{both_true}

-- ---- a test that is computed at each number below n
abbrev pub all_below : ℕ → (ℕ → Bool) → Bool
all_below zero f = true
all_below (suc n) f = f n && all_below n f

on_last : (f : ℕ → Bool) (n k : ℕ) → f n ≡ true → (k < n → f k ≡ true) → k < suc n → (b : Bool) → eqb k n ≡ b → f k ≡ true
on_last f n k a ih h true eb = ap f (eqb-true k n eb) ∙ a
on_last f n k a ih h false eb = let z = eqb-false k n eb in ih (omega arith)

pub below : (n : ℕ) (f : ℕ → Bool) → all_below n f ≡ true → (k : ℕ) → k < n → f k ≡ true
below zero f e k h = absurd (omega arith)
below (suc n) f e k h =
    let parts = both_true (f n) (all_below n f) e in
    on_last f n k parts.0 (λ l. below n f parts.1 k l) h (eqb k n) refl

-- a table of numbers: its entries f are those of g
pub entry : (f g : ℕ → ℕ) (n : ℕ) → all_below n (λ k. eqb (f k) (g k)) ≡ true → (k : ℕ) → k < n → f k ≡ g k
entry f g n e k h = eqb-true (f k) (g k) (below n (λ i. eqb (f i) (g i)) e k h)

-- a table of flags
abbrev pub same_bool : Bool → Bool → Bool
same_bool true true = true
same_bool true false = false
same_bool false true = false
same_bool false false = true

same_bool_lem : (a b : Bool) → same_bool a b ≡ true → a ≡ b
same_bool_lem true true e = refl
same_bool_lem true false e = true_not e
same_bool_lem false true e = true_not e
same_bool_lem false false e = refl

pub flag : (f g : ℕ → Bool) (n : ℕ) → all_below n (λ k. same_bool (f k) (g k)) ≡ true → (k : ℕ) → k < n → f k ≡ g k
flag f g n e k h = same_bool_lem (f k) (g k) (below n (λ i. same_bool (f i) (g i)) e k h)

-- ---- a number that is none of those below n, as the last arm of a match has it
abbrev pub NoneBelow : ℕ → ℕ → Type 0
NoneBelow i zero = Unit {0}
NoneBelow i (suc n) = NoneBelow i n × (i ≡ n → ⊥)

pub past_all : (i n : ℕ) → NoneBelow i n → n ≤ i
past_all i zero r = omega arith
past_all i (suc n) r = let h = past_all i n r.0 in let ne = r.1 in omega arith

-- so below n + 1 it is n
pub last_entry : (xs : List ℕ) (i n : ℕ) → i < suc n → NoneBelow i n → get_or xs n 0 ≡ get_or xs i 0
last_entry xs i n h r = let l = past_all i n r in let z : n ≡ i = omega arith in ap (λ (k : ℕ). get_or xs k 0) z

-- ---- a run of stores, one after the other
pub sets_append : (l : List ℕ) (i : ℕ) (xs ys : List ℕ) → sets l i (xs ++ ys) ≡ sets (sets l i xs) (i + length xs) ys
sets_append l i [] ys = let z : i ≡ i + 0 = omega arith in ap (λ (k : ℕ). sets l k ys) z
sets_append l i (x ∷ xs) ys =
    let z : suc i + length xs ≡ i + suc (length xs) = omega arith in
    sets_append (set l i x) (suc i) xs ys ∙ ap (λ (k : ℕ). sets (sets (set l i x) (suc i) xs) k ys) z
