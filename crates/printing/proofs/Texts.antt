-- The texts of an answer's parts, and how long they are.
-- Main results: decimal_one, decimal_more (a number in decimal by its last digit), decimal_lem (it is std's), digits_most (how many digits);
-- ended_length, refused_length.
use Rattle.std.proofs.Common.{◌≡◌, ℕ, zero, suc, ◌+◌, ◌/◌, ◌%◌, ◌≤◌, ◌<◌, ◌^◌, Bool, true, false, List, [], ◌∷◌, ◌++◌, length, ltb, refl, ap, ◌∙◌, arith, length-append}
use Rattle.std.specs.Fmt.{decimal as std_decimal}
use Rattle.std.proofs.lemmas.Fmt.{decimal_from_appends, length-decimal-le, length-decimal-le_succ}
use borrow.Author.Tests.{ltb-false, lt-ltb, le-ltb}
use Rattle.frame.specs.Lines.{write_line}
use Rattle.program.specs.Text.{with_last, decimal_in, decimal, ended_text, refused_text}

-- how many digits may stand before the last plays no part, if there are enough
decimal_in_lem : (k l n : ℕ) → n ≤ k → n ≤ l → decimal_in k n ≡ decimal_in l n
unfolding decimal_in
decimal_in_lem zero zero n a b = refl
decimal_in_lem zero (suc l) n a b = let e : ltb n 10 ≡ true = lt-ltb n 10 (omega arith) in rw e
decimal_in_lem (suc k) zero n a b = let e : ltb n 10 ≡ true = lt-ltb n 10 (omega arith) in rw e
decimal_in_lem (suc k) (suc l) n a b = go (ltb n 10) refl (λ x y. decimal_in_lem k l (n / 10) x y)
  where
    go : (t : Bool) → ltb n 10 ≡ t → (n / 10 ≤ k → n / 10 ≤ l → decimal_in k (n / 10) ≡ decimal_in l (n / 10))
        → with_last t n (decimal_in k) ≡ with_last t n (decimal_in l)
    go true e ih = refl
    go false e ih = let h = ltb-false n 10 e in ap (λ (x : List ℕ). x ++ ((48 + n % 10) ∷ [])) (ih (omega arith) (omega arith))

decimal_in_one : (k n : ℕ) → n < 10 → decimal_in (suc k) n ≡ (48 + n) ∷ []
unfolding decimal_in
decimal_in_one k n h = rw (lt-ltb n 10 h)

decimal_in_more : (k n : ℕ) → 10 ≤ n → decimal_in (suc k) n ≡ decimal_in k (n / 10) ++ ((48 + n % 10) ∷ [])
unfolding decimal_in
decimal_in_more k n h = rw (le-ltb n 10 h)

pub decimal_one : (n : ℕ) → n < 10 → decimal n ≡ (48 + n) ∷ []
unfolding decimal
decimal_one n h = decimal_in_lem n (suc n) n (omega arith) (omega arith) ∙ decimal_in_one n n h

pub decimal_more : (n : ℕ) → 10 ≤ n → decimal n ≡ decimal (n / 10) ++ ((48 + n % 10) ∷ [])
unfolding decimal
decimal_more n h =
    decimal_in_lem n (suc n) n (omega arith) (omega arith)
    ∙ decimal_in_more n n h
    ∙ ap (λ (x : List ℕ). x ++ ((48 + n % 10) ∷ [])) (decimal_in_lem n (n / 10) (n / 10) (omega arith) (omega arith))

pub decimal_lem : (n : ℕ) → n < 2 ^ 32 → decimal n ≡ std_decimal n
unfolding decimal
decimal_lem n h =
    decimal_in_lem n (n + 1) n (omega arith) (omega arith)
    ∙ decimal_from_appends decimal_in (record { one = decimal_in_one; more = decimal_in_more }) (n + 1) n (omega arith)
    (length-decimal-le_succ n (omega arith))

pub digits_most : (k n : ℕ) → 0 < k → n < 10 ^ k → n < 2 ^ 32 → length (decimal n) ≤ k
digits_most k n s h l = rw (decimal_lem n l) (length-decimal-le k n s h (omega arith))

-- ---- an answer: each part has room where the whole has
module _ (word : List ℕ) (n : ℕ) (xs : List ℕ) where
  pub ended_length : length (ended_text word n xs) ≡ length word + length (decimal n) + length (write_line xs) + 3
  unfolding ended_text
  ended_length = simp length-append (omega arith)

pub refused_length : (c : ℕ) → length (refused_text c) ≡ length (decimal c) + 9
unfolding refused_text
refused_length c = simp length-append (omega arith)
