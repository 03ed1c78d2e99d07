-- A test of every tag with its class, by one walk along the rows of `table`: looking each tag up would walk them all again.
-- Main results: every_tag (a test that holds along the rows holds of each tag), unlisted_past (past the last row).
use mathlib.Core.Path.{◌≡◌, refl, sym, ap, ◌∙◌}
use mathlib.Core.Bool.{Bool, true, false, ◌&&◌}
use mathlib.Core.List.{List, [], ◌∷◌}
use Prim.Native.Nat.{ℕ, zero, suc, ◌+◌, ◌-◌, ◌≤◌, ◌<◌}
use native.Mathlib.Omega.{arith}
use lib.Dec.{leb, eqb}
use borrow.Author.Tests.{leb-true, leb-false, lt-leb, eqb-true, eqb-false}
use Rattle.frame.specs.Tags.{pick, Class, unlisted, Row, row, table, lookup, class_of}
use Rattle.frame.proofs.Inversion.{true_not}
use Rattle.frame.proofs.Booleans.{both_true}

-- ---- a test of n numbers from k on
abbrev pub all_from : ℕ → ℕ → (ℕ → Bool) → Bool
all_from zero k f = true
all_from (suc n) k f = f k && all_from n (suc k) f

on_first : (f : ℕ → Bool) (k t : ℕ) → f k ≡ true → (suc k ≤ t → f t ≡ true) → k ≤ t → (b : Bool) → eqb t k ≡ b → f t ≡ true
on_first f k t a ih l true e = ap f (eqb-true t k e) ∙ a
on_first f k t a ih l false e = let z = eqb-false t k e in ih (omega arith)

from_on : (n k : ℕ) (f : ℕ → Bool) → all_from n k f ≡ true → (t : ℕ) → k ≤ t → t < k + n → f t ≡ true
from_on zero k f e t l h = absurd (omega arith)
from_on (suc n) k f e t l h =
    let p = both_true (f k) (all_from n (suc k) f) e in
    on_first f k t p.0 (λ m. from_on n (suc k) f p.1 t m (omega arith)) l (eqb t k) refl

-- ---- along the rows, which stand in order: a number between two of them is unlisted
abbrev pub along_rows : (ℕ → Class → Bool) → ℕ → ℕ → List Row → Bool
along_rows f n k [] = all_from (n - k) k (λ t. f t unlisted)
along_rows f n k (row from to c ∷ rows) =
    (leb k from && leb from to) && ((all_from (from - k) k (λ t. f t unlisted) && all_from (suc to - from) from (λ t. f t c)) &&
    along_rows f n (suc to) rows)

-- what the test says of the first row, and of the rest
record Along (f : ℕ → Class → Bool) (n k from to : ℕ) (c : Class) (rows : List Row) : Type 0 where
  after : k ≤ from
  order : from ≤ to
  gap : all_from (from - k) k (λ t. f t unlisted) ≡ true
  own : all_from (suc to - from) from (λ t. f t c) ≡ true
  rest : along_rows f n (suc to) rows ≡ true

parts : (f : ℕ → Class → Bool) (n k from to : ℕ) (c : Class) (rows : List Row) → along_rows f n k (row from to c ∷ rows) ≡ true
    → Along f n k from to c rows
parts f n k from to c rows e =
    let gap-test = all_from (from - k) k (λ t. f t unlisted) in
    let own-test = all_from (suc to - from) from (λ t. f t c) in
    let p = both_true (leb k from && leb from to) ((gap-test && own-test) && along_rows f n (suc to) rows) e in
    let o = both_true (leb k from) (leb from to) p.0 in
    let q = both_true (gap-test && own-test) (along_rows f n (suc to) rows) p.1 in
    let r = both_true gap-test own-test q.0 in
    record { after = leb-true k from o.0; order = leb-true from to o.1; gap = r.0; own = r.1; rest = q.1 }

past : (a b : Bool) (c d : Class) → a ≡ false → pick (a && b) c d ≡ d
past true b c d e = true_not (sym e)
past false b c d e = refl

before_rows : (f : ℕ → Class → Bool) (n k : ℕ) (rows : List Row) → along_rows f n k rows ≡ true → (t : ℕ) → t < k → lookup rows t ≡ unlisted
unfolding lookup
before_rows f n k [] e t h = refl
before_rows f n k (row from to c ∷ rows) e t h =
    let p = parts f n k from to c rows e in
    let a = p.after in
    let o = p.order in
    past (leb from t) (leb t to) c (lookup rows t) (lt-leb from t (omega arith)) ∙ before_rows f n (suc to) rows p.rest t (omega arith)

by_row : (f : ℕ → Class → Bool) (t : ℕ) (c d : Class) (a b : Bool) → (a ≡ false → f t d ≡ true) → (a ≡ true → b ≡ true → f t c ≡ true)
    → (b ≡ false → f t d ≡ true) → f t (pick (a && b) c d) ≡ true
by_row f t c d true true x y z = y refl refl
by_row f t c d true false x y z = z refl
by_row f t c d false b x y z = x refl

along : (f : ℕ → Class → Bool) (n k : ℕ) (rows : List Row) → along_rows f n k rows ≡ true → (t : ℕ) → k ≤ t → t < n → f t (lookup rows t) ≡ true
unfolding lookup
along f n k [] e t l h = from_on (n - k) k (λ i. f i unlisted) e t l (omega arith)
along f n k (row from to c ∷ rows) e t l h =
    let p = parts f n k from to c rows e in
    let o = p.order in
    by_row f t c (lookup rows t) (leb from t) (leb t to)
    (λ x. (let i = leb-false from t x in ap (λ (d : Class). f t d) (before_rows f n (suc to) rows p.rest t (omega arith)) ∙ from_on
    (from - k) k (λ i. f i unlisted) p.gap t l (omega arith)))
    (λ x y. (let i = leb-true from t x in let j = leb-true t to y in from_on (suc to - from) from (λ i. f i c) p.own t i (omega arith)))
    (λ y. (let j = leb-false t to y in along f n (suc to) rows p.rest t (omega arith) h))

pub every_tag : (f : ℕ → Class → Bool) (n : ℕ) → along_rows f n 0 table ≡ true → (t : ℕ) → t < n → f t (class_of t) ≡ true
unfolding class_of
every_tag f n e t h = along f n 0 table e t (omega arith) h

-- ---- tags past the last row are unlisted
abbrev ends_by : ℕ → List Row → Bool
ends_by n [] = true
ends_by n (row from to c ∷ rows) = leb to n && ends_by n rows

skip : (a b : Bool) (c d : Class) → b ≡ false → pick (a && b) c d ≡ d
skip true true c d e = true_not (sym e)
skip true false c d e = refl
skip false b c d e = refl

past_rows : (n : ℕ) (rows : List Row) → ends_by n rows ≡ true → (t : ℕ) → n < t → lookup rows t ≡ unlisted
unfolding lookup
past_rows n [] e t h = refl
past_rows n (row from to c ∷ rows) e t h =
    let p = both_true (leb to n) (ends_by n rows) e in
    let l = leb-true to n p.0 in
    skip (leb from t) (leb t to) c (lookup rows t) (lt-leb t to (omega arith)) ∙ past_rows n rows p.1 t h

pub unlisted_past : (t : ℕ) → 901 < t → class_of t ≡ unlisted
unfolding class_of
unlisted_past t h = past_rows 901 table refl t h
