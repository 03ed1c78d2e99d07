-- Tags by ranges, as the arms of the code's matches have them: a range within a row of `table` is of one class, and a tag outside of all
-- rows is not listed.
-- Main results: at_range, off_table.
use mathlib.Core.Path.{◌≡◌, refl, ap, ◌∙◌, sym}
use mathlib.Core.Bool.{Bool, true, false, ◌&&◌}
use mathlib.Core.List.{List, [], ◌∷◌}
use Prim.Native.Nat.{ℕ, ◌≤◌, ◌<◌}
use native.Mathlib.Omega.{arith}
use lib.Dec.{ltb, leb}
use borrow.Author.Tests.{leb-true, le-leb, lt-leb, ltb-true}
use Rattle.frame.specs.Tags.{pick, Class, unlisted, Row, row, table, lookup, class_of}
use Rattle.type_rules.specs.Patterns.{Rule, rule_at}
use Rattle.frame.proofs.Booleans.{both_true}
use Rattle.frame.proofs.EveryTag.{unlisted_past}
use Rattle.frame.proofs.Inversion.{true_not}

-- a row has the numbers from `lo` to `hi`, and those before it have none of them
abbrev pub covered : ℕ → ℕ → List Row → Bool
covered lo hi [] = false
covered lo hi (row from to c ∷ rows) = pick (leb from lo && leb hi to) true (ltb to lo && covered lo hi rows)

found : (a b : Bool) (c d : Class) → a ≡ true → b ≡ true → pick (a && b) c d ≡ c
found true true c d p q = refl
found true false c d p q = true_not q
found false b c d p q = true_not p

skipped : (a b : Bool) (c d : Class) → b ≡ false → pick (a && b) c d ≡ d
skipped true true c d q = true_not (sym q)
skipped true false c d q = refl
skipped false b c d q = refl

here : (lo hi t from to : ℕ) (c d e : Class) → (leb from lo && leb hi to) ≡ true → lo ≤ t → t ≤ hi
    → pick (leb from t && leb t to) c d ≡ pick (leb from lo && leb lo to) c e
here lo hi t from to c d e q l h =
    let p = both_true (leb from lo) (leb hi to) q in
    let i = leb-true from lo p.0 in
    let j = leb-true hi to p.1 in
    found (leb from t) (leb t to) c d (le-leb from t (omega arith)) (le-leb t to (omega arith))
    ∙ sym (found (leb from lo) (leb lo to) c e p.0 (le-leb lo to (omega arith)))

later : (lo hi t from to : ℕ) (c d e : Class) (b : Bool) → (ltb to lo && b) ≡ true → lo ≤ t → (b ≡ true → d ≡ e)
    → pick (leb from t && leb t to) c d ≡ pick (leb from lo && leb lo to) c e
later lo hi t from to c d e b r l go =
    let p = both_true (ltb to lo) b r in
    let i = ltb-true to lo p.0 in
    skipped (leb from t) (leb t to) c d (lt-leb t to (omega arith))
    ∙ go p.1
    ∙ sym (skipped (leb from lo) (leb lo to) c e (lt-leb lo to i))

either : (a b : Bool) (X : Type 0) → (a ≡ true → X) → (b ≡ true → X) → pick a true b ≡ true → X
either true b X f g e = f refl
either false b X f g e = g e

in_rows : (lo hi t : ℕ) (rows : List Row) → covered lo hi rows ≡ true → lo ≤ t → t ≤ hi → lookup rows t ≡ lookup rows lo
unfolding lookup
in_rows lo hi t [] e l h = true_not e
in_rows lo hi t (row from to c ∷ rows) e l h =
    either (leb from lo && leb hi to) (ltb to lo && covered lo hi rows)
    (pick (leb from t && leb t to) c (lookup rows t) ≡ pick (leb from lo && leb lo to) c (lookup rows lo))
    (λ q. here lo hi t from to c (lookup rows t) (lookup rows lo) q l h)
    (λ r. later lo hi t from to c (lookup rows t) (lookup rows lo) (covered lo hi rows) r l (λ s. in_rows lo hi t rows s l h)) e

pub at_range : (lo hi t : ℕ) → covered lo hi table ≡ true → lo ≤ t → t ≤ hi → class_of t ≡ class_of lo
unfolding class_of
at_range lo hi t e l h = in_rows lo hi t table e l h

-- no row has a number from `lo` to `hi`
abbrev pub clear : ℕ → ℕ → List Row → Bool
clear lo hi [] = true
clear lo hi (row from to c ∷ rows) = pick (ltb to lo) true (ltb hi from) && clear lo hi rows

before : (a b : Bool) (c d : Class) → a ≡ false → pick (a && b) c d ≡ d
before true b c d q = true_not (sym q)
before false b c d q = refl

beside : (lo hi t from to : ℕ) (c d : Class) (b : Bool) → ltb to lo ≡ b → pick b true (ltb hi from) ≡ true → lo ≤ t → t ≤ hi
    → pick (leb from t && leb t to) c d ≡ d
beside lo hi t from to c d true q e l h = let i = ltb-true to lo q in skipped (leb from t) (leb t to) c d (lt-leb t to (omega arith))
beside lo hi t from to c d false q e l h = let i = ltb-true hi from e in before (leb from t) (leb t to) c d (lt-leb from t (omega arith))

off_rows : (lo hi t : ℕ) (rows : List Row) → clear lo hi rows ≡ true → lo ≤ t → t ≤ hi → lookup rows t ≡ unlisted
unfolding lookup
off_rows lo hi t [] e l h = refl
off_rows lo hi t (row from to c ∷ rows) e l h =
    let p = both_true (pick (ltb to lo) true (ltb hi from)) (clear lo hi rows) e in
    beside lo hi t from to c (lookup rows t) (ltb to lo) refl p.0 l h ∙ off_rows lo hi t rows p.1 l h

pub off_table : (lo hi t : ℕ) → clear lo hi table ≡ true → lo ≤ t → t ≤ hi → class_of t ≡ unlisted
unfolding class_of
off_table lo hi t e l h = off_rows lo hi t table e l h

-- so each tag of a range has one rule, and one that is in no row has that of the unlisted
pub rule_on : (lo hi t : ℕ) {r : Rule} → covered lo hi table ≡ true → r ≡ rule_at (class_of lo) → lo ≤ t → t ≤ hi → r ≡ rule_at (class_of t)
rule_on lo hi t e q l h = q ∙ sym (ap rule_at (at_range lo hi t e l h))

pub rule_off : (lo hi t : ℕ) {r : Rule} → clear lo hi table ≡ true → r ≡ rule_at unlisted → lo ≤ t → t ≤ hi → r ≡ rule_at (class_of t)
rule_off lo hi t e q l h = q ∙ sym (ap rule_at (off_table lo hi t e l h))

pub rule_past : (t : ℕ) {r : Rule} → r ≡ rule_at unlisted → 901 < t → r ≡ rule_at (class_of t)
rule_past t q h = q ∙ sym (ap rule_at (unlisted_past t h))
