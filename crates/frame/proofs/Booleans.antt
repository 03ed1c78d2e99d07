-- Laws of truth values that the libraries do not have.
-- Main results: both_true, both_of (two tests joined); and_swap; or_then, then_or (not a, or b).
use mathlib.Core.Path.{◌≡◌, refl}
use mathlib.Core.Bool.{Bool, true, false, not, ◌&&◌, ◌||◌, false≢true}

pub both_true : (a b : Bool) → (a && b) ≡ true → (a ≡ true) × (b ≡ true)
both_true true b e = (refl, e)
both_true false b e = absurd (false≢true e)

pub both_of : {a b : Bool} → a ≡ true → b ≡ true → (a && b) ≡ true
both_of p q = rw (p, q)

pub and_swap : (a b c : Bool) → (a && (b && c)) ≡ (b && (a && c))
and_swap true b c = refl
and_swap false true c = refl
and_swap false false c = refl

-- not a, or b: b follows from a
pub or_then : (a b : Bool) → (not a || b) ≡ true → a ≡ true → b ≡ true
or_then true b h k = h
or_then false b h k = absurd (false≢true k)

pub then_or : (a b : Bool) → (a ≡ true → b ≡ true) → (not a || b) ≡ true
then_or true b f = f refl
then_or false b f = refl
