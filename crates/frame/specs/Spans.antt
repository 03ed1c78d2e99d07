-- Bytes, and the bytes of a list between two positions: what reading (by positions) and encoding (by lists) have in common.
use Rattle.std.specs.Prelude.{◌≡◌, List, ℕ, ◌+◌, ◌≤◌, ◌<◌, length, take, drop, get_or}

abbrev pub Bytes : List ℕ → Type 0
Bytes s = (i : ℕ) → get_or s i 0 < 256

-- the bytes of s from `at` up to p are xs
pub record Spans (s : List ℕ) (at p : ℕ) (xs : List ℕ) : Type 0 where
  pub long : at + length xs ≡ p
  pub within : p ≤ length s
  pub bytes : take (length xs) (drop at s) ≡ xs
