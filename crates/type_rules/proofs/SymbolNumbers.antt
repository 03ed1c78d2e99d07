-- The symbols of the code by their numbers.
-- Main results: fixed_small, fixed_real, variable_number, variable_few.
use mathlib.Core.Path.{◌≡◌}
use Prim.Native.Nat.{ℕ, ◌+◌, ◌<◌}
use native.Mathlib.Omega.{arith}
use Rattle.std.proofs.Common.{Some, None}
use Rattle.type_rules.specs.CodeRules.{number, variable_at}
use Rattle.type_rules.specs.declared.Symbol.{Symbol}
use Rattle.type_rules.specs.declared.Symbol.TheVariants as S

pub fixed_small : (s : Symbol) → variable_at s ≡ None → number s < 5
fixed_small S.Bool e = omega arith
fixed_small S.Integers e = omega arith
fixed_small S.Power e = omega arith
fixed_small S.Product e = omega arith
fixed_small S.Alpha e = absurd cc
fixed_small S.Beta e = absurd cc
fixed_small S.Gamma e = absurd cc
fixed_small S.Delta e = absurd cc

pub variable_number : (s : Symbol) (v : ℕ) → variable_at s ≡ Some v → number s ≡ v + 5
variable_number S.Bool v e = cc
variable_number S.Integers v e = cc
variable_number S.Power v e = cc
variable_number S.Product v e = cc
variable_number S.Alpha v e = let z : 0 ≡ v = cc in omega arith
variable_number S.Beta v e = let z : 1 ≡ v = cc in omega arith
variable_number S.Gamma v e = let z : 2 ≡ v = cc in omega arith
variable_number S.Delta v e = let z : 3 ≡ v = cc in omega arith

pub variable_few : (s : Symbol) (v : ℕ) → variable_at s ≡ Some v → v < 4
variable_few S.Bool v e = cc
variable_few S.Integers v e = cc
variable_few S.Power v e = cc
variable_few S.Product v e = cc
variable_few S.Alpha v e = let z : 0 ≡ v = cc in omega arith
variable_few S.Beta v e = let z : 1 ≡ v = cc in omega arith
variable_few S.Gamma v e = let z : 2 ≡ v = cc in omega arith
variable_few S.Delta v e = let z : 3 ≡ v = cc in omega arith

-- 2 begins the type of a given set, and stands in no pattern
pub fixed_real : (s : Symbol) → number s ≡ 2 → ⊥
fixed_real S.Bool e = omega arith
fixed_real S.Integers e = omega arith
fixed_real S.Power e = omega arith
fixed_real S.Product e = omega arith
fixed_real S.Alpha e = omega arith
fixed_real S.Beta e = omega arith
fixed_real S.Gamma e = omega arith
fixed_real S.Delta e = omega arith
