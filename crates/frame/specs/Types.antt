-- The types of document 01, "The frame record". "Left out: [..] parametric types."
use Rattle.std.specs.Prelude.{ℕ}

-- "00 BOOL; 01 integers; 02 and a two-byte number, a given set; 03 and a type, its power; 04 and two types, their product."
pub data Ty : Type 0 where
  bool : Ty
  int : Ty
  given : ℕ → Ty
  pow : Ty → Ty
  prod : Ty → Ty → Ty
  deriving Discrete as Ty-discrete
