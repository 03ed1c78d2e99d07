-- How far a run has come.
use Rattle.std.specs.Prelude.{ℕ, List}

-- the frame that it is at, the budget left and the count of the steps made
pub record At : Type 0 where
  pub frame : List ℕ
  pub left : ℕ
  pub steps : ℕ
