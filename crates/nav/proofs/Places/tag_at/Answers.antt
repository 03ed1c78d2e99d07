use native.Mathlib.Omega.{arith}
use Rattle.sameness.proofs.View.{stand_inside}
use Rattle.nav.proofs.PlaceTurns.{placed_root, tag_done}
use Rattle.nav.proofs.Places.tag_at.Goals as goal

pub start_at-requires : goal.start_at-requires
start_at-requires c = (placed_root _ _ _ c.requires).0

pub number-requires : goal.number-requires
number-requires c = let z = stand_inside (placed_root _ _ _ c.requires).1.there in omega arith

pub returns : goal.returns
returns c = tag_done _ _ _ _ (rw c.start_at.ensures.0 at c.number.ensures)
