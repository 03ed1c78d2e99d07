use Rattle.nav.proofs.PlaceTurns.{placed_root, children_done}
use Rattle.nav.proofs.Places.arity_at.Goals as goal

pub start_at-requires : goal.start_at-requires
start_at-requires c = (placed_root _ _ _ c.requires).0

pub children_at-requires : goal.children_at-requires
children_at-requires c = rw c.start_at.ensures.0 (placed_root _ _ _ c.requires).1

pub returns : goal.returns
returns c = children_done _ _ _ _ (rw c.start_at.ensures.0 at c.children_at.ensures)
