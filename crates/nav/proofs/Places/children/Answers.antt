use Rattle.nav.proofs.ChildPlaces.{tree_few, tree_hops, tree_children}
use native.Mathlib.Omega.{arith}
use Rattle.nav.proofs.Places.children.Goals as goal

pub overflow_add-k : goal.overflow_add-k
overflow_add-k c = let z = tree_few _ _ _ _ c.requires in omega arith

pub row-requires : goal.row-requires
row-requires c = tree_hops _ _ _ _ c.requires _ c.arity_at.ensures

pub returns : goal.returns
returns c = rw c.row.ensures (tree_children _ _ _ _ _ c.arity_at.ensures)
