use native.Mathlib.Omega.{arith}
use Rattle.nav.proofs.PlaceTurns.{placed_root}
use Rattle.decision.proofs.Opposites.{inner_placed, opposite_child, opposite_new}
use Rattle.decision.proofs.contains.opposite.Goals as goal

pub overflow_add-b : goal.overflow_add-b
overflow_add-b c = let z = (placed_root _ _ _ c.requires.right).0 in omega arith

pub same_at-requires : goal.same_at-requires
same_at-requires c = record { left = c.requires.left; right = inner_placed _ _ _ _ c.tag_at.ensures (omega arith) c.requires.right }

pub returns-then-tag_at-eq-NOT : goal.returns-then-tag_at-eq-NOT
returns-then-tag_at-eq-NOT c = opposite_child _ _ _ _ _ c.tag_at.ensures c.if-tag_at-eq-NOT.true _ c.same_at.ensures

pub returns : goal.returns
returns c = opposite_new _ _ _ _ _ c.tag_at.ensures (λ e. omega (arith, e)) _ c.negates.ensures
