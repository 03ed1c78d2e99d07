use native.Mathlib.Omega.{arith}
use Rattle.nav.proofs.PlaceTurns.{placed_root}
use Rattle.decision.proofs.Opposites.{inner_placed, negates_none, negates_inner}
use Rattle.decision.proofs.contains.negates.Goals as goal

pub returns-then-tag_at-ne-NOT : goal.returns-then-tag_at-ne-NOT
returns-then-tag_at-ne-NOT c = negates_none _ _ _ _ _ c.tag_at.ensures c.if-tag_at-ne-NOT.true

pub overflow_add-a : goal.overflow_add-a
overflow_add-a c = let z = (placed_root _ _ _ c.requires.left).0 in omega arith

pub same_at-requires : goal.same_at-requires
same_at-requires c = record { left = inner_placed _ _ _ _ c.tag_at.ensures c.if-tag_at-ne-NOT.false c.requires.left; right = c.requires.right }

pub returns : goal.returns
returns c = negates_inner _ _ _ _ _ c.tag_at.ensures c.if-tag_at-ne-NOT.false _ c.same_at.ensures
