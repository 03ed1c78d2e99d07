use Rattle.std.proofs.Common.{rules}
use native.Mathlib.Omega.{arith}
use Rattle.decision.proofs.Shapes.{here_few, here_placed}
use Rattle.logic.proofs.LogicTurns.{out_82, out_83, out_84, not_none}
use Rattle.logic.proofs.negation_at.Goals as goal

pub tag_at-tag-requires : goal.tag_at-tag-requires
tag_at-tag-requires c = here_placed c.requires

pub overflow_add-nested : goal.overflow_add-nested
overflow_add-nested c = let z = here_few c.requires in omega arith

pub returns-in-610 : goal.returns-in-610
returns-in-610 c = out_82 _ _ _ _ _ c.tag_at-tag.ensures c.in-610.is _ c.fixed.ensures

pub returns-in-611 : goal.returns-in-611
returns-in-611 c = out_83 _ _ _ _ _ c.tag_at-tag.ensures c.in-611.is _ c.fixed-in-611.ensures

pub returns-in-701 : goal.returns-in-701
returns-in-701 c = out_84 _ _ _ _ _ c.tag_at-tag.ensures c.in-701.is _ c.fixed-in-701.ensures

pub returns-in_default : goal.returns-in_default
returns-in_default c = search (rules, not_none)
