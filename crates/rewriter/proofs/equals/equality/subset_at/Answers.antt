use Rattle.rewriter.proofs.PairTurns.{within_empty}
use Rattle.decision.proofs.Shapes.{second_placed}
use Rattle.rewriter.proofs.equals.equality.subset_at.Goals as goal

pub tag_at-requires : goal.tag_at-requires
tag_at-requires c = second_placed c.requires

pub returns : goal.returns
returns c = within_empty _ _ _ _ _ _ c.tag_at.ensures c.if-tag_at-ne-EMPTYSET.false _ c.rewrite_equals_empty_set.ensures
