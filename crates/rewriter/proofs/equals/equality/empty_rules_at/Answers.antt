use Rattle.rewriter.proofs.PairTurns.{empty_right, empty_left, empty_none}
use Rattle.decision.proofs.Shapes.{first_placed, second_placed}
use Rattle.rewriter.proofs.equals.equality.empty_rules_at.Goals as goal

pub tag_at-right-requires : goal.tag_at-right-requires
tag_at-right-requires c = second_placed c.requires

pub returns-then-right-eq-EMPTYSET : goal.returns-then-right-eq-EMPTYSET
returns-then-right-eq-EMPTYSET c = empty_right _ _ _ _ _ _ c.tag_at-right.ensures c.if-right-eq-EMPTYSET.true _ c.rewrite_equals_empty_set.ensures

pub tag_at-left-requires : goal.tag_at-left-requires
tag_at-left-requires c = first_placed c.requires

pub returns-then-left-eq-EMPTYSET : goal.returns-then-left-eq-EMPTYSET
returns-then-left-eq-EMPTYSET c = empty_left _ _ _ _ _ _ c.tag_at-right.ensures c.if-right-eq-EMPTYSET.false _ c.tag_at-left.ensures c.if-left-eq-EMPTYSET.true _
    c.rewrite_equals_empty_set-then-left-eq-EMPTYSET.ensures

pub returns : goal.returns
returns c = empty_none _ _ _ _ _ _ c.tag_at-right.ensures c.if-right-eq-EMPTYSET.false _ c.tag_at-left.ensures c.if-left-eq-EMPTYSET.false
