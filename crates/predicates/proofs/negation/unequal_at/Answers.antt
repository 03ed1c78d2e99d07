use Rattle.predicates.proofs.Negations.{unequal_20, unequal_21, unequal_22, unequal_23, unequal_none}
use Rattle.decision.proofs.Shapes.{first_placed, second_placed}
use Rattle.predicates.proofs.negation.unequal_at.Goals as goal

pub tag_at-right-requires : goal.tag_at-right-requires
tag_at-right-requires c = second_placed c.requires

pub returns-then-right-eq-FALSE : goal.returns-then-right-eq-FALSE
returns-then-right-eq-FALSE c = unequal_20 _ _ _ _ _ _ c.tag_at-right.ensures c.if-right-eq-FALSE.true _ c.fixed.ensures

pub returns-then-right-eq-TRUE : goal.returns-then-right-eq-TRUE
returns-then-right-eq-TRUE c = unequal_21 _ _ _ _ _ _ c.tag_at-right.ensures c.if-right-eq-TRUE.true _ c.fixed-then-right-eq-TRUE.ensures

pub tag_at-left-requires : goal.tag_at-left-requires
tag_at-left-requires c = first_placed c.requires

pub returns-then-left-eq-FALSE : goal.returns-then-left-eq-FALSE
returns-then-left-eq-FALSE c = unequal_22 _ _ _ _ _ _ c.tag_at-right.ensures c.if-right-eq-FALSE.false c.if-right-eq-TRUE.false _ c.tag_at-left.ensures
    c.if-left-eq-FALSE.true _ c.fixed-then-left-eq-FALSE.ensures

pub returns-then-left-eq-TRUE : goal.returns-then-left-eq-TRUE
returns-then-left-eq-TRUE c = unequal_23 _ _ _ _ _ _ c.tag_at-right.ensures c.if-right-eq-FALSE.false c.if-right-eq-TRUE.false _ c.tag_at-left.ensures
    c.if-left-eq-TRUE.true _ c.fixed-then-left-eq-TRUE.ensures

pub returns : goal.returns
returns c = unequal_none _ _ _ _ _ _ c.tag_at-right.ensures c.if-right-eq-FALSE.false c.if-right-eq-TRUE.false _ c.tag_at-left.ensures
    c.if-left-eq-FALSE.false c.if-left-eq-TRUE.false
