use native.Mathlib.Omega.{arith}
use Rattle.predicates.proofs.SetTurns.{set_few, set_placed, value_placed, value_few, set_other, set_sides, set_11, set_none}
use Rattle.predicates.proofs.finite.finite_set_at.Goals as goal

pub second_of-value-requires : goal.second_of-value-requires
second_of-value-requires c = set_few _ _ _ _ c.requires

pub tag_at-requires : goal.tag_at-requires
tag_at-requires c = value_placed _ _ _ _ _ c.second_of-value.ensures c.requires

pub returns-then-tag_at-ne-MAPSTO : goal.returns-then-tag_at-ne-MAPSTO
returns-then-tag_at-ne-MAPSTO c = set_other _ _ _ _ _ c.second_of-value.ensures _ c.tag_at.ensures c.if-tag_at-ne-MAPSTO.true

pub overflow_add-left : goal.overflow_add-left
overflow_add-left c = let z = value_few _ _ _ _ _ c.second_of-value.ensures c.requires in omega arith

pub second_of-right-requires : goal.second_of-right-requires
second_of-right-requires c = value_few _ _ _ _ _ c.second_of-value.ensures c.requires

pub binders_at-n-requires : goal.binders_at-n-requires
binders_at-n-requires c = set_placed _ _ _ _ c.requires

pub functional_check-requires : goal.functional_check-requires
functional_check-requires c = (
  set_sides _ _ _ _ _ c.second_of-value.ensures _ c.tag_at.ensures c.if-tag_at-ne-MAPSTO.false _ c.second_of-right.ensures
      c.requires,
  c.binders_at-n.ensures.1,
)

pub overflow_add-k : goal.overflow_add-k
overflow_add-k c = let z = set_few _ _ _ _ c.requires in omega arith

pub returns-then-functional_check : goal.returns-then-functional_check
returns-then-functional_check c = set_11 _ _ _ _ _ c.second_of-value.ensures _ c.tag_at.ensures c.if-tag_at-ne-MAPSTO.false _ c.second_of-right.ensures _
    c.binders_at-n.ensures.0 _ c.functional_check.ensures c.if-functional_check.true _ c.fixed.ensures

pub returns : goal.returns
returns c = set_none _ _ _ _ _ c.second_of-value.ensures _ c.tag_at.ensures c.if-tag_at-ne-MAPSTO.false _ c.second_of-right.ensures _
    c.binders_at-n.ensures.0 _ c.functional_check.ensures c.if-functional_check.false
