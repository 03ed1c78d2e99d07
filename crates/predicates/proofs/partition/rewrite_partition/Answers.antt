use native.Mathlib.Omega.{arith}
use Rattle.decision.proofs.Shapes.{here_few, here_placed}
use Rattle.predicates.proofs.PartTurns.{part_other, part_14, part_15, part_none}
use Rattle.predicates.proofs.partition.rewrite_partition.Goals as goal

pub tag_at-tag-requires : goal.tag_at-tag-requires
tag_at-tag-requires c = here_placed c.requires

pub returns-then-tag-ne-PARTITION : goal.returns-then-tag-ne-PARTITION
returns-then-tag-ne-PARTITION c = part_other _ _ _ _ _ c.tag_at-tag.ensures c.if-tag-ne-PARTITION.true

pub overflow_add-a : goal.overflow_add-a
overflow_add-a c = let z = here_few c.requires in omega arith

pub second_of-b-requires : goal.second_of-b-requires
second_of-b-requires c = here_few c.requires

pub arity_at-m-requires : goal.arity_at-m-requires
arity_at-m-requires c = here_placed c.requires

pub returns-then-m-eq1 : goal.returns-then-m-eq1
returns-then-m-eq1 c = part_14 _ _ _ _ _ c.tag_at-tag.ensures c.if-tag-ne-PARTITION.false _ c.arity_at-m.ensures
    c.if-m-eq1.true _ c.fixed.ensures

pub returns-then-m-eq2 : goal.returns-then-m-eq2
returns-then-m-eq2 c = part_15 _ _ _ _ _ c.tag_at-tag.ensures c.if-tag-ne-PARTITION.false _ c.arity_at-m.ensures c.if-m-eq2.true _
    c.second_of-b.ensures _ c.fixed-then-m-eq2.ensures

pub returns : goal.returns
returns c = part_none _ _ _ _ _ c.tag_at-tag.ensures c.if-tag-ne-PARTITION.false _ c.arity_at-m.ensures c.if-m-eq1.false c.if-m-eq2.false
