use native.Mathlib.Omega.{arith}
use Rattle.decision.proofs.Shapes.{here_few, here_placed}
use Rattle.logic.proofs.QuantTurns.{exists_other, exists_here, out_86, out_87, exists_none}
use Rattle.logic.proofs.quantified.exists_at.Goals as goal

pub tag_at-tag-requires : goal.tag_at-tag-requires
tag_at-tag-requires c = here_placed c.requires

pub returns-then-tag-ne-EXISTS : goal.returns-then-tag-ne-EXISTS
returns-then-tag-ne-EXISTS c = exists_other _ _ _ _ _ c.tag_at-tag.ensures c.if-tag-ne-EXISTS.true

pub overflow_add-a : goal.overflow_add-a
overflow_add-a c = let z = here_few c.requires in omega arith

pub tag_at-body-requires : goal.tag_at-body-requires
tag_at-body-requires c = here_placed (exists_here _ _ _ _ _ c.tag_at-tag.ensures c.if-tag-ne-EXISTS.false c.requires)

pub returns-then-body-eq-LOR : goal.returns-then-body-eq-LOR
returns-then-body-eq-LOR c = out_86 _ _ _ _ _ c.tag_at-tag.ensures _ c.tag_at-body.ensures c.if-tag-ne-EXISTS.false
    c.if-body-eq-LOR.true _ c.each_under.ensures

pub second_of-b-requires : goal.second_of-b-requires
second_of-b-requires c = here_few (exists_here _ _ _ _ _ c.tag_at-tag.ensures c.if-tag-ne-EXISTS.false c.requires)

pub overflow_add-a-then-body-eq-LIMP : goal.overflow_add-a-then-body-eq-LIMP
overflow_add-a-then-body-eq-LIMP c = let z = here_few c.requires in omega arith

pub returns-then-body-eq-LIMP : goal.returns-then-body-eq-LIMP
returns-then-body-eq-LIMP c = out_87 _ _ _ _ _ c.tag_at-tag.ensures _ c.tag_at-body.ensures c.if-tag-ne-EXISTS.false c.if-body-eq-LIMP.true _
    c.second_of-b.ensures _ c.fixed.ensures

pub returns : goal.returns
returns c = exists_none _ _ _ _ _ c.tag_at-tag.ensures _ c.tag_at-body.ensures c.if-tag-ne-EXISTS.false
    c.if-body-eq-LOR.false c.if-body-eq-LIMP.false
