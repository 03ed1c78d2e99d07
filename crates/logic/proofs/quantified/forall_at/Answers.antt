use native.Mathlib.Omega.{arith}
use Rattle.decision.proofs.Shapes.{here_few, here_placed}
use Rattle.logic.proofs.QuantTurns.{forall_other, forall_here, out_85, forall_none}
use Rattle.logic.proofs.quantified.forall_at.Goals as goal

pub tag_at-tag-requires : goal.tag_at-tag-requires
tag_at-tag-requires c = here_placed c.requires

pub returns-then-tag-ne-FORALL : goal.returns-then-tag-ne-FORALL
returns-then-tag-ne-FORALL c = forall_other _ _ _ _ _ c.tag_at-tag.ensures c.if-tag-ne-FORALL.true

pub overflow_add-a : goal.overflow_add-a
overflow_add-a c = let z = here_few c.requires in omega arith

pub tag_at-body-requires : goal.tag_at-body-requires
tag_at-body-requires c = here_placed (forall_here _ _ _ _ _ c.tag_at-tag.ensures c.if-tag-ne-FORALL.false c.requires)

pub returns-then-body-eq-LAND : goal.returns-then-body-eq-LAND
returns-then-body-eq-LAND c = out_85 _ _ _ _ _ c.tag_at-tag.ensures _ c.tag_at-body.ensures c.if-tag-ne-FORALL.false
    c.if-body-eq-LAND.true _ c.each_under.ensures

pub returns : goal.returns
returns c = forall_none _ _ _ _ _ c.tag_at-tag.ensures _ c.tag_at-body.ensures c.if-tag-ne-FORALL.false c.if-body-eq-LAND.false
