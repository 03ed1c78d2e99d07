use Rattle.decision.proofs.TwoPlaces.{both_placed, turned, two_few}
use Rattle.logic.proofs.LogicTurns.{out_75, out_76, out_77, out_78, out_79, out_80, out_81, eqv_none}
use Rattle.decision.proofs.Shapes.{first_placed, second_placed}
use Rattle.logic.proofs.equivalence_at.Goals as goal

pub tag_at-left-requires : goal.tag_at-left-requires
tag_at-left-requires c = first_placed c.requires

pub tag_at-right-requires : goal.tag_at-right-requires
tag_at-right-requires c = second_placed c.requires

pub returns-then-right-eq-BTRUE : goal.returns-then-right-eq-BTRUE
returns-then-right-eq-BTRUE c = out_75 _ _ _ _ _ _ _ c.tag_at-left.ensures c.tag_at-right.ensures c.if-right-eq-BTRUE.true _ c.fixed.ensures

pub returns-then-left-eq-BTRUE : goal.returns-then-left-eq-BTRUE
returns-then-left-eq-BTRUE c = out_76 _ _ _ _ _ _ _ c.tag_at-left.ensures c.tag_at-right.ensures c.if-right-eq-BTRUE.false
    c.if-left-eq-BTRUE.true _ c.fixed-then-left-eq-BTRUE.ensures

pub same_at-requires : goal.same_at-requires
same_at-requires c = both_placed c.requires

pub returns-then-same_at : goal.returns-then-same_at
returns-then-same_at c = out_77 _ _ _ _ _ _ _ c.tag_at-left.ensures c.tag_at-right.ensures c.if-right-eq-BTRUE.false c.if-left-eq-BTRUE.false _
    c.same_at.ensures c.if-same_at.true _ c.fixed-then-same_at.ensures

pub make_neg-requires : goal.make_neg-requires
make_neg-requires c = (two_few c.requires).0

pub returns-then-right-eq-BFALSE : goal.returns-then-right-eq-BFALSE
returns-then-right-eq-BFALSE c = out_78 _ _ _ _ _ _ _ c.tag_at-left.ensures c.tag_at-right.ensures c.if-right-eq-BTRUE.false c.if-left-eq-BTRUE.false _ c.same_at.ensures
    c.if-same_at.false c.if-right-eq-BFALSE.true _ c.make_neg.ensures

pub make_neg-requires-then-left-eq-BFALSE : goal.make_neg-requires-then-left-eq-BFALSE
make_neg-requires-then-left-eq-BFALSE c = (two_few c.requires).1

pub returns-then-left-eq-BFALSE : goal.returns-then-left-eq-BFALSE
returns-then-left-eq-BFALSE c = out_79 _ _ _ _ _ _ _ c.tag_at-left.ensures c.tag_at-right.ensures c.if-right-eq-BTRUE.false c.if-left-eq-BTRUE.false _ c.same_at.ensures
    c.if-same_at.false c.if-right-eq-BFALSE.false c.if-left-eq-BFALSE.true _ c.make_neg-then-left-eq-BFALSE.ensures

pub negates-requires : goal.negates-requires
negates-requires c = both_placed (turned c.requires)

pub returns-then-negates : goal.returns-then-negates
returns-then-negates c = out_80 _ _ _ _ _ _ _ c.tag_at-left.ensures c.tag_at-right.ensures c.if-right-eq-BTRUE.false c.if-left-eq-BTRUE.false _ c.same_at.ensures
    c.if-same_at.false c.if-right-eq-BFALSE.false c.if-left-eq-BFALSE.false _ c.negates.ensures
    c.if-negates.true _ c.fixed-then-negates.ensures

pub negates-requires-2 : goal.negates-requires-2
negates-requires-2 c = both_placed c.requires

pub returns-then-negates-2 : goal.returns-then-negates-2
returns-then-negates-2 c = out_81 _ _ _ _ _ _ _ c.tag_at-left.ensures c.tag_at-right.ensures c.if-right-eq-BTRUE.false c.if-left-eq-BTRUE.false _ c.same_at.ensures
    c.if-same_at.false c.if-right-eq-BFALSE.false c.if-left-eq-BFALSE.false _ c.negates.ensures c.if-negates.false _ c.negates-2.ensures
    c.if-negates-2.true _ c.fixed-then-negates-2.ensures

pub returns : goal.returns
returns c = eqv_none _ _ _ _ _ _ _ c.tag_at-left.ensures c.tag_at-right.ensures c.if-right-eq-BTRUE.false c.if-left-eq-BTRUE.false _ c.same_at.ensures
    c.if-same_at.false c.if-right-eq-BFALSE.false c.if-left-eq-BFALSE.false _ c.negates.ensures c.if-negates.false _
    c.negates-2.ensures c.if-negates-2.false
