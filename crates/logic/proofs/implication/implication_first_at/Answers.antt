use native.Mathlib.Omega.{arith}
use Rattle.decision.proofs.Shapes.{first_placed, second_placed}
use Rattle.decision.proofs.TwoPlaces.{both_placed, two_few}
use Rattle.logic.proofs.ImpTurns.{out_66, out_67, out_68, out_69, out_70, first_none}
use Rattle.logic.proofs.implication.implication_first_at.Goals as goal

pub tag_at-left-requires : goal.tag_at-left-requires
tag_at-left-requires c = first_placed c.requires

pub tag_at-right-requires : goal.tag_at-right-requires
tag_at-right-requires c = second_placed c.requires

pub returns-then-left-eq-BTRUE : goal.returns-then-left-eq-BTRUE
returns-then-left-eq-BTRUE c = out_66 _ _ _ _ _ _ _ c.tag_at-left.ensures c.tag_at-right.ensures c.if-left-eq-BTRUE.true _ c.fixed.ensures

pub returns-then-left-eq-BFALSE : goal.returns-then-left-eq-BFALSE
returns-then-left-eq-BFALSE c = out_67 _ _ _ _ _ _ _ c.tag_at-left.ensures c.tag_at-right.ensures c.if-left-eq-BFALSE.true _ c.fixed-then-left-eq-BFALSE.ensures

pub returns-then-right-eq-BTRUE : goal.returns-then-right-eq-BTRUE
returns-then-right-eq-BTRUE c = out_68 _ _ _ _ _ _ _ c.tag_at-left.ensures c.tag_at-right.ensures c.if-left-eq-BTRUE.false (λ e. omega (arith, e))
    c.if-right-eq-BTRUE.true _ c.fixed-then-right-eq-BTRUE.ensures

pub make_neg-requires : goal.make_neg-requires
make_neg-requires c = (two_few c.requires).0

pub returns-then-right-eq-BFALSE : goal.returns-then-right-eq-BFALSE
returns-then-right-eq-BFALSE c = out_69 _ _ _ _ _ _ _ c.tag_at-left.ensures c.tag_at-right.ensures c.if-left-eq-BTRUE.false c.if-left-eq-BFALSE.false
    c.if-right-eq-BFALSE.true _ c.make_neg.ensures

pub same_at-requires : goal.same_at-requires
same_at-requires c = both_placed c.requires

pub returns-then-same_at : goal.returns-then-same_at
returns-then-same_at c = out_70 _ _ _ _ _ _ _ c.tag_at-left.ensures c.tag_at-right.ensures c.if-left-eq-BTRUE.false c.if-left-eq-BFALSE.false c.if-right-eq-BTRUE.false c.if-right-eq-BFALSE.false _
    c.same_at.ensures c.if-same_at.true _ c.fixed-then-same_at.ensures

pub returns : goal.returns
returns c = first_none _ _ _ _ _ _ _ c.tag_at-left.ensures c.tag_at-right.ensures c.if-left-eq-BTRUE.false c.if-left-eq-BFALSE.false c.if-right-eq-BTRUE.false
    c.if-right-eq-BFALSE.false _ c.same_at.ensures c.if-same_at.false
