use Rattle.decision.proofs.TwoPlaces.{both_placed, turned}
use Rattle.logic.proofs.ImpTurns.{out_73, out_74, last_none}
use Rattle.logic.proofs.implication.implication_last_at.Goals as goal

pub negates-requires : goal.negates-requires
negates-requires c = both_placed c.requires

pub returns-then-negates : goal.returns-then-negates
returns-then-negates c = out_73 _ _ _ _ _ _ c.negates.ensures c.if-negates.true _ c.fixed.ensures

pub negates-requires-2 : goal.negates-requires-2
negates-requires-2 c = both_placed (turned c.requires)

pub returns-then-negates-2 : goal.returns-then-negates-2
returns-then-negates-2 c = out_74 _ _ _ _ _ _ c.negates.ensures c.if-negates.false _ c.negates-2.ensures
    c.if-negates-2.true _ c.fixed-then-negates-2.ensures

pub returns : goal.returns
returns c = last_none _ _ _ _ _ _ c.negates.ensures c.if-negates.false _ c.negates-2.ensures c.if-negates-2.false
