use Rattle.rewriter.proofs.InterTurns.{inter_apart, inter_within, inter_rests}
use Rattle.rewriter.proofs.inter.decide_inter.Goals as goal

pub returns-in-Some : goal.returns-in-Some
returns-in-Some c = inter_apart _ _ _ _ _ c.in-Some.ensures

pub returns-then-any_minus : goal.returns-then-any_minus
returns-then-any_minus c = inter_within _ _ _ _ c.in_default.ensures _ c.any_minus.ensures c.if-any_minus.true

pub returns : goal.returns
returns c = inter_rests _ _ _ _ c.in_default.ensures _ c.any_minus.ensures c.if-any_minus.false
