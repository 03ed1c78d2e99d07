use Rattle.running.proofs.SearchTurns.{at_expression, at_decided}
use Rattle.decision.proofs.Shapes.{here_placed}
use Rattle.running.proofs.searching.decide_at.Goals as goal

pub is_expression_at-requires : goal.is_expression_at-requires
is_expression_at-requires c = here_placed c.requires

pub returns-then-is_expression_at : goal.returns-then-is_expression_at
returns-then-is_expression_at c = at_expression _ _ _ c.is_expression_at.ensures c.if-is_expression_at.true _

pub returns : goal.returns
returns c = at_decided _ _ _ c.is_expression_at.ensures c.if-is_expression_at.false _ _ c.decide.ensures
