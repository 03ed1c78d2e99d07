use Rattle.std.proofs.Common.{rules}
use Rattle.decision.proofs.Shapes.{second_placed}
use Rattle.predicates.proofs.FiniteTurns.{restricted_12}
use Rattle.predicates.proofs.finite.finite_restricted_at.Goals as goal

pub tag_at-tag-requires : goal.tag_at-tag-requires
tag_at-tag-requires c = second_placed c.requires

pub returns-in-412 : goal.returns-in-412
returns-in-412 c = search (rules, restricted_12)
