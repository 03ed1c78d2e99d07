use Rattle.build.proofs.SubtreeTurns.{joined_one}
use Rattle.build.proofs.put_joined.Goals as goal

pub returns-else-m-ne1 : goal.returns-else-m-ne1
returns-else-m-ne1 c = joined_one _ _ _ c.if-m-ne1.false
