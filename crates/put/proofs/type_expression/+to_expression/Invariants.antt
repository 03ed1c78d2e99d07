use Prim.Native.Nat.{◌-◌}
use lib.ListN.{length}
use Rattle.put.proofs.type_expression.+to_expression.Given as goal

abbrev pub decreases-to_expression : goal.decreases-to_expression
decreases-to_expression l = length l.types.now - l.at
