use Prim.Native.Nat.{◌-◌}
use Rattle.rewriter.proofs.equals.own_type.+own_type_at.Given as goal

abbrev pub decreases-own_type_at : goal.decreases-own_type_at
decreases-own_type_at l = 2048 - l.k
