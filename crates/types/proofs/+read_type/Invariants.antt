use Prim.Native.Nat.{◌-◌}
use Rattle.types.proofs.+read_type.Given as goal

abbrev pub decreases-read_type : goal.decreases-read_type
decreases-read_type l = l.lim - l.at
