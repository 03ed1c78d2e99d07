use Rattle.heads.proofs.KnownTurns.{Skipping}
use lib.ListN.{length}
use Prim.Native.Nat.{◌-◌}
use Rattle.heads.proofs.skip_types.Given as goal

abbrev pub invariant-loop-left : goal.invariant-loop-left
invariant-loop-left l = Skipping l.s l.at l.m l.p l.left

abbrev pub decreases-loop-left : goal.decreases-loop-left
decreases-loop-left l = length l.s - l.p
