use Prim.Native.Nat.{◌-◌}
use lib.ListN.{length}
use Rattle.identifiers.proofs.NotingTypes.{Going}
use Rattle.identifiers.proofs.note_types.Given as goal

abbrev pub invariant-loop-left : goal.invariant-loop-left
invariant-loop-left l = Going l.s l.at l.m l.initial.table l.p l.left l.table

abbrev pub decreases-loop-left : goal.decreases-loop-left
decreases-loop-left l = length l.s - l.p
