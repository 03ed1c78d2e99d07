use Prim.Native.Nat.{◌-◌}
use lib.ListN.{length}
use Rattle.identifiers.proofs.NotingNodes.{Over}
use Rattle.identifiers.proofs.note_nodes.Given as goal

abbrev pub invariant-loop-at : goal.invariant-loop-at
invariant-loop-at l = Over l.bytes l.initial.table l.at l.table

abbrev pub decreases-loop-at : goal.decreases-loop-at
decreases-loop-at l = length l.bytes - l.at
