use Prim.Native.Nat.{◌-◌}
use lib.ListN.{length}
use Rattle.reading.proofs.TreesTurns.{Going}
use Rattle.reading.proofs.+read_trees.Given as goal

abbrev pub decreases-read_trees : goal.decreases-read_trees
decreases-read_trees l = length l.s.now - l.at

abbrev pub invariant-loop-n : goal.invariant-loop-n
invariant-loop-n l = Going l.s l.initial.at l.initial.n l.initial.first l.initial.later l.initial.read l.at l.n l.first l.later l.read

abbrev pub decreases-loop-n : goal.decreases-loop-n
decreases-loop-n l = length l.s - l.at
