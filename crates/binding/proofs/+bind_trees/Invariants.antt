use Rattle.std.proofs.Common.{◌-◌, length}
use Rattle.binding.proofs.BoundRows.{Going}
use Rattle.binding.proofs.+bind_trees.Given as goal

abbrev pub decreases-bind_trees : goal.decreases-bind_trees
decreases-bind_trees l = length l.s.now - l.p

abbrev pub invariant-loop-left : goal.invariant-loop-left
invariant-loop-left l = Going l.s l.initial.p l.initial.left l.depth l.initial.j l.initial.binders l.initial.leaves l.p l.left l.j l.binders l.leaves

abbrev pub decreases-loop-left : goal.decreases-loop-left
decreases-loop-left l = length l.s - l.p
