use Rattle.std.proofs.Common.{◌+◌, ◌-◌, ◌*◌, length}
use Rattle.sameness.proofs.SameTurns.{Going}
use Rattle.sameness.proofs.+same_expr_same_kids_same_pred.Given as goal

abbrev pub decreases-same_expr : goal.decreases-same_expr
decreases-same_expr l = 2 * (length l.s.now - l.a)

abbrev pub decreases-same_kids : goal.decreases-same_kids
decreases-same_kids l = 2 * (length l.s.now - l.alike.left) + 1

abbrev pub decreases-same_pred : goal.decreases-same_pred
decreases-same_pred l = 2 * (length l.s.now - l.a)

abbrev pub invariant-same_kids-loop : goal.invariant-same_kids-loop
invariant-same_kids-loop l = Going l.s l.alike l.p l.q l.counter l.sort
