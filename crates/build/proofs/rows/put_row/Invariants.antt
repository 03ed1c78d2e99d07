use Rattle.build.proofs.RowTurns.{Rows}
use Rattle.build.proofs.rows.put_row.Given as goal

abbrev pub invariant-loop-c : goal.invariant-loop-c
invariant-loop-c g l = Rows l.places l.k (goal.F-post g l.share) l.fn.out l.out l.c-iterator
