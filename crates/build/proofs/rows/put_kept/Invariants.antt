use lib.ListN.{drop}
use Rattle.build.proofs.RowTurns.{KeptLefts}
use Rattle.build.proofs.rows.put_kept.Given as goal

abbrev pub invariant-loop-child : goal.invariant-loop-child
invariant-loop-child l = KeptLefts l.places l.kept.items l.fn.out (drop l.child-index l.child-items) l.out
