use Rattle.build.proofs.SubtreeTurns.{FillLefts}
use Rattle.build.proofs.fill_row.Given as goal

abbrev pub invariant-loop-c : goal.invariant-loop-c
invariant-loop-c l = FillLefts l.places l.pattern l.k l.binder l.fn.out l.c-iterator l.out
