use Rattle.binding.proofs.OpenBinders.{Opens}
use Rattle.binding.proofs.open_binders.Given as goal

abbrev pub invariant-loop-inside : goal.invariant-loop-inside
invariant-loop-inside l = Opens l.s l.at l.n l.depth l.initial.binders l.p l.inside l.binders
