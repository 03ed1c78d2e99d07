use Rattle.nav.proofs.PlaceTurns.{Filled}
use Rattle.nav.proofs.nexts.Given as goal

abbrev pub invariant-loop-k : goal.invariant-loop-k
invariant-loop-k l = Filled l.s l.n l.starts l.k l.table
