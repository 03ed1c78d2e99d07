use Rattle.running.proofs.SearchTurns.{Searching}
use Rattle.running.proofs.searching.search.Given as goal

abbrev pub invariant-loop-k : goal.invariant-loop-k
invariant-loop-k l = Searching l.places l.k
