use Rattle.types.proofs.TypeTurns.{RowGoing}
use Rattle.types.proofs.read_types.Given as goal

abbrev pub invariant-loop : goal.invariant-loop
invariant-loop l = RowGoing l.s l.at l.n l.counter l.p
