use lib.ListN.{drop}
use Rattle.junction.proofs.JunctionTurns.{Scanned}
use Rattle.junction.proofs.is_new.Given as goal

abbrev pub invariant-loop-one : goal.invariant-loop-one
invariant-loop-one l =
    Scanned l.places.bytes.now l.places.starts.now l.places.nexts.now l.kept.items l.child l.new (drop l.one-index l.one-items)
