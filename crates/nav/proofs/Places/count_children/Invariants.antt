use Rattle.nav.proofs.CountTurns.{Counting}
use Rattle.nav.proofs.Places.count_children.Given as goal

abbrev pub invariant-loop-c : goal.invariant-loop-c
invariant-loop-c g l = Counting (goal.F-post g l.passes) l.self l.k l.m l.c-iterator
