use Prim.Native.Nat.{◌+◌, ◌≤◌}
use lib.ListN.{length}
use Rattle.junction.specs.Junction.{Keyed}
use Rattle.junction.proofs.JunctionTurns.{States}
use Rattle.junction.proofs.absorb.Given as goal

abbrev pub invariant-loop-c : goal.invariant-loop-c
invariant-loop-c l = record {
  states : States l.places.bytes.now l.places.starts.now l.places.nexts.now l.k l.literals.neutral l.literals.determinant l.kept.items l.c-iterator;
  keyed : Keyed l.places.bytes.now l.places.starts.now l.places.nexts.now l.kept.items;
  room : length l.kept.items + length l.c-iterator ≤ 255;
}
