use Prim.Native.Nat.{◌-◌}
use Rattle.functional.proofs.RowTurns.{Behind, Naming}
use Rattle.functional.proofs.+named_at.Given as goal

abbrev pub decreases-named_at : goal.decreases-named_at
decreases-named_at g l = 2048 - l.k

abbrev pub invariant-loop-c : goal.invariant-loop-c
invariant-loop-c g l = record {
  behind : Behind l.places.bytes.now l.places.starts.now l.places.nexts.now l.k l.c-iterator;
  naming : Naming (λ x r. goal.F-post g l.goes_on x r) l.places.bytes.now l.places.starts.now l.places.nexts.now l.k l.n l.own l.inner l.named l.c-iterator;
}
