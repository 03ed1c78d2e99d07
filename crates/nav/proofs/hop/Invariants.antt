use mathlib.Core.Path.{◌≡◌}
use Prim.Native.Nat.{◌-◌}
use Rattle.nav.specs.PlaceTables.{hops, HopsIn}
use Rattle.nav.proofs.hop.Given as goal

abbrev pub invariant-loop : goal.invariant-loop
invariant-loop l = HopsIn l.nexts (l.m - l.counter) l.d × (hops l.nexts (l.m - l.counter) l.d ≡ hops l.nexts l.m l.c)
