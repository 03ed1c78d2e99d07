use native.Mathlib.Omega.{arith}
use Rattle.nav.proofs.PlaceTurns.{hop_here, hop_more}
use Rattle.nav.proofs.siblings.ChildrenIterator.next.Goals as goal

pub offset_bounds-self-inside-place : goal.offset_bounds-self-inside-place
offset_bounds-self-inside-place c = let z = hop_here _ _ _ c.self.invariant (omega arith) in omega arith

pub bounds-self-inside-place : goal.bounds-self-inside-place
bounds-self-inside-place c = hop_here _ _ _ c.self.invariant (omega arith)

pub invariant_of-self : goal.invariant_of-self
invariant_of-self c = rw c.from-self-inside.ensures (hop_more _ _ _ c.self.invariant (omega arith)).0
