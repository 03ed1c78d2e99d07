use native.Mathlib.Omega.{arith}
use Rattle.nav.proofs.PlaceTurns.{end_place, end_few, end_inside, end_last}
use Rattle.nav.proofs.Places.end_at.Goals as goal

pub next_at-j-requires : goal.next_at-j-requires
next_at-j-requires c = end_place _ _ _ _ _ c.requires

pub start_at-requires : goal.start_at-requires
start_at-requires c = let z = end_few _ _ _ _ _ c.requires in omega arith

pub returns-then-j-self : goal.returns-then-j-self
returns-then-j-self c = rw (c.start_at.ensures.0, c.next_at-j.ensures.0) (end_inside _ _ _ _ _ (omega arith))

pub returns : goal.returns
returns c = end_last _ _ _ _ _ (omega arith)
