use mathlib.Core.Path.{refl}
use Rattle.rewriter.proofs.OwnTurns.{name_read, name_done}
use native.Mathlib.Omega.{arith}
use Rattle.rewriter.proofs.equals.own_type.is_given_at.Goals as goal

pub start_at-at-requires : goal.start_at-at-requires
start_at-at-requires c = (name_read _ _ _ _ refl c.requires).0

pub number-n-requires : goal.number-n-requires
number-n-requires c = let z = name_read _ _ _ _ c.start_at-at.ensures.0 c.requires in (omega arith, omega arith)

pub is_power-requires : goal.is_power-requires
is_power-requires c = let z = name_read _ _ _ _ c.start_at-at.ensures.0 c.requires in
    (z.1, z.2, rw c.number-n.ensures z.3)

pub returns : goal.returns
returns c = name_done _ _ _ _ c.start_at-at.ensures.0 _ c.number-n.ensures _ c.is_power.ensures
