use Rattle.heads.proofs.KnownTurns.{stand_room, skip_begins, skip_goes, skip_further, skip_lead, skip_done}
use native.Mathlib.Omega.{arith}
use Rattle.heads.proofs.skip_types.Goals as goal

pub loop-left-init : goal.loop-left-init
loop-left-init c = skip_begins _ _ _ c.requires

pub bounds-s-p : goal.bounds-s-p
bounds-s-p c = omega (arith, stand_room _ _ _ c.loop-left.invariant.stands)

pub overflow_add-p : goal.overflow_add-p
overflow_add-p c = let f = skip_lead _ _ _ _ _ c.loop-left.invariant c.loop-left-test.true _
    c.type_bytes-p.ensures in omega arith

pub overflow_add-left : goal.overflow_add-left
overflow_add-left c = let f = skip_further _ _ _ _ _ c.loop-left.invariant c.loop-left-test.true _ _ c.type_bytes-p.ensures
    c.type_parts.ensures in omega arith

pub loop-left-smaller : goal.loop-left-smaller
loop-left-smaller c = let f = skip_lead _ _ _ _ _ c.loop-left.invariant c.loop-left-test.true _ c.type_bytes-p.ensures in omega arith

pub loop-left-preserved : goal.loop-left-preserved
loop-left-preserved c = skip_goes _ _ _ _ _ c.loop-left.invariant c.loop-left-test.true _ _ c.type_bytes-p.ensures c.type_parts.ensures

pub returns : goal.returns
returns c = skip_done _ _ _ _ _ c.loop-left.invariant c.loop-left-test.false
