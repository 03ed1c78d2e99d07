use native.Mathlib.Omega.{arith}
use Rattle.nav.proofs.CountTurns.{count_first, count_child, count_next, count_end}
use Rattle.nav.proofs.Places.count_children.Goals as goal

pub loop-c-init : goal.loop-c-init
loop-c-init g c = rw c.into_iter-c-iterator.ensures.into_iter_gives (count_first _ _ _ c.requires.tree _ c.children-c-items.ensures)

pub passes-requires : goal.passes-requires
passes-requires g c = c.requires.callable _ (count_child _ _ _ _ _ c.loop-c.invariant _ _ c.in-Some.ensures.steps)

pub overflow_add-m : goal.overflow_add-m
overflow_add-m g c =
    let z = count_next _ _ _ _ _ c.loop-c.invariant _ _ c.in-Some.ensures.steps _ c.passes.ensures _ c.from-m.ensures in
    omega (arith, z.few)

pub loop-c-preserved : goal.loop-c-preserved
loop-c-preserved g c = count_next _ _ _ _ _ c.loop-c.invariant _ _ c.in-Some.ensures.steps _ c.passes.ensures _ c.from-m.ensures

pub returns : goal.returns
returns g c = count_end _ _ _ _ _ c.loop-c.invariant c.in-None.ensures.steps.0
