use Rattle.std.proofs.Common.{arith}
use Rattle.binding.proofs.OpenBinders.{binders_few, opens_start, opens_done, opens_room, opens_first, opens_next}
use Rattle.binding.proofs.open_binders.Goals as goal

pub overflow_add-inside-end : goal.overflow_add-inside-end
overflow_add-inside-end c = omega (arith, binders_few _ _ _ c.requires.3)

pub loop-inside-init : goal.loop-inside-init
loop-inside-init c = opens_start _ _ _ _ _ c.requires.1 c.requires.3

pub bounds-binders-inside : goal.bounds-binders-inside
bounds-binders-inside c =
    let o = c.loop-inside.invariant in
    let r = opens_room o c.loop-inside-test.true in
    omega (arith, o.below, o.size)

pub skip_types-p-requires : goal.skip_types-p-requires
skip_types-p-requires c = opens_first c.loop-inside.invariant c.loop-inside-test.true

pub loop-inside-preserved : goal.loop-inside-preserved
loop-inside-preserved c = opens_next c.loop-inside.invariant c.loop-inside-test.true _ c.skip_types-p.ensures c.requires.2

pub returns : goal.returns
returns c = opens_done c.loop-inside.invariant (omega arith)
