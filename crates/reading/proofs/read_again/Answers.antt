use native.Mathlib.Omega.{arith}
use Rattle.reading.proofs.AgainTurns.{placing_begins, placing_stands, placing_goes, placing_done}
use Rattle.reading.proofs.read_again.Goals as goal

pub loop-at-init : goal.loop-at-init
loop-at-init c = placing_begins c.args.frame.now _ c.new-again.ensures

pub push-requires : goal.push-requires
push-requires c = let w = c.loop-at.invariant.left.room in (omega (arith, w.within, w.short, w.room, c.loop-at-test.true), omega (arith, w.within, w.short))

pub head_end-at-requires : goal.head_end-at-requires
head_end-at-requires c = placing_stands c.args.frame.now _ _ _ c.loop-at.invariant c.loop-at-test.true

pub loop-at-smaller : goal.loop-at-smaller
loop-at-smaller c =
    let g = placing_goes c.args.frame.now _ _ _ c.loop-at.invariant c.loop-at-test.true _ c.push.ensures _ c.head_end-at.ensures in
    omega (arith, g.0, g.1)

pub loop-at-preserved : goal.loop-at-preserved
loop-at-preserved c = (placing_goes c.args.frame.now _ _ _ c.loop-at.invariant c.loop-at-test.true _ c.push.ensures _ c.head_end-at.ensures).2

pub returns : goal.returns
returns c = placing_done c.args.frame.now _ c.new-again.ensures _ _ c.loop-at.invariant c.loop-at-test.false
