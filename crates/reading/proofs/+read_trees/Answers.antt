-- `reading::read_trees` meets its contract: each goal cites a law of its turn or way out. The recursion's measure and the loop's are the
-- bytes that are left.
use native.Mathlib.Omega.{arith}
use Rattle.reading.proofs.TreesTurns.{going_begins, going_done, turn_refused, turn_room, turn_last, turn_leaf, turn_begins, turn_stop, turn_over}
use Rattle.reading.proofs.+read_trees.Goals as goal

pub loop-n-init : goal.loop-n-init
loop-n-init t c = going_begins _ _ _ _ _ _ c.requires

pub read_head-requires : goal.read_head-requires
read_head-requires t c = c.loop-n.invariant.room.within

pub returns-in_err-head : goal.returns-in_err-head
returns-in_err-head t c = turn_refused c.loop-n.invariant c.loop-n-test.true _ _ c.from_residual.ensures.1 c.in_err-head.ensures.answer

pub push-requires : goal.push-requires
push-requires t c =
    let (y, z) = turn_room c.loop-n.invariant c.loop-n-test.true (λ i. (c.type_inv.s i).fits) c.in_ok-head.head c.in_ok-head.ensures.answer in
    (omega (arith, y.within, y.short, y.room), omega (arith, y.within, y.short, z))

pub loop-n-smaller-then-n-eq0 : goal.loop-n-smaller-then-n-eq0
loop-n-smaller-then-n-eq0 t c =
    let (y, z) = turn_room c.loop-n.invariant c.loop-n-test.true (λ i. (c.type_inv.s i).fits) c.in_ok-head.head c.in_ok-head.ensures.answer in
    omega (arith, y.within, z)

pub loop-n-preserved-then-n-eq0 : goal.loop-n-preserved-then-n-eq0
loop-n-preserved-then-n-eq0 t c = turn_last c.loop-n.invariant c.loop-n-test.true (λ i. (c.type_inv.s i).fits) c.in_ok-head.head c.in_ok-head.ensures.answer
    c.push.ensures c.first-first.ensures c.later-later.ensures c.if-n-eq0.true

pub loop-n-smaller-then-head-eq0 : goal.loop-n-smaller-then-head-eq0
loop-n-smaller-then-head-eq0 t c =
    let (y, z) = turn_room c.loop-n.invariant c.loop-n-test.true (λ i. (c.type_inv.s i).fits) c.in_ok-head.head c.in_ok-head.ensures.answer in
    omega (arith, y.within, z)

pub loop-n-preserved-then-head-eq0 : goal.loop-n-preserved-then-head-eq0
loop-n-preserved-then-head-eq0 t c = turn_leaf c.loop-n.invariant c.loop-n-test.true (λ i. (c.type_inv.s i).fits) c.in_ok-head.head c.in_ok-head.ensures.answer
    c.push.ensures c.if-head-eq0.true

pub read_trees-requires : goal.read_trees-requires
read_trees-requires t c =
    let (y, z) = turn_room c.loop-n.invariant c.loop-n-test.true (λ i. (c.type_inv.s i).fits) c.in_ok-head.head c.in_ok-head.ensures.answer in
    (omega (arith, c.loop-n.invariant.from, y.within, z), turn_begins c.loop-n.invariant c.loop-n-test.true (λ i. (c.type_inv.s i).fits) c.in_ok-head.head c.in_ok-head.ensures.answer c.push.ensures)

pub returns-in_err-at : goal.returns-in_err-at
returns-in_err-at t c = turn_stop c.loop-n.invariant c.loop-n-test.true (λ i. (c.type_inv.s i).fits) c.in_ok-head.head c.in_ok-head.ensures.answer
    c.push.ensures c.first.ensures c.later.ensures c.read_trees.ensures _ _ c.from_residual-in_err-at.ensures.1 c.in_err-at.was

pub loop-n-smaller : goal.loop-n-smaller
loop-n-smaller t c =
    let (y, z) = turn_over c.loop-n.invariant c.loop-n-test.true (λ i. (c.type_inv.s i).fits) c.in_ok-head.head c.in_ok-head.ensures.answer
    c.push.ensures c.first.ensures c.later.ensures c.read_trees.ensures _ c.in_ok-at.was in
    omega (arith, y.room.within, z)

pub loop-n-preserved : goal.loop-n-preserved
loop-n-preserved t c = (turn_over c.loop-n.invariant c.loop-n-test.true (λ i. (c.type_inv.s i).fits) c.in_ok-head.head c.in_ok-head.ensures.answer
    c.push.ensures c.first.ensures c.later.ensures c.read_trees.ensures _ c.in_ok-at.was).0

pub returns : goal.returns
returns t c = going_done c.loop-n.invariant c.loop-n-test.false
