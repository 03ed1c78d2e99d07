use Rattle.std.proofs.Common.{arith}
use Rattle.binding.proofs.BoundRows.{going_done, turn_head, turn, turn_room, left_fits, turn_none, turn_leaf, turn_plain, types_here, call_here, turn_stop, turn_over}
use Rattle.binding.proofs.+bind_trees.Goals as goal

pub known_head-h-requires : goal.known_head-h-requires
known_head-h-requires t c = turn_head c.loop-left.invariant c.loop-left-test.true

pub returns-then-depth-h : goal.returns-then-depth-h
returns-then-depth-h t c = turn_none (turn c.loop-left.invariant c.loop-left-test.true (λ i. (c.type_inv.s i).fits) c.known_head-h.ensures) c.in-BoundIdentifier.is c.if-depth-h.true

pub bounds-leaves-j : goal.bounds-leaves-j
bounds-leaves-j t c = let r = turn_room (turn c.loop-left.invariant c.loop-left-test.true (λ i. (c.type_inv.s i).fits) c.known_head-h.ensures) in omega arith

pub loop-left-smaller-in-BoundIdentifier : goal.loop-left-smaller-in-BoundIdentifier
loop-left-smaller-in-BoundIdentifier t c = let r = turn_room (turn c.loop-left.invariant c.loop-left-test.true (λ i. (c.type_inv.s i).fits) c.known_head-h.ensures) in omega arith

pub loop-left-smaller : goal.loop-left-smaller
loop-left-smaller t c = let r = turn_room (turn c.loop-left.invariant c.loop-left-test.true (λ i. (c.type_inv.s i).fits) c.known_head-h.ensures) in omega arith

pub loop-left-preserved-in-BoundIdentifier : goal.loop-left-preserved-in-BoundIdentifier
loop-left-preserved-in-BoundIdentifier t c = turn_leaf (turn c.loop-left.invariant c.loop-left-test.true (λ i. (c.type_inv.s i).fits) c.known_head-h.ensures) c.in-BoundIdentifier.is (omega arith)

pub open_binders-inside-requires : goal.open_binders-inside-requires
open_binders-inside-requires t c =
    let y = c.loop-left.invariant.ready in
    let u = (turn c.loop-left.invariant c.loop-left-test.true (λ i. (c.type_inv.s i).fits) c.known_head-h.ensures) in
    let r = turn_room u in
    (y.fits, omega (arith, y.opened), y.binders_room, types_here u c.in-QuantifiedPredicate.is _ c.types.ensures)

pub bind_trees-requires : goal.bind_trees-requires
bind_trees-requires t c =
    let f = c.loop-left.invariant.from in
    let u = (turn c.loop-left.invariant c.loop-left-test.true (λ i. (c.type_inv.s i).fits) c.known_head-h.ensures) in
    let r = turn_room u in
    (omega arith, call_here u c.in-QuantifiedPredicate.is _ c.types.ensures _ _ c.open_binders-inside.ensures)

pub returns-in_err-p-in-QuantifiedPredicate : goal.returns-in_err-p-in-QuantifiedPredicate
returns-in_err-p-in-QuantifiedPredicate t c = rw c.from_residual.ensures
    (turn_stop (turn c.loop-left.invariant c.loop-left-test.true (λ i. (c.type_inv.s i).fits) c.known_head-h.ensures) c.in-QuantifiedPredicate.is _ c.types.ensures _ _ c.open_binders-inside.ensures _ _ _ c.bind_trees.ensures c.in_err-p-in-QuantifiedPredicate.was)

pub loop-left-smaller-in-QuantifiedPredicate : goal.loop-left-smaller-in-QuantifiedPredicate
loop-left-smaller-in-QuantifiedPredicate t c =
    let f = turn_over (turn c.loop-left.invariant c.loop-left-test.true (λ i. (c.type_inv.s i).fits) c.known_head-h.ensures) c.in-QuantifiedPredicate.is _ c.types.ensures _ _ c.open_binders-inside.ensures _ _ _ c.bind_trees.ensures _ _ c.in_ok-p-in-QuantifiedPredicate.was in
    omega arith

pub loop-left-preserved-in-QuantifiedPredicate : goal.loop-left-preserved-in-QuantifiedPredicate
loop-left-preserved-in-QuantifiedPredicate t c =
    (turn_over (turn c.loop-left.invariant c.loop-left-test.true (λ i. (c.type_inv.s i).fits) c.known_head-h.ensures) c.in-QuantifiedPredicate.is _ c.types.ensures _ _ c.open_binders-inside.ensures _ _ _ c.bind_trees.ensures _ _ c.in_ok-p-in-QuantifiedPredicate.was).2

pub overflow_add-left : goal.overflow_add-left
overflow_add-left t c = omega (arith, left_fits (turn c.loop-left.invariant c.loop-left-test.true (λ i. (c.type_inv.s i).fits) c.known_head-h.ensures))

pub loop-left-preserved : goal.loop-left-preserved
loop-left-preserved t c = turn_plain (turn c.loop-left.invariant c.loop-left-test.true (λ i. (c.type_inv.s i).fits) c.known_head-h.ensures) c.in_default.not-BoundIdentifier c.in_default.not-QuantifiedPredicate c.in_default.not-QuantifiedExpression

pub returns : goal.returns
returns t c = going_done _ _ _ _ _ _ _ _ _ _ _ _ c.loop-left.invariant (omega arith)
