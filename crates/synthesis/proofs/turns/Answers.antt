use Rattle.std.proofs.Common.{◌<◌, ◌≤◌, ◌-◌, ◌∙◌, [], length, take, length-set, refl, arith}
use Rattle.synthesis.specs.Turns.{started}
use Rattle.synthesis.proofs.LentStack.{below_long, below_none, pushed, popped}
use Rattle.synthesis.proofs.StepTurns.{start_room, going_start, close_judge, close_fails, close_ends, close_goes, open_space, open_asks, open_fails, open_goes, open_less}
use Rattle.synthesis.proofs.LeavesLeft.{place_by, ahead_from, place_from, some_left, ahead_here, ahead_next, place_next}
use Rattle.synthesis.proofs.turns.Goals as goal

pub judge_types-requires : goal.judge_types-requires
judge_types-requires c = close_judge c.args.root.node c.args.s.now c.args.leaves.now c.args.types.now (started c.args.root c.args.first) c.requires.0 (take c.loop-node.top c.loop-node.stack) c.loop-node.types c.loop-node.node c.loop-node.at (place_by c.args.leaves.now c.loop-node.leaves_left.rest.now) c.loop-node.end c.loop-node.invariant.going

pub returns-in_err-end : goal.returns-in_err-end
returns-in_err-end c = rw c.from_residual.ensures (close_fails c.args.root.node c.args.s.now c.args.leaves.now c.args.types.now (started c.args.root c.args.first) c.requires.0 (take c.loop-node.top c.loop-node.stack) c.loop-node.types c.loop-node.node c.loop-node.at (place_by c.args.leaves.now c.loop-node.leaves_left.rest.now) c.loop-node.end c.loop-node.invariant.going c.if-node-eq0.true c.judge_types.new.types (λ i. (c.type_inv.types i).fits) _ c.from.ensures _ c.judge_types.ensures c.in_err-end.was)

pub returns-then-top-eq0 : goal.returns-then-top-eq0
returns-then-top-eq0 c = close_ends c.args.root.node c.args.s.now c.args.leaves.now c.args.types.now (started c.args.root c.args.first) c.requires.0 (take c.loop-node.top c.loop-node.stack) c.loop-node.types c.loop-node.node c.loop-node.at (place_by c.args.leaves.now c.loop-node.leaves_left.rest.now) c.loop-node.end c.loop-node.invariant.going c.if-node-eq0.true c.judge_types.new.types (λ i. (c.type_inv.types i).fits) _ c.from.ensures _ c.judge_types.ensures _ c.in_ok-end.was (below_none c.loop-node.stack c.loop-node.top c.if-top-eq0.true)

pub push-requires : goal.push-requires
push-requires c =
    let long = below_long c.loop-node.stack c.loop-node.top (omega (arith, c.loop-node.invariant.lent, c.loop-node.invariant.deep)) in
    let space = open_space c.args.root.node c.args.s.now c.args.leaves.now c.args.types.now (started c.args.root c.args.first) c.requires.0 (take c.loop-node.top c.loop-node.stack) c.loop-node.types c.loop-node.node c.loop-node.at (place_by c.args.leaves.now c.loop-node.leaves_left.rest.now) c.loop-node.end c.loop-node.invariant.going (λ i. (c.type_inv.s i).fits) c.if-node-eq0.false in
    omega (arith, long, space.0, c.loop-node.invariant.lent)

pub loop-node-init : goal.loop-node-init
loop-node-init c =
    let e = c.iter-leaves_left.ensures.rest in
    let room = start_room c.args.root.node c.args.s.now c.args.leaves.now c.args.types.now (started c.args.root c.args.first) c.requires.0 in
    let z = place_from _ _ c.args.first (2048 - c.args.first) e (omega (arith, c.told-leaves)) (omega (arith, c.told-leaves)) in
    record {
      ahead = ahead_from _ _ c.args.first (2048 - c.args.first) e (omega (arith, c.told-leaves));
      lent = c.requires.1;
      deep = omega arith;
      going = rw z (going_start c.args.root.node c.args.s.now c.args.leaves.now c.args.types.now (started c.args.root c.args.first) [] refl);
    }

pub loop-node-preserved-then-node-eq0 : goal.loop-node-preserved-then-node-eq0
loop-node-preserved-then-node-eq0 c =
    let low : c.loop-node.top ≤ length c.loop-node.stack = omega (arith, c.loop-node.invariant.lent, c.loop-node.invariant.deep) in
    record {
      ahead = c.loop-node.invariant.ahead;
      lent = rw c.pop-node.ensures.1 c.loop-node.invariant.lent;
      deep = omega (arith, c.loop-node.invariant.deep);
      going = rw (c.pop-node.ensures.0, c.pop-node.ensures.1) (close_goes c.args.root.node c.args.s.now c.args.leaves.now c.args.types.now (started c.args.root c.args.first) c.requires.0 (take c.loop-node.top c.loop-node.stack) c.loop-node.types c.loop-node.node c.loop-node.at (place_by c.args.leaves.now c.loop-node.leaves_left.rest.now) c.loop-node.end c.loop-node.invariant.going c.if-node-eq0.true c.judge_types.new.types (λ i. (c.type_inv.types i).fits) _ c.from.ensures _ c.judge_types.ensures _ c.in_ok-end.was _ _ (popped c.loop-node.stack c.loop-node.top c.if-top-eq0.false low));
    }

pub unwrap-leaf-requires : goal.unwrap-leaf-requires
unwrap-leaf-requires c = some_left c.loop-node.leaves_left c.next.new.self _ c.next.ensures.steps (omega (arith, (open_space c.args.root.node c.args.s.now c.args.leaves.now c.args.types.now (started c.args.root c.args.first) c.requires.0 (take c.loop-node.top c.loop-node.stack) c.loop-node.types c.loop-node.node c.loop-node.at (place_by c.args.leaves.now c.loop-node.leaves_left.rest.now) c.loop-node.end c.loop-node.invariant.going (λ i. (c.type_inv.s i).fits) c.if-node-eq0.false).1))

pub open_node-requires : goal.open_node-requires
open_node-requires c = open_asks c.args.root.node c.args.s.now c.args.leaves.now c.args.types.now (started c.args.root c.args.first) c.requires.0 (take c.loop-node.top c.loop-node.stack) c.loop-node.types c.loop-node.node c.loop-node.at (place_by c.args.leaves.now c.loop-node.leaves_left.rest.now) c.loop-node.end c.loop-node.invariant.going (λ i. (c.type_inv.s i).fits) c.if-node-eq0.false _ (c.from-else-node-eq0.ensures ∙ ahead_here c.args.leaves.now c.loop-node.leaves_left c.next.new.self c.loop-node.invariant.ahead c.next.ensures.steps c.unwrap-leaf.ensures)

pub returns-in_err-child : goal.returns-in_err-child
returns-in_err-child c = rw c.from_residual-in_err-child.ensures (open_fails c.args.root.node c.args.s.now c.args.leaves.now c.args.types.now (started c.args.root c.args.first) c.requires.0 (take c.loop-node.top c.loop-node.stack) c.loop-node.types c.loop-node.node c.loop-node.at (place_by c.args.leaves.now c.loop-node.leaves_left.rest.now) c.loop-node.end c.loop-node.invariant.going (λ i. (c.type_inv.s i).fits) c.if-node-eq0.false _ (c.from-else-node-eq0.ensures ∙ ahead_here c.args.leaves.now c.loop-node.leaves_left c.next.new.self c.loop-node.invariant.ahead c.next.ensures.steps c.unwrap-leaf.ensures) c.open_node.new.types _ c.open_node.ensures c.in_err-child.was)

pub loop-node-smaller : goal.loop-node-smaller
loop-node-smaller c =
    let long = below_long c.loop-node.stack c.loop-node.top (omega (arith, c.loop-node.invariant.lent, c.loop-node.invariant.deep)) in
    let less = open_less c.args.root.node c.args.s.now c.args.leaves.now c.args.types.now (started c.args.root c.args.first) c.requires.0 (take c.loop-node.top c.loop-node.stack) c.loop-node.types c.loop-node.node c.loop-node.at (place_by c.args.leaves.now c.loop-node.leaves_left.rest.now) c.loop-node.end c.loop-node.invariant.going (λ i. (c.type_inv.s i).fits) c.if-node-eq0.false _ (c.from-else-node-eq0.ensures ∙ ahead_here c.args.leaves.now c.loop-node.leaves_left c.next.new.self c.loop-node.invariant.ahead c.next.ensures.steps c.unwrap-leaf.ensures) c.open_node.new.types _ c.open_node.ensures _ c.in_ok-child.was in
    omega (arith, long, less)

pub loop-node-preserved : goal.loop-node-preserved
loop-node-preserved c =
    let a = c.loop-node.invariant.ahead in
    let long = below_long c.loop-node.stack c.loop-node.top (omega (arith, c.loop-node.invariant.lent, c.loop-node.invariant.deep)) in
    let space = open_space c.args.root.node c.args.s.now c.args.leaves.now c.args.types.now (started c.args.root c.args.first) c.requires.0 (take c.loop-node.top c.loop-node.stack) c.loop-node.types c.loop-node.node c.loop-node.at (place_by c.args.leaves.now c.loop-node.leaves_left.rest.now) c.loop-node.end c.loop-node.invariant.going (λ i. (c.type_inv.s i).fits) c.if-node-eq0.false in
    let g = open_goes c.args.root.node c.args.s.now c.args.leaves.now c.args.types.now (started c.args.root c.args.first) c.requires.0 (take c.loop-node.top c.loop-node.stack) c.loop-node.types c.loop-node.node c.loop-node.at (place_by c.args.leaves.now c.loop-node.leaves_left.rest.now) c.loop-node.end c.loop-node.invariant.going (λ i. (c.type_inv.s i).fits) c.if-node-eq0.false _ (c.from-else-node-eq0.ensures ∙ ahead_here c.args.leaves.now c.loop-node.leaves_left c.next.new.self c.loop-node.invariant.ahead c.next.ensures.steps c.unwrap-leaf.ensures) c.open_node.new.types _ c.open_node.ensures _ c.in_ok-child.was in
    let room : c.loop-node.top < length c.loop-node.stack = omega (arith, long, space.0, c.loop-node.invariant.lent) in
    let on = pushed c.loop-node.stack c.loop-node.top c.push.new.stack _ room c.push.ensures in
    record {
      ahead = ahead_next c.args.leaves.now c.loop-node.leaves_left c.next.new.self a c.next.ensures.steps c.unwrap-leaf.ensures;
      lent = rw c.push.ensures (length-set c.loop-node.stack c.loop-node.top _ ∙ c.loop-node.invariant.lent);
      deep = omega (arith, long, space.0);
      going = rw (on, place_next c.args.leaves.now c.loop-node.leaves_left c.next.new.self a c.next.ensures.steps c.unwrap-leaf.ensures) g;
    }
