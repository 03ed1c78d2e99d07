use mathlib.Core.Path.{refl, ap}
use mathlib.Core.List.{List}
use lib.ListN.{length}
use native.Mathlib.Omega.{arith}
use Rattle.nav.specs.PlaceTables.{ChildrenOf}
use Rattle.nav.proofs.ChildPlaces.{tree_few}
use Rattle.decision.specs.declared.kept.KeptChild.{KeptChild}
use Rattle.decision.proofs.Shapes.{tree_placed}
use Rattle.junction.proofs.JunctionTurns.{pre_tree, children_few, states_first, turn_here, turn_new, turn_decides, turn_drops, turn_keeps, turn_end, says_determinant, says_neutral, says_pending, one_less, keyed_more}
use Rattle.junction.proofs.absorb.Goals as goal

pub children-c-items-requires : goal.children-c-items-requires
children-c-items-requires c = pre_tree c.requires

pub loop-c-init : goal.loop-c-init
loop-c-init c =
    let p = c.args.places.now in
    let z : ChildrenOf p.bytes.now p.starts.now p.nexts.now c.args.k c.into_iter-c-iterator.result =
    rw c.into_iter-c-iterator.ensures.into_iter_gives c.children-c-items.ensures in
    let e = c.clear.ensures in
    record {
      states = rw e (states_first _ z);
      keyed = rw e tt;
      room = omega (arith, ap (λ (l : List KeptChild). length l) e, children_few c.requires _ z);
    }

pub tag_at-tag-requires : goal.tag_at-tag-requires
tag_at-tag-requires c = tree_placed (turn_here c.loop-c.invariant.states c.in-Some.ensures.steps c.requires)

pub returns-then-tag-literals : goal.returns-then-tag-literals
returns-then-tag-literals c =
    turn_decides c.loop-c.invariant.states c.in-Some.ensures.steps _ (says_determinant c.tag_at-tag.ensures c.if-tag-literals.true)

pub overflow_cast-child : goal.overflow_cast-child
overflow_cast-child c = let z = tree_few _ _ _ _ (turn_here c.loop-c.invariant.states c.in-Some.ensures.steps c.requires) in omega arith

pub key_at-requires : goal.key_at-requires
key_at-requires c = turn_here c.loop-c.invariant.states c.in-Some.ensures.steps c.requires

pub is_new-requires : goal.is_new-requires
is_new-requires c =
    let i = c.loop-c.invariant in
    turn_new i.states c.in-Some.ensures.steps c.requires (record { place = c.in-Some.c; key = c.key_at.result }) refl (c.key_at.ensures, i.keyed)

pub returns-in_err-is_new : goal.returns-in_err-is_new
returns-in_err-is_new c =
    let a = c.in_err-is_new.was in
    let p = rw a at c.is_new.ensures in
    rw c.from_residual.ensures
    (turn_decides c.loop-c.invariant.states c.in-Some.ensures.steps _
    (λ d. says_pending c.tag_at-tag.ensures c.if-tag-literals.false c.if-tag-literals-2.true (record { place = c.in-Some.c; key = c.key_at.result }) refl p))

pub loop-c-preserved-then-branch : goal.loop-c-preserved-then-branch
loop-c-preserved-then-branch c =
    let i = c.loop-c.invariant in
    let a = c.in_ok-is_new.was in
    let p = rw a at c.is_new.ensures in
    let e = c.in-Some.ensures.steps in
    let one : KeptChild = record { place = c.in-Some.c; key = c.key_at.result } in
    let says = says_pending c.tag_at-tag.ensures c.if-tag-literals.false c.if-tag-literals-2.true one refl p in
    let n = c.push.ensures in
    record {
      states = rw n.items (turn_keeps i.states e (rw c.if-branch.true at says) one refl);
      keyed = rw n.items (keyed_more _ one i.keyed c.key_at.ensures);
      room = omega (arith, i.room, one_less e, n.len);
    }

pub loop-c-preserved-else-branch : goal.loop-c-preserved-else-branch
loop-c-preserved-else-branch c =
    let i = c.loop-c.invariant in
    let a = c.in_ok-is_new.was in
    let p = rw a at c.is_new.ensures in
    let e = c.in-Some.ensures.steps in
    let one : KeptChild = record { place = c.in-Some.c; key = c.key_at.result } in
    let says = says_pending c.tag_at-tag.ensures c.if-tag-literals.false c.if-tag-literals-2.true one refl p in
    record { states = turn_drops i.states e (rw c.if-branch.false at says); keyed = i.keyed; room = omega (arith, i.room, one_less e) }

pub loop-c-preserved : goal.loop-c-preserved
loop-c-preserved c =
    let i = c.loop-c.invariant in
    let e = c.in-Some.ensures.steps in
    record {
      states = turn_drops i.states e (says_neutral c.tag_at-tag.ensures c.if-tag-literals-2.false);
      keyed = i.keyed;
      room = omega (arith, i.room, one_less e);
    }

pub returns : goal.returns
returns c = turn_end c.loop-c.invariant.states c.in-None.ensures.steps.0
