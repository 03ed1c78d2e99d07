use mathlib.Core.Path.{refl}
use native.Mathlib.Omega.{arith}
use Rattle.nav.specs.PlaceTables.{ChildrenOf}
use Rattle.nav.proofs.ChildPlaces.{tree_few}
use Rattle.functional.proofs.RowTurns.{children_first, children_next, children_below, naming_first, naming_next, named_own, naming_end}
use Rattle.functional.proofs.+named_at.Goals as goal

pub returns-then-not-goes_on : goal.returns-then-not-goes_on
returns-then-not-goes_on g t c = named_own _ _ _ _ _ _ _ _ c.own_at-own.ensures _ c.tag_at.ensures _ c.goes_on.ensures c.if-not-goes_on.true

pub overflow_add-inner : goal.overflow_add-inner
overflow_add-inner g t c = let z = tree_few _ _ _ _ c.requires.tree in let y = c.requires.between in let x = c.binders_at.ensures.1 in omega arith

pub loop-c-init : goal.loop-c-init
loop-c-init g t c =
    let p = c.args.places.now in
    let z : ChildrenOf p.bytes.now p.starts.now p.nexts.now c.args.k c.into_iter-c-iterator.result =
    rw c.into_iter-c-iterator.ensures.into_iter_gives c.children-c-items.ensures in
    record { behind = children_first _ _ _ _ _ z; naming = naming_first _ _ _ _ _ _ _ _ _ z }

pub named_at-named-requires : goal.named_at-named-requires
named_at-named-requires g t c κs within =
    let b = children_below _ _ _ _ _ c.loop-c.invariant.behind _ _ c.in-Some.ensures.steps c.requires.tree in
    let y = c.requires.between in
    let x = c.binders_at.ensures.1 in
    let m = c.decreases in
    (omega arith, (within, (c.requires.callable, (b.0, (omega (arith, b.1), c.requires.few)))))

pub loop-c-preserved : goal.loop-c-preserved
loop-c-preserved g t c =
    let i = c.loop-c.invariant in
    let e = c.in-Some.ensures.steps in
    record {
      behind = children_next _ _ _ _ _ i.behind _ _ e;
      naming = naming_next _ _ _ _ _ _ _ _ _ _ i.naming _ _ e _ c.named_at-named.ensures;
    }

pub returns : goal.returns
returns g t c = naming_end _ _ _ _ _ _ _ _ c.own_at-own.ensures _ c.tag_at.ensures _ c.goes_on.ensures c.if-not-goes_on.false _ c.binders_at.ensures.0 _
    refl _ _ c.loop-c.invariant.naming c.in-None.ensures.steps.0
