use Rattle.build.proofs.RowTurns.{row_tree, row_first, row_child, row_taken, row_passed, row_place, row_end}
use Rattle.build.proofs.rows.put_row.Goals as goal

pub children-c-items-requires : goal.children-c-items-requires
children-c-items-requires g c = row_tree c.args.places.now _ c.requires.node

pub loop-c-init : goal.loop-c-init
loop-c-init g c = rw c.into_iter-c-iterator.ensures.into_iter_gives (row_first c.args.places.now _ _ _ _ c.children-c-items.ensures)

pub share-requires : goal.share-requires
share-requires g c = c.requires.callable _ (row_child c.args.places.now _ _ _ (c.loop-c.invariant c.requires.shares.0 c.requires.shares.1) _ _ c.in-Some.ensures.steps c.requires.node)

pub copy_at-requires : goal.copy_at-requires
copy_at-requires g c = row_place c.args.places.now _ c.requires.shares c.in-Some.c (row_child c.args.places.now _ _ _ (c.loop-c.invariant c.requires.shares.0 c.requires.shares.1) _ _ c.in-Some.ensures.steps c.requires.node) _ c.in-Some-share.ensures

pub loop-c-preserved-in-Some-share : goal.loop-c-preserved-in-Some-share
loop-c-preserved-in-Some-share g c =
    row_taken c.args.places.now _ _ _ _ _ c.loop-c.invariant c.requires.node _ _ c.in-Some.ensures.steps _ c.in-Some-share.ensures _ c.copy_at.ensures

pub loop-c-preserved : goal.loop-c-preserved
loop-c-preserved g c = row_passed c.args.places.now _ _ _ _ _ c.loop-c.invariant c.requires.node _ _ c.in-Some.ensures.steps c.in_default.ensures

pub returns : goal.returns
returns g c = row_end c.args.places.now _ _ _ _ _ c.loop-c.invariant c.in-None.ensures.steps.0
