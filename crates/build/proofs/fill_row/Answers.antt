use Rattle.std.proofs.Common.{None}
use Rattle.build.proofs.SubtreeTurns.{fill_row_tree, fill_row_begins, fill_row_child, fill_row_next, fill_row_end}
use Rattle.build.proofs.fill_row.Goals as goal

pub children-c-items-requires : goal.children-c-items-requires
children-c-items-requires c = fill_row_tree c.args.places.now _ _ _ None c.requires

pub loop-c-init : goal.loop-c-init
loop-c-init c = rw c.into_iter-c-iterator.ensures.into_iter_gives (fill_row_begins c.args.places.now _ _ _ _ _ c.children-c-items.ensures)

pub fill-requires : goal.fill-requires
fill-requires c = fill_row_child c.args.places.now _ _ _ _ _ _ _ c.in-Some.ensures.steps _ c.loop-c.invariant c.requires

pub loop-c-preserved : goal.loop-c-preserved
loop-c-preserved c = fill_row_next c.args.places.now _ _ _ _ _ _ _ c.in-Some.ensures.steps _ c.loop-c.invariant _ c.fill.ensures

pub returns : goal.returns
returns c = fill_row_end c.args.places.now _ _ _ _ _ _ c.in-None.ensures.steps.0 c.loop-c.invariant
