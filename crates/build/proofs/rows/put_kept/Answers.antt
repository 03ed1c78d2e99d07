use Rattle.build.proofs.RowTurns.{kept_all, kept_step, kept_child, kept_next, kept_end, kept_rest}
use Rattle.build.proofs.rows.put_kept.Goals as goal

pub loop-child-init : goal.loop-child-init
loop-child-init c = kept_all c.args.places.now _ _ _ c.as_slice-child-items.ensures.value

pub copy_at-requires : goal.copy_at-requires
copy_at-requires c = rw c.from.ensures
    (kept_child c.args.places.now _ _ _ _ _ (kept_step c.args.places.now _ _ _ _ _ c.loop-child-test.true c.loop-child.invariant) c.requires)

pub loop-child-preserved : goal.loop-child-preserved
loop-child-preserved c =
    kept_next c.args.places.now _ _ _ _ _ (kept_step c.args.places.now _ _ _ _ _ c.loop-child-test.true c.loop-child.invariant) _
    (rw c.from.ensures at c.copy_at.ensures)

pub returns : goal.returns
returns c = kept_end c.args.places.now _ _ _ (kept_rest c.args.places.now _ _ _ _ _ c.loop-child-test.false c.loop-child.invariant)
