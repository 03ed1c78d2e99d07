use Rattle.build.proofs.RowTurns.{copied}
use Rattle.build.proofs.rows.copy_at.Goals as goal

pub returns : goal.returns
returns c = copied c.args.places.now _ _ c.subtree_at.ensures _ _ c.put_copy.ensures
