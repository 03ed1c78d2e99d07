use Rattle.build.proofs.RowTurns.{in_placed, in_few, subtrahend_right, subtrahend_none}
use Rattle.build.proofs.rows.subtrahend_of.Goals as goal

pub tag_at-requires : goal.tag_at-requires
tag_at-requires c = in_placed c.args.places.now _ c.requires

pub second_of-requires : goal.second_of-requires
second_of-requires c = in_few c.args.places.now _ c.requires

pub returns-then-tag_at-eq-SETMINUS : goal.returns-then-tag_at-eq-SETMINUS
returns-then-tag_at-eq-SETMINUS c = subtrahend_right c.args.places.now _ _ c.tag_at.ensures c.if-tag_at-eq-SETMINUS.true _ c.second_of.ensures

pub returns : goal.returns
returns c = subtrahend_none c.args.places.now _ _ c.tag_at.ensures c.if-tag_at-eq-SETMINUS.false
