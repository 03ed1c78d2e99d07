use native.Mathlib.Omega.{arith}
use Rattle.build.proofs.RowTurns.{in_placed, in_few, minuend_left, minuend_whole}
use Rattle.build.proofs.rows.minuend_of.Goals as goal

pub tag_at-requires : goal.tag_at-requires
tag_at-requires c = in_placed c.args.places.now _ c.requires

pub overflow_add-result : goal.overflow_add-result
overflow_add-result c = let z = in_few c.args.places.now _ c.requires in omega arith

pub returns-then-tag_at-eq-SETMINUS : goal.returns-then-tag_at-eq-SETMINUS
returns-then-tag_at-eq-SETMINUS c = minuend_left c.args.places.now _ _ c.tag_at.ensures c.if-tag_at-eq-SETMINUS.true

pub returns : goal.returns
returns c = minuend_whole c.args.places.now _ _ c.tag_at.ensures c.if-tag_at-eq-SETMINUS.false
