use mathlib.Core.Path.{sym}
use native.Mathlib.Omega.{arith}
use lib.Seq.{length-take-le}
use Rattle.put.proofs.Puts.{puts_as, between_back}
use Rattle.build.proofs.SpliceTurns.{splice_few, splice_in_lem, splice_range, splice_build, splice_done}
use Rattle.build.proofs.splicing.splice.Goals as goal

pub start_at-from-requires : goal.start_at-from-requires
start_at-from-requires c = splice_few c.args.places.now _ _ _ c.requires

pub end_at-to-requires : goal.end_at-to-requires
end_at-to-requires c = splice_in_lem c.args.places.now _ _ _ c.requires

pub build-requires : goal.build-requires
build-requires c = splice_build c.args.places.now _ _ _ c.requires

pub slice_bounds-put_copy-end : goal.slice_bounds-put_copy-end
slice_bounds-put_copy-end c = sym (length-take-le _ _ (splice_range c.args.places.now _ _ _ c.requires _ c.start_at-from.ensures.0 _ c.end_at-to.ensures).0)

pub slice_bounds-put_copy-count : goal.slice_bounds-put_copy-count
slice_bounds-put_copy-count c = let z = splice_range c.args.places.now _ _ _ c.requires _ c.start_at-from.ensures.0 _ c.end_at-to.ensures in omega arith

pub slice_bounds-put_copy-start : goal.slice_bounds-put_copy-start
slice_bounds-put_copy-start c = let z = splice_range c.args.places.now _ _ _ c.requires _ c.start_at-from.ensures.0 _ c.end_at-to.ensures in omega arith

pub returns : goal.returns
returns c = splice_done c.args.places.now _ _ _ c.requires _ c.start_at-from.ensures.0 _ c.end_at-to.ensures _ (rw c.clear.ensures at c.put_copy.ensures) _ c.build.ensures _
    (puts_as _ _ _ _ (between_back c.args.places.now.bytes.now c.end_at-to.result) c.put_copy-2.ensures)
