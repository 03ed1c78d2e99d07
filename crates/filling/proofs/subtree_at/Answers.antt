use native.Mathlib.Omega.{arith}
use Rattle.filling.proofs.Ends.{place_few, subtree_room, subtree_done}
use Rattle.filling.proofs.subtree_at.Goals as goal

pub start_at-requires : goal.start_at-requires
start_at-requires c = (place_few c.args.places.now c.args.k c.requires).0

pub slice_bounds-result-count : goal.slice_bounds-result-count
slice_bounds-result-count c = let z = subtree_room c.args.places.now c.args.k c.requires _ _ c.start_at.ensures.0 c.end_at.ensures in omega arith

pub slice_bounds-result-start : goal.slice_bounds-result-start
slice_bounds-result-start c = let z = subtree_room c.args.places.now c.args.k c.requires _ _ c.start_at.ensures.0 c.end_at.ensures in omega arith

pub slice_bounds-result-end : goal.slice_bounds-result-end
slice_bounds-result-end c = let z = subtree_room c.args.places.now c.args.k c.requires _ _ c.start_at.ensures.0 c.end_at.ensures in omega arith

pub returns : goal.returns
returns c = subtree_done c.args.places.now c.args.k _ _ c.start_at.ensures.0 c.end_at.ensures
