use native.Mathlib.Omega.{arith}
use lib.Seq.{length-take-le}
use Rattle.filling.proofs.Types.{type_of_few, type_of_pre, work_kept, type_room, type_found, type_some, fits}
use Rattle.filling.proofs.type_with.Goals as goal

pub start_at-requires : goal.start_at-requires
start_at-requires c = type_of_few _ _ c.requires.0

pub type_tree-requires : goal.type_tree-requires
type_tree-requires c = type_of_pre _ _ c.requires.0 _ c.start_at.ensures.0 _ c.requires.1

pub unwrap-m-requires : goal.unwrap-m-requires
unwrap-m-requires c = type_some _ _ c.requires.0 _ c.start_at.ensures.0 _ (work_kept _ _ _ _ (omega arith) c.requires.1) _ c.type_tree.ensures

pub slice_bounds-try_from-end : goal.slice_bounds-try_from-end
slice_bounds-try_from-end c = (type_room _ _ c.requires.0 _ c.start_at.ensures.0 _ (work_kept _ _ _ _ (omega arith) c.requires.1) _ c.type_tree.ensures _ c.unwrap-m.ensures).0

pub slice_bounds-try_from-end-2 : goal.slice_bounds-try_from-end-2
slice_bounds-try_from-end-2 c =
    let z = type_room _ _ c.requires.0 _ c.start_at.ensures.0 _ (work_kept _ _ _ _ (omega arith) c.requires.1) _ c.type_tree.ensures _ c.unwrap-m.ensures in
    omega (arith, length-take-le _ _ z.0)

pub unwrap-requires : goal.unwrap-requires
unwrap-requires c =
    let z = type_room _ _ c.requires.0 _ c.start_at.ensures.0 _ (work_kept _ _ _ _ (omega arith) c.requires.1) _ c.type_tree.ensures _ c.unwrap-m.ensures in
    fits _ _ _ c.try_from.ensures (omega (arith, length-take-le _ _ z.0))

pub returns : goal.returns
returns c = type_found _ _ c.requires.0 _ c.start_at.ensures.0 _ (work_kept _ _ _ _ (omega arith) c.requires.1) _ c.type_tree.ensures _ c.unwrap-m.ensures _
    (rw c.unwrap.ensures at c.try_from.ensures).0
