use Rattle.std.proofs.Common.{ℕ, [], refl, length, arith}
use lib.ListN.{length-replicate}
use Rattle.frame.specs.Trees.{nil, cons}
use Rattle.reading.proofs.FrameTree.{frame_fits, frame_stands}
use Rattle.binding.proofs.BoundRows.{ready_first, whole, answered}
use Rattle.binding.proofs.bound_within.Goals as goal

pub bind_trees-requires : goal.bind_trees-requires
bind_trees-requires g c =
    let f = c.args.frame.now in
    let (t, stands) = frame_stands f in (
      ready_first _ _ _ (frame_fits f) (omega (arith, length-replicate {A = ℕ} g.row.N 0)) (omega arith),
      (cons t nil, [], length f.bytes.now, whole _ f.in_range _ stands, tt),
    )

pub returns : goal.returns
returns g c =
    let f = c.args.frame.now in
    rw c.is_some.ensures (answered _ f.in_range _ _ _ _ _ (frame_stands f) c.bind_trees.ensures _ refl)
