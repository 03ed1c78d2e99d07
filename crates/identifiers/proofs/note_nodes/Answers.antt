use Rattle.std.proofs.lemmas.Result.{err_from_is_err_and}
use native.Mathlib.Omega.{arith}
use Rattle.reading.proofs.FrameTree.{frame_fits, frame_stands}
use Rattle.identifiers.proofs.NotingNodes.{over_done, over_stops, over_further, over_next}
use Rattle.identifiers.proofs.TreeNames.{begins, decides}
use Rattle.identifiers.proofs.note_nodes.Goals as goal

pub loop-at-init : goal.loop-at-init
loop-at-init c =
    let f = c.args.frame.now in
    let (t, stands) = frame_stands f in
    begins _ f.in_range _ c.requires (frame_fits f) t stands

pub loop-at-smaller : goal.loop-at-smaller
loop-at-smaller c = omega (arith, over_further _ _ _ _ c.loop-at.invariant c.loop-at-test.true _ _ c.note_node.ensures _ c.in_ok-at.was)

pub loop-at-preserved : goal.loop-at-preserved
loop-at-preserved c = over_next _ _ _ _ c.loop-at.invariant c.loop-at-test.true _ _ c.note_node.ensures _ c.in_ok-at.was

pub returns-in_err-at : goal.returns-in_err-at
returns-in_err-at c = let p = err_from_is_err_and c.from_residual.result c.from_residual.ensures.1 in rw (p.1, p.2)
    (decides _ c.args.frame.now.in_range _ c.requires _ _
    (over_stops _ _ _ _ c.loop-at.invariant c.loop-at-test.true _ _ c.note_node.ensures c.in_err-at.field-0.0 c.in_err-at.was))

pub returns : goal.returns
returns c = decides _ c.args.frame.now.in_range _ c.requires _ _ (over_done _ _ _ _ c.loop-at.invariant (omega arith))
