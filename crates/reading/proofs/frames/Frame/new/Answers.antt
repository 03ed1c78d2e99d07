use Rattle.reading.proofs.FrameTree.{tree_frame}
use Rattle.reading.proofs.frames.Frame.new.Goals as goal

pub invariant_of-result : goal.invariant_of-result
invariant_of-result c = record { in_range = λ i. (c.type_inv.bytes i).fits; is_read = tree_frame _ c.requires.0 c.requires.1 }
