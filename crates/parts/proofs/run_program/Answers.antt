use Rattle.parts.proofs.Parts.{filled_none, turn_ready, turn_filled}
use Rattle.parts.proofs.run_program.Goals as goal

pub loop-part-init : goal.loop-part-init
loop-part-init c = filled_none _ _

pub put_part-requires : goal.put_part-requires
put_part-requires c = turn_ready _ _ _ c.loop-part-test.true _ c.requires

pub loop-part-preserved : goal.loop-part-preserved
loop-part-preserved c = turn_filled _ _ _ c.loop-part-test.true _ _ _ _ c.loop-part.invariant c.put_part.ensures
