use Rattle.parts.proofs.Parts.{template_ready}
use Rattle.parts.proofs.fill_template.Goals as goal

pub run_program-requires : goal.run_program-requires
run_program-requires c = template_ready _ _ _ c.requires.0 c.program_of.ensures c.requires.1
