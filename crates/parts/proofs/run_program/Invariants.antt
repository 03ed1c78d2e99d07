use lib.ListN.{take}
use Rattle.programs.specs.Parts.{parts_of}
use Rattle.parts.specs.Holds.{Filled}
use Rattle.parts.proofs.run_program.Given as goal

abbrev pub invariant-loop-part : goal.invariant-loop-part
invariant-loop-part l = Filled (parts_of (take l.part-index l.program)) l.operands l.initial.out l.out
