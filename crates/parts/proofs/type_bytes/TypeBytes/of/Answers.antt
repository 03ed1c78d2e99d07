use Rattle.parts.proofs.MadeTypes.{type_whole}
use Rattle.parts.proofs.type_bytes.TypeBytes.of.Goals as goal

pub invariant_of-result : goal.invariant_of-result
invariant_of-result c = type_whole _ _ c.requires.1

pub returns : goal.returns
returns c = type_whole _ _ c.requires.1
