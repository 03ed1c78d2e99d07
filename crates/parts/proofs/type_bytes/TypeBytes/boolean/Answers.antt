use Rattle.parts.proofs.MadeTypes.{bool_bytes}
use Rattle.parts.proofs.type_bytes.TypeBytes.boolean.Goals as goal

pub invariant_of-result : goal.invariant_of-result
invariant_of-result c = bool_bytes
