use mathlib.Core.Path.{◌∙◌}
use Rattle.parts.proofs.MadeTypes.{type_whole, type_held, type_some, element_bytes, element_none}
use Rattle.parts.proofs.type_bytes.TypeBytes.element.Goals as goal

pub bounds-self-inside-0 : goal.bounds-self-inside-0
bounds-self-inside-0 c = type_some _ _ c.self.invariant

pub invariant_of-result : goal.invariant_of-result
invariant_of-result c = type_whole _ _ (element_bytes _ _ c.self.invariant c.if-self-eq-POWER.true)

pub returns : goal.returns
returns c = c.boolean.ensures ∙ element_none _ _ (type_held _ _ c.self.invariant c.self.view_is) c.if-self-eq-POWER.false
