use mathlib.Core.Path.{sym, ◌∙◌}
use Rattle.parts.proofs.MadeTypes.{type_held, type_power, type_plain}
use Rattle.parts.proofs.type_bytes.TypeBytes.put.Goals.{then-is_power, else-is_power}
use Rattle.parts.proofs.type_bytes.TypeBytes.put.Goals as goal

pub returns : goal.returns
returns c = let e = c.is_power.ensures in let v = type_held _ _ c.inner-2.invariant (c.inner-2.view_is ∙ c.inner.ensures) in
    elim c.if-is_power.branch [
      | then-is_power w ↦ type_power _ _ _ v _ _ _ (sym e ∙ w.if-is_power.true) w.put_byte.ensures (rw w.out-is at c.put_copy.ensures)
      | else-is_power w ↦ type_plain _ _ _ v _ _ (sym e ∙ w.if-is_power.false) (rw w.out-is at c.put_copy.ensures)
    ]
