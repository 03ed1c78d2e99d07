use mathlib.Core.Path.{sym, ◌∙◌}
use Rattle.parts.proofs.MadeTypes.{type_held, type_stands, expression_power, expression_plain}
use Rattle.parts.proofs.type_bytes.TypeBytes.put_expression.Goals.{then-is_power, else-is_power}
use Rattle.parts.proofs.type_bytes.TypeBytes.put_expression.Goals as goal

pub to_expression-requires : goal.to_expression-requires
to_expression-requires c = type_stands _ _ c.inner-2.invariant

pub returns : goal.returns
returns c = let e = c.is_power.ensures in let v = type_held _ _ c.inner-2.invariant (c.inner-2.view_is ∙ c.inner.ensures) in
    elim c.if-is_power.branch [
      | then-is_power w ↦ expression_power _ _ _ v _ _ _ _ (sym e ∙ w.if-is_power.true) w.put_word.ensures (rw w.out-is at c.to_expression.ensures)
      | else-is_power w ↦ expression_plain _ _ _ v _ _ _ (sym e ∙ w.if-is_power.false) (rw w.out-is at c.to_expression.ensures)
    ]
