use Rattle.put.proofs.Puts.{puts_then}
use Rattle.put.proofs.type_expression.given_expression.Goals as goal

pub returns : goal.returns
returns c = puts_then _ _ _ _ _ (puts_then _ _ _ _ _ (puts_then _ _ _ _ _ c.put_word.ensures c.put_copy.ensures) c.put_byte.ensures) c.put_copy-2.ensures
