-- `printing::Text::put_refused` meets its contract.
use Rattle.program.specs.Text.{refused_text}
use Rattle.printing.proofs.Writes.{adds_then}
use Rattle.printing.proofs.Text.put_refused.Goals as goal

pub returns : goal.returns
unfolding refused_text
returns c = adds_then (adds_then (adds_then c.put_text.ensures c.put_byte.ensures) (rw c.from.ensures at c.put_decimal.ensures)) c.put_byte-2.ensures
