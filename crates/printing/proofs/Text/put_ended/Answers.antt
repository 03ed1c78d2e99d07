-- `printing::Text::put_ended` meets its contract.
use Rattle.program.specs.Text.{ended_text}
use Rattle.printing.proofs.Writes.{adds_then}
use Rattle.printing.proofs.Text.put_ended.Goals as goal

pub returns : goal.returns
unfolding ended_text
returns c =
    let count = adds_then (adds_then c.put_text.ensures c.put_byte.ensures) c.put_decimal.ensures in
    adds_then (adds_then (adds_then count c.put_byte-2.ensures) c.put_frame.ensures) c.put_byte-3.ensures
