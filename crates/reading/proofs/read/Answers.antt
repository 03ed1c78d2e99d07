-- `reading::read` meets its contract.
use mathlib.Core.Path.{sym, ◌∙◌}
use Rattle.reading.proofs.FrameTurns.{read_empty, read_long, read_refused, read_more, read_whole}
use Rattle.reading.proofs.TreesTurns.{of_row}
use Rattle.reading.proofs.read.Goals.{then-is_empty-via-then-is_empty, then-is_empty-via-else-is_empty+then-frame-gt-FRAME_LIMIT}
use Rattle.reading.proofs.read.Goals as goal

pub returns-then-is_empty : goal.returns-then-is_empty
returns-then-is_empty c = elim c.then-is_empty.branch [
  | then-is_empty-via-then-is_empty w ↦ read_empty _ (sym c.is_empty.ensures ∙ w.if-is_empty.true)
  | then-is_empty-via-else-is_empty+then-frame-gt-FRAME_LIMIT w ↦ read_long _ w.if-frame-gt-FRAME_LIMIT.true
]

pub returns-in_err-end : goal.returns-in_err-end
returns-in_err-end c = read_refused _ (sym c.is_empty.ensures ∙ c.if-is_empty.false) c.if-frame-gt-FRAME_LIMIT.false _ _ _ _ c.from_residual.ensures.1 (of_row _ _ _ _ _ _ c.in_err-end.ensures)

pub returns-then-end-frame : goal.returns-then-end-frame
returns-then-end-frame c = read_more _ (sym c.is_empty.ensures ∙ c.if-is_empty.false) c.if-frame-gt-FRAME_LIMIT.false _ _ _ (of_row _ _ _ _ _ _ c.in_ok-end.ensures) c.if-end-frame.true

pub returns : goal.returns
returns c = read_whole _ (sym c.is_empty.ensures ∙ c.if-is_empty.false) c.if-frame-gt-FRAME_LIMIT.false _ _ _ (of_row _ _ _ _ _ _ c.in_ok-end.ensures) (λ i. (c.type_inv.frame i).fits)
    c.if-end-frame.false c.new-read.ensures
