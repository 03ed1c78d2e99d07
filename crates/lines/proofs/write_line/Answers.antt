-- `lines::write_line` meets its contract.
use Rattle.std.proofs.Common.{◌+◌, ◌*◌, set, refl, ap, ◌∙◌}
use Rattle.std.proofs.Math.Seq.{take_all}
use lib.Seq.{sets}
use Rattle.frame.specs.Lines.{write_line}
use Rattle.lines.proofs.LineWrites.{write_none, write_more, write_all}
use Rattle.lines.proofs.write_line.Goals as goal

pub returns-then-out-frame : goal.returns-then-out-frame
returns-then-out-frame c = write_none _ _ c.if-out-frame.true

pub loop-i-init : goal.loop-i-init
unfolding write_line
loop-i-init c = (c.if-out-frame.false, refl)

pub loop-i-preserved : goal.loop-i-preserved
loop-i-preserved c = (
  c.loop-i.invariant.0,
  ap (λ l. set (set l (2 * c.loop-i.i) c.digit_for.result) (2 * c.loop-i.i + 1) c.digit_for-in-loop-i.result) c.loop-i.invariant.1
      ∙ write_more c.args.frame.now c.args.out.now c.loop-i.i c.loop-i-test.true _ _ c.digit_for.ensures c.digit_for-in-loop-i.ensures,
)

pub returns : goal.returns
returns c = write_all _ _ _ c.loop-i.invariant.0
    (c.loop-i.invariant.1 ∙ ap (λ s. sets c.args.out.now 0 (write_line s)) (take_all c.loop-i.i c.args.frame.now c.loop-i-test.false))
