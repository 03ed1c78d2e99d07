use Rattle.std.proofs.Common.{◌≡◌, Err, ap, ◌∙◌, option_copied, arith}
use Rattle.std.specs.Result.{result_ok}
use Rattle.frame.specs.declared.refusals.Refusal.TheVariants.{NoRoom}
use Rattle.output.proofs.OutTurns.{out_over, out_short, out_written}
use Rattle.output.proofs.write_out.Goals as goal

pub returns-in_err-frame : goal.returns-in_err-frame
returns-in_err-frame c =
    let n = c.ok_or.ensures.ok_part ∙ ap result_ok c.in_err-frame.was in
    let e : c.from_residual.result ≡ Err NoRoom = grind (arith, n, c.ok_or.ensures.value, c.in_err-frame.was) in
    rw e (out_over _ _ (ap option_copied n))

pub returns-then-out-length : goal.returns-then-out-length
returns-then-out-length c =
    out_short _ _ _ (ap option_copied (c.ok_or.ensures.ok_part ∙ ap result_ok c.in_ok-frame.was)) c.if-out-length.true

pub returns : goal.returns
returns c =
    out_written _ _ _ (ap option_copied (c.ok_or.ensures.ok_part ∙ ap result_ok c.in_ok-frame.was)) c.if-out-length.false _ (rw c.copy_from_slice.ensures.after)
