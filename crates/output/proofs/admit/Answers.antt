use Rattle.std.proofs.Common.{◌≡◌, Err, rules}
use Rattle.output.proofs.OutTurns.{admit_refused, admit_short}
use Rattle.output.proofs.admit.Goals as goal

pub returns-in_err-checked : goal.returns-in_err-checked
returns-in_err-checked c =
    let e : c.from_residual.result ≡ Err c.in_err-checked.field-0.0 = search rules in
    rw e (admit_refused _ _ _ c.in_err-checked.was)

pub returns-then-lent-lt-FRAME_LIMIT : goal.returns-then-lent-lt-FRAME_LIMIT
returns-then-lent-lt-FRAME_LIMIT c = admit_short _ _ _ c.in_ok-checked.was c.if-lent-lt-FRAME_LIMIT.true
