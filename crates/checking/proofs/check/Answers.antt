use Rattle.std.proofs.Common.{◌≡◌, Err, rules, sym, ◌∙◌}
use Rattle.checking.proofs.Turns.{refused_read}
use Rattle.checking.proofs.check.Goals as goal

pub returns-in_err-read : goal.returns-in_err-read
returns-in_err-read c =
    let e : c.from_residual.result ≡ Err c.in_err-read.field-0.0 = search rules in
    e ∙ refused_read _ _ (sym c.in_err-read.was ∙ c.read.ensures)
