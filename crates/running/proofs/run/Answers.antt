use Rattle.std.proofs.Common.{◌≡◌, Ok, Err, rules, ◌∙◌}
use Rattle.running.proofs.Turns.{run_refused, run_goes}
use Rattle.running.proofs.run.Goals as goal

pub returns-in_err-admit : goal.returns-in_err-admit
returns-in_err-admit c =
    let e : c.from_residual.result ≡ Err c.in_err-admit.field-0.0 = search rules in
    let z = run_refused c.args.frame.now c.args.budget c.args.out.now _ c.check.ensures _ c.admit.ensures _ c.in_err-admit.was in
    (e ∙ z.0, z.1)

pub run_admitted-requires : goal.run_admitted-requires
run_admitted-requires c = run_goes c.args.frame.now c.args.budget c.args.out.now _ c.check.ensures _ c.admit.ensures _ c.in_ok-admit.was

pub returns : goal.returns
returns c = (c.run_admitted.ensures.answer, c.run_admitted.ensures.output)
