use Rattle.std.proofs.Common.{◌≡◌, Err, rules, refl, sym, ◌∙◌}
use Rattle.checking.proofs.Turns.{refused_read}
use Rattle.stepping.proofs.Turns.{step_refused, step_nexts, step_pre}
use Rattle.stepping.proofs.step.Goals as goal

pub returns-in_err-read : goal.returns-in_err-read
returns-in_err-read c =
    let e : c.from_residual.result ≡ Err c.in_err-read.field-0.0 = search rules in
    let z = step_refused c.args.frame.now c.args.place c.args.out.now _ (refused_read _ _ (sym c.in_err-read.was ∙ c.read.ensures)) in
    (e ∙ z.answer, z.output)

pub returns-in_err-nodes : goal.returns-in_err-nodes
returns-in_err-nodes c =
    let e : c.from_residual-in_err-nodes.result ≡ Err c.in_err-nodes.field-0.0 = search rules in
    let z = step_refused c.args.frame.now c.args.place c.args.out.now _ (sym c.in_err-nodes.was ∙ (rw c.new.ensures at c.check_tree.ensures.answer)) in
    (e ∙ z.answer, z.output)

pub nexts-requires : goal.nexts-requires
nexts-requires c = step_nexts _ (λ i. (c.type_inv.frame i).fits) c.in_ok-read.read (sym c.in_ok-read.was ∙ c.read.ensures) _ _ (rw c.new.ensures at c.in_ok-nodes.ensures) _ refl

pub step_held-requires : goal.step_held-requires
step_held-requires c = step_pre _ (λ i. (c.type_inv.frame i).fits) c.in_ok-read.read (sym c.in_ok-read.was ∙ c.read.ensures) _ _ (rw c.new.ensures at c.in_ok-nodes.ensures) _
    c.nexts.ensures _ refl refl refl refl refl
