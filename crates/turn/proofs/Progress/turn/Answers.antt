use Rattle.std.proofs.Common.{rules, ◌≡◌, sym, ap, ◌∙◌, option_copied, ◌+◌, ◌-◌}
use Rattle.turn.specs.Progress.{At}
use Rattle.turn.proofs.Ways.{turn_rests, turn_spent, turn_full, turn_on}
use Rattle.turn.proofs.Progress.turn.Goals as goal

pub returns-in_default : goal.returns-in_default
returns-in_default c = turn_rests _ _ (ap option_copied c.in_default.is)

pub returns-then-self-eq0 : goal.returns-then-self-eq0
returns-then-self-eq0 c =
    turn_spent _ _ _ (ap option_copied c.in-Some.is) (sym (ap (λ (a : At). a.left) c.self.view_is) ∙ c.if-self-eq0.true)

pub returns-in_default-frame : goal.returns-in_default-frame
returns-in_default-frame c =
    turn_full _ _ _ (ap option_copied c.in-Some.is) (λ e. c.if-self-eq0.false (ap (λ (a : At). a.left) c.self.view_is ∙ e))
    (sym c.in_default-frame.ensures.bytes)

pub returns : goal.returns
returns c =
    let f : c.try_extend_from_slice.new.self.items ≡ c.in-Some-frame.frame.now = search rules in
    turn_on _ c.args.self.now _ (ap option_copied c.in-Some.is) (λ e. c.if-self-eq0.false (ap (λ (a : At). a.left) c.self.view_is ∙ e))
    _ (sym c.in-Some-frame.ensures.bytes) _ f (ap (λ (a : At). a.left - 1) c.self.view_is) (ap (λ (a : At). a.steps + 1) c.self.view_is)
