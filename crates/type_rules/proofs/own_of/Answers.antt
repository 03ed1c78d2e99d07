use Rattle.std.proofs.Common.{refl, sym, ap, arith}
use Rattle.frame.specs.Tags.{class_of, lookup}
use Rattle.type_rules.specs.CodeRules.{own_at}
use Rattle.type_rules.proofs.TagRules.{at_range}
use Rattle.type_rules.proofs.OwnTags.{none_off}
use Rattle.type_rules.proofs.own_of.Goals as goal

pub returns-in-1 : goal.returns-in-1
unfolding class_of lookup
returns-in-1 c = sym (ap own_at (at_range 1 1 c.args.tag refl (omega arith) (omega arith)))

pub returns-in-3 : goal.returns-in-3
unfolding class_of lookup
returns-in-3 c = sym (ap own_at (at_range 3 3 c.args.tag refl (omega arith) (omega arith)))

pub returns-in-407 : goal.returns-in-407
unfolding class_of lookup
returns-in-407 c = sym (ap own_at (at_range 407 407 c.args.tag refl (omega arith) (omega arith)))

pub returns-in-410 : goal.returns-in-410
unfolding class_of lookup
returns-in-410 c = sym (ap own_at (at_range 410 410 c.args.tag refl (omega arith) (omega arith)))

pub returns-in-411 : goal.returns-in-411
unfolding class_of lookup
returns-in-411 c = sym (ap own_at (at_range 411 411 c.args.tag refl (omega arith) (omega arith)))

pub returns-in-412 : goal.returns-in-412
unfolding class_of lookup
returns-in-412 c = sym (ap own_at (at_range 412 412 c.args.tag refl (omega arith) (omega arith)))

pub returns-in_default : goal.returns-in_default
returns-in_default c =
    sym (none_off c.args.tag (λ e. omega arith) (λ e. omega arith) (λ e. omega arith) (λ e. omega arith) (λ e. omega arith) (λ e. omega arith))
