use Rattle.std.proofs.Common.{refl, arith, ◌≤◌}
use Rattle.frame.specs.Tags.{class_of, lookup}
use Rattle.type_rules.specs.Patterns.{rule_at}
use Rattle.type_rules.proofs.TagRules.{rule_on, rule_off}
use Rattle.type_rules.proofs.unary_rule.Goals.{in_default-via-then-tag-lt751, in_default-via-else-tag-lt751+else-tag-lt754+else-tag-lt756+then-tag-lt761, in_default-via-else-tag-lt751+else-tag-lt754+else-tag-lt756+else-tag-lt761+else-tag-lt763}
use Rattle.type_rules.proofs.unary_rule.Goals as goal

pub returns-in-751 : goal.returns-in-751
unfolding rule_at class_of lookup
returns-in-751 c = rule_on 751 751 c.args.tag refl c.unary.ensures (omega arith) (omega arith)

pub returns-in-752-to-753 : goal.returns-in-752-to-753
unfolding rule_at class_of lookup
returns-in-752-to-753 c = rule_on 752 753 c.args.tag refl c.unary-in-752-to-753.ensures (omega arith) (omega arith)

pub returns-in-754-to-755 : goal.returns-in-754-to-755
unfolding rule_at class_of lookup
returns-in-754-to-755 c = rule_on 754 755 c.args.tag refl c.unary-in-754-to-755.ensures (omega arith) (omega arith)

pub returns-in-756 : goal.returns-in-756
unfolding rule_at class_of lookup
returns-in-756 c = rule_on 756 756 c.args.tag refl c.unary-in-756.ensures (omega arith) (omega arith)

pub returns-in-757 : goal.returns-in-757
unfolding rule_at class_of lookup
returns-in-757 c = rule_on 757 757 c.args.tag refl c.unary-in-757.ensures (omega arith) (omega arith)

pub returns-in-761-to-762 : goal.returns-in-761-to-762
unfolding rule_at class_of lookup
returns-in-761-to-762 c = rule_on 761 762 c.args.tag refl c.unary-in-761-to-762.ensures (omega arith) (omega arith)

pub returns-in-763 : goal.returns-in-763
unfolding rule_at class_of lookup
returns-in-763 c = rule_on 763 763 c.args.tag refl c.unary-in-763.ensures (omega arith) (omega arith)

pub returns-in-764 : goal.returns-in-764
unfolding rule_at class_of lookup
returns-in-764 c = rule_on 764 764 c.args.tag refl c.unary-in-764.ensures (omega arith) (omega arith)

pub returns-in_default : goal.returns-in_default
unfolding rule_at
returns-in_default c =
    let l : (758 ≤ c.args.tag) × (c.args.tag ≤ 760) = elim c.in_default.branch [ in_default-via-then-tag-lt751 w ↦ (omega arith, omega arith) | in_default-via-else-tag-lt751+else-tag-lt754+else-tag-lt756+then-tag-lt761 w ↦ (omega arith, omega arith) | in_default-via-else-tag-lt751+else-tag-lt754+else-tag-lt756+else-tag-lt761+else-tag-lt763 w ↦ (omega arith, omega arith) ] in
    rule_off 758 760 c.args.tag refl c.constant.ensures l.0 l.1
