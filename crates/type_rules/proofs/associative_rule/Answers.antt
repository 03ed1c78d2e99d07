use Rattle.std.proofs.Common.{refl, arith, ◌≤◌}
use Rattle.frame.specs.Tags.{class_of, lookup}
use Rattle.type_rules.specs.Patterns.{rule_at}
use Rattle.type_rules.proofs.TagRules.{rule_on}
use Rattle.type_rules.proofs.associative_rule.Goals.{in_default-via-then-tag-lt301, in_default-via-else-tag-lt301+else-tag-lt303}
use Rattle.type_rules.proofs.associative_rule.Goals as goal

pub returns-in-301-to-302 : goal.returns-in-301-to-302
unfolding rule_at class_of lookup
returns-in-301-to-302 c = rule_on 301 302 c.args.tag refl c.uniform-in-301-to-302.ensures (omega arith) (omega arith)

pub returns-in-303 : goal.returns-in-303
unfolding rule_at class_of lookup
returns-in-303 c = rule_on 303 303 c.args.tag refl refl (omega arith) (omega arith)

pub returns-in-304 : goal.returns-in-304
unfolding rule_at class_of lookup
returns-in-304 c = rule_on 304 304 c.args.tag refl refl (omega arith) (omega arith)

pub returns-in-305 : goal.returns-in-305
unfolding rule_at class_of lookup
returns-in-305 c = rule_on 305 305 c.args.tag refl c.uniform.ensures (omega arith) (omega arith)

pub returns-in_default : goal.returns-in_default
unfolding rule_at class_of lookup
returns-in_default c =
    let l : 306 ≤ c.args.tag = elim c.in_default.branch [ in_default-via-then-tag-lt301 w ↦ omega arith | in_default-via-else-tag-lt301+else-tag-lt303 w ↦ omega arith ] in
    rule_on 306 307 c.args.tag refl c.uniform-in_default.ensures l (omega arith)
