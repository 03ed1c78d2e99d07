use Rattle.std.proofs.Common.{refl, arith, ◌≤◌}
use Rattle.frame.specs.Tags.{class_of, lookup}
use Rattle.type_rules.specs.Patterns.{rule_at}
use Rattle.type_rules.proofs.TagRules.{rule_on}
use Rattle.type_rules.proofs.binary_rule.Goals.{in_default-via-then-tag-lt201, in_default-via-else-tag-lt201+else-tag-lt213+else-tag-lt219+else-tag-lt221+else-tag-lt226}
use Rattle.type_rules.proofs.binary_rule.Goals as goal

pub returns-in-201 : goal.returns-in-201
unfolding rule_at class_of lookup
returns-in-201 c = rule_on 201 201 c.args.tag refl c.binary.ensures (omega arith) (omega arith)

pub returns-in-202-to-212 : goal.returns-in-202-to-212
unfolding rule_at class_of lookup
returns-in-202-to-212 c = rule_on 202 212 c.args.tag refl c.binary-in-202-to-212.ensures (omega arith) (omega arith)

pub returns-in-213 : goal.returns-in-213
unfolding rule_at class_of lookup
returns-in-213 c = rule_on 213 213 c.args.tag refl c.binary-in-213.ensures (omega arith) (omega arith)

pub returns-in-214 : goal.returns-in-214
unfolding rule_at class_of lookup
returns-in-214 c = rule_on 214 214 c.args.tag refl c.binary-in-214.ensures (omega arith) (omega arith)

pub returns-in-215 : goal.returns-in-215
unfolding rule_at class_of lookup
returns-in-215 c = rule_on 215 215 c.args.tag refl c.binary-in-215.ensures (omega arith) (omega arith)

pub returns-in-216 : goal.returns-in-216
unfolding rule_at class_of lookup
returns-in-216 c = rule_on 216 216 c.args.tag refl c.binary-in-216.ensures (omega arith) (omega arith)

pub returns-in-217-to-218 : goal.returns-in-217-to-218
unfolding rule_at class_of lookup
returns-in-217-to-218 c = rule_on 217 218 c.args.tag refl c.binary-in-217-to-218.ensures (omega arith) (omega arith)

pub returns-in-219-to-220 : goal.returns-in-219-to-220
unfolding rule_at class_of lookup
returns-in-219-to-220 c = rule_on 219 220 c.args.tag refl c.binary-in-219-to-220.ensures (omega arith) (omega arith)

pub returns-in-221 : goal.returns-in-221
unfolding rule_at class_of lookup
returns-in-221 c = rule_on 221 221 c.args.tag refl c.binary-in-221.ensures (omega arith) (omega arith)

pub returns-in-222-to-225 : goal.returns-in-222-to-225
unfolding rule_at class_of lookup
returns-in-222-to-225 c = rule_on 222 225 c.args.tag refl c.binary-in-222-to-225.ensures (omega arith) (omega arith)

pub returns-in-226 : goal.returns-in-226
unfolding rule_at class_of lookup
returns-in-226 c = rule_on 226 226 c.args.tag refl c.binary-in-226.ensures (omega arith) (omega arith)

pub returns-in_default : goal.returns-in_default
unfolding rule_at class_of lookup
returns-in_default c =
    let l : 227 ≤ c.args.tag = elim c.in_default.branch [ in_default-via-then-tag-lt201 w ↦ omega arith | in_default-via-else-tag-lt201+else-tag-lt213+else-tag-lt219+else-tag-lt221+else-tag-lt226 w ↦ omega arith ] in
    rule_on 227 227 c.args.tag refl c.binary-in_default.ensures l (omega arith)
