use Rattle.std.proofs.Common.{refl, arith, ◌≤◌}
use Rattle.frame.specs.Tags.{class_of, lookup}
use Rattle.type_rules.specs.Patterns.{rule_at}
use Rattle.type_rules.proofs.TagRules.{rule_on}
use Rattle.type_rules.proofs.atomic_rule.Goals.{in_default-via-then-tag-lt401, in_default-via-else-tag-lt401+else-tag-lt404+else-tag-lt407+else-tag-lt410}
use Rattle.type_rules.proofs.atomic_rule.Goals as goal

pub returns-in-401-to-403 : goal.returns-in-401-to-403
unfolding rule_at class_of lookup
returns-in-401-to-403 c = rule_on 401 403 c.args.tag refl c.constant-in-401-to-403.ensures (omega arith) (omega arith)

pub returns-in-404 : goal.returns-in-404
unfolding rule_at class_of lookup
returns-in-404 c = rule_on 404 404 c.args.tag refl c.constant.ensures (omega arith) (omega arith)

pub returns-in-405-to-406 : goal.returns-in-405-to-406
unfolding rule_at class_of lookup
returns-in-405-to-406 c = rule_on 405 406 c.args.tag refl c.constant-in-405-to-406.ensures (omega arith) (omega arith)

pub returns-in-407 : goal.returns-in-407
unfolding rule_at class_of lookup
returns-in-407 c = rule_on 407 407 c.args.tag refl c.unary.ensures (omega arith) (omega arith)

pub returns-in-408-to-409 : goal.returns-in-408-to-409
unfolding rule_at class_of lookup
returns-in-408-to-409 c = rule_on 408 409 c.args.tag refl c.constant-in-408-to-409.ensures (omega arith) (omega arith)

pub returns-in-410 : goal.returns-in-410
unfolding rule_at class_of lookup
returns-in-410 c = rule_on 410 410 c.args.tag refl c.unary-in-410.ensures (omega arith) (omega arith)

pub returns-in-411 : goal.returns-in-411
unfolding rule_at class_of lookup
returns-in-411 c = rule_on 411 411 c.args.tag refl c.unary-in-411.ensures (omega arith) (omega arith)

pub returns-in_default : goal.returns-in_default
unfolding rule_at class_of lookup
returns-in_default c =
    let l : 412 ≤ c.args.tag = elim c.in_default.branch [ in_default-via-then-tag-lt401 w ↦ omega arith | in_default-via-else-tag-lt401+else-tag-lt404+else-tag-lt407+else-tag-lt410 w ↦ omega arith ] in
    rule_on 412 412 c.args.tag refl c.unary-in_default.ensures l (omega arith)
