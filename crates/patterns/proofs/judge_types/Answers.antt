use Rattle.std.proofs.Common.{Some, subst, ◌+◌, ◌-◌}
use Rattle.type_rules.specs.Patterns.{Rule}
use Rattle.type_rules.specs.CodeRules.{rule_for}
use Rattle.patterns.specs.PatternPosts.{JudgePost}
use Rattle.patterns.proofs.JudgeTurns.{operands_fit, done_by, judge_typed}
use Rattle.patterns.proofs.judge_types.Goals as goal

pub returns : goal.returns
returns c =
    subst (λ (R : Rule). JudgePost R c.args.types.now c.args.from c.args.n c.copy_within.new.self (Some (c.args.from + (c.in_ok-m.m - c.args.n))))
    c.rule_of-rule.ensures
    (judge_typed (rule_for c.rule_of-rule.result) (done_by (rule_for c.rule_of-rule.result) (operands_fit (rule_for c.rule_of-rule.result) _ _ c.match_operands.ensures c.in_ok-match_operands.was) (rw c.deref.ensures.0 at c.fill_result.ensures) c.in_ok-m.was) _ c.copy_within.ensures.len c.copy_within.ensures.after)
