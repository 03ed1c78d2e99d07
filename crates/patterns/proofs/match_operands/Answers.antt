use Rattle.type_rules.specs.CodeRules.{rule_for}
use Rattle.patterns.proofs.JudgeTurns.{paired_by, fitted_by, unpaired, first_pre, first_off, last_pre, last_says}
use Rattle.patterns.proofs.match_operands.Goals as goal

pub returns-in_err-last : goal.returns-in_err-last
returns-in_err-last c = rw c.from_residual.ensures (unpaired (rule_for c.args.rule.now) c.match_pairs.ensures c.in_err-last.was)

pub match_pattern-requires : goal.match_pattern-requires
match_pattern-requires c = first_pre (rule_for c.args.rule.now) c.requires.0 _ c.requires.1

pub returns-in_err-match_pattern : goal.returns-in_err-match_pattern
returns-in_err-match_pattern c =
    rw c.from_residual-in_err-match_pattern.ensures
    (first_off (rule_for c.args.rule.now) (paired_by (rule_for c.args.rule.now) c.match_pairs.ensures c.in_ok-last.was) c.requires.1 c.match_pattern.ensures c.in_err-match_pattern.was)

pub match_pattern-requires-2 : goal.match_pattern-requires-2
match_pattern-requires-2 c = last_pre (rule_for c.args.rule.now) (fitted_by (rule_for c.args.rule.now) (paired_by (rule_for c.args.rule.now) c.match_pairs.ensures c.in_ok-last.was) c.requires.1 c.match_pattern.ensures c.in_ok-match_pattern.was) c.requires.0

pub returns : goal.returns
returns c = last_says (rule_for c.args.rule.now) (fitted_by (rule_for c.args.rule.now) (paired_by (rule_for c.args.rule.now) c.match_pairs.ensures c.in_ok-last.was) c.requires.1 c.match_pattern.ensures c.in_ok-match_pattern.was) c.match_pattern-2.ensures
