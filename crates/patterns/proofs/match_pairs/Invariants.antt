use Rattle.std.proofs.Common.{◌-◌}
use Rattle.type_rules.specs.CodeRules.{numbers}
use Rattle.patterns.proofs.PairTurns.{Going}
use Rattle.patterns.proofs.match_pairs.Given as goal

abbrev pub invariant-loop-at : goal.invariant-loop-at
invariant-loop-at l = Going (numbers l.pattern) l.types l.start l.n l.at

abbrev pub decreases-loop-at : goal.decreases-loop-at
decreases-loop-at l = l.n - l.at
