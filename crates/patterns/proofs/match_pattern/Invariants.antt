use Rattle.std.proofs.Common.{drop}
use Rattle.type_rules.specs.CodeRules.{numbers}
use Rattle.patterns.proofs.MatchTurns.{Going}
use Rattle.patterns.proofs.match_pattern.Given as goal

abbrev pub invariant-loop-symbol : goal.invariant-loop-symbol
invariant-loop-symbol l =
    Going (numbers l.pattern) l.types l.start l.n l.initial.bindings.items (numbers (drop l.symbol-index l.pattern)) l.at l.bindings.items
