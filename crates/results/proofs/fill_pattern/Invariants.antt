use Rattle.std.proofs.Common.{drop}
use Rattle.type_rules.specs.CodeRules.{numbers}
use Rattle.results.proofs.FillTurns.{Going}
use Rattle.results.proofs.fill_pattern.Given as goal

abbrev pub invariant-loop-symbol : goal.invariant-loop-symbol
invariant-loop-symbol l =
    Going (numbers l.pattern) l.initial.types l.start l.limit l.bindings (numbers (drop l.symbol-index l.pattern)) l.types l.m
