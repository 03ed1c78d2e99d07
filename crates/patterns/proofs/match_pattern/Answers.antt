use Rattle.std.proofs.Common.{◌∙◌, sym, arith}
use Rattle.type_rules.proofs.SymbolNumbers.{fixed_small, fixed_real, variable_number, variable_few}
use Rattle.type_rules.specs.declared.Symbol.TheVariants as S
use Rattle.patterns.proofs.MatchTurns.{going_begins, going_done, going_ends, going_next, going_off, going_variable, fit_none, fit_other, next_fixed}
use Rattle.patterns.proofs.match_pattern.Goals as goal

pub loop-symbol-init : goal.loop-symbol-init
loop-symbol-init c = going_begins _ _ _ _ _ c.requires

pub returns-then-n-at : goal.returns-then-n-at
returns-then-n-at c = going_ends _ _ _ _ _ _ _ _ c.loop-symbol.invariant S.Bool c.loop-symbol-test.true _ _ (fit_none c.args.types.now c.loop-symbol.at c.args.n c.loop-symbol.bindings.items _ _ c.if-n-at.true)

pub returns-then-types-at : goal.returns-then-types-at
returns-then-types-at c =
    let l = fixed_small _ (sym c.variable.ensures ∙ c.in_default.is) in
    going_ends _ _ _ _ _ _ _ _ c.loop-symbol.invariant _ c.loop-symbol-test.true _ _ (fit_other c.args.types.now c.loop-symbol.at c.args.n c.loop-symbol.bindings.items _ _ (omega arith) l (λ e. c.if-types-at.true (e ∙ sym c.from.ensures)))

pub loop-symbol-preserved-in_default : goal.loop-symbol-preserved-in_default
loop-symbol-preserved-in_default c =
    let l = fixed_small _ (sym c.variable.ensures ∙ c.in_default.is) in
    going_next _ _ _ _ _ _ _ _ c.loop-symbol.invariant _ c.loop-symbol-test.true (omega arith) _ _
    (next_fixed c.args.types.now c.loop-symbol.at c.args.n c.loop-symbol.bindings.items _ _ (omega arith) l (fixed_real _) (c.if-types-at.false ∙ c.from.ensures))

pub match_variable-requires : goal.match_variable-requires
match_variable-requires c =
    (c.loop-symbol.invariant.pre, omega arith, variable_few _ _ (sym c.variable.ensures ∙ c.in-Some.is))

pub returns-in_err-at : goal.returns-in_err-at
returns-in_err-at c = rw c.from_residual.ensures (going_off _ _ _ _ _ _ _ _ c.loop-symbol.invariant _ c.loop-symbol-test.true (omega arith) c.in-Some.variable (variable_number _ _ (sym c.variable.ensures ∙ c.in-Some.is)) _ _ c.match_variable.ensures c.in_err-at.was)

pub loop-symbol-preserved : goal.loop-symbol-preserved
loop-symbol-preserved c = going_variable _ _ _ _ _ _ _ _ c.loop-symbol.invariant _ c.loop-symbol-test.true (omega arith) c.in-Some.variable (variable_number _ _ (sym c.variable.ensures ∙ c.in-Some.is)) _ _ c.match_variable.ensures _ c.in_ok-at.was

pub returns : goal.returns
returns c = going_done _ _ _ _ _ _ _ _ c.loop-symbol.invariant (omega arith)
