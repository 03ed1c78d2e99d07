use Rattle.std.proofs.Common.{[], ◌∙◌, refl, sym, length-set, arith}
use Rattle.type_rules.proofs.SymbolNumbers.{fixed_small, variable_number}
use Rattle.results.proofs.SpanLaws.{found}
use Rattle.results.proofs.FillTurns.{going_begins, going_ends, going_done, going_next, fill_full, fill_fixed_pre, fill_fixed, fill_unbound, slot_span, fill_long, fill_bound_pre, fill_bound}
use Rattle.results.proofs.fill_pattern.Goals as goal

pub loop-symbol-init : goal.loop-symbol-init
loop-symbol-init c = going_begins _ _ _ _ _ c.requires

pub returns-then-limit-m : goal.returns-then-limit-m
returns-then-limit-m c =
    let l = fixed_small _ (sym c.variable.ensures ∙ c.in_default.is) in
    going_ends _ _ _ _ _ _ _ _ c.loop-symbol.invariant _ c.loop-symbol-test.true _ _ (fill_full c.loop-symbol.types c.loop-symbol.m c.args.limit c.args.bindings.now c.loop-symbol.invariant.pre.room _ _ l c.if-limit-m.true)

pub loop-symbol-preserved-in_default : goal.loop-symbol-preserved-in_default
loop-symbol-preserved-in_default c =
    let l = fixed_small _ (sym c.variable.ensures ∙ c.in_default.is) in
    going_next _ _ _ _ _ _ _ _ c.loop-symbol.invariant _ c.loop-symbol-test.true _ _
    (fill_fixed_pre c.loop-symbol.types c.loop-symbol.m c.args.limit c.args.bindings.now c.loop-symbol.invariant.pre.room _ [] l c.from.result c.from.ensures c.if-limit-m.false c.loop-symbol.invariant.pre)
    (length-set _ _ _) (fill_fixed c.loop-symbol.types c.loop-symbol.m c.args.limit c.args.bindings.now c.loop-symbol.invariant.pre.room _ _ l c.from.result c.from.ensures c.if-limit-m.false)

pub returns-in_err-span : goal.returns-in_err-span
returns-in_err-span c =
    let b = variable_number _ _ (sym c.variable.ensures ∙ c.in-Some.is) in
    rw c.from_residual.ensures
    (going_ends _ _ _ _ _ _ _ _ c.loop-symbol.invariant _ c.loop-symbol-test.true _ _ (fill_unbound c.loop-symbol.types c.loop-symbol.m c.args.limit c.args.bindings.now c.loop-symbol.invariant.pre.room _ _ c.in-Some.variable b (found c.args.bindings.now _ c.in-Some.variable c.get.result refl c.get.ensures.lookup.0 c.get.ensures.lookup.1 c.copied.ensures c.in_err-span.was)))

pub overflow_sub-len : goal.overflow_sub-len
overflow_sub-len c =
    (slot_span c.loop-symbol.types c.loop-symbol.m c.args.limit c.args.bindings.now c.loop-symbol.invariant.pre.room _ [] c.in-Some.variable refl c.in_ok-span.span (found c.args.bindings.now _ c.in-Some.variable c.get.result refl c.get.ensures.lookup.0 c.get.ensures.lookup.1 c.copied.ensures c.in_ok-span.was) c.loop-symbol.invariant.pre).0

pub overflow_sub-limit : goal.overflow_sub-limit
overflow_sub-limit c = c.loop-symbol.invariant.pre.room.0

pub returns-then-limit-m-2 : goal.returns-then-limit-m-2
returns-then-limit-m-2 c =
    let b = variable_number _ _ (sym c.variable.ensures ∙ c.in-Some.is) in
    going_ends _ _ _ _ _ _ _ _ c.loop-symbol.invariant _ c.loop-symbol-test.true _ _ (fill_long c.loop-symbol.types c.loop-symbol.m c.args.limit c.args.bindings.now c.loop-symbol.invariant.pre.room _ _ c.in-Some.variable b c.in_ok-span.span (found c.args.bindings.now _ c.in-Some.variable c.get.result refl c.get.ensures.lookup.0 c.get.ensures.lookup.1 c.copied.ensures c.in_ok-span.was) c.if-limit-m-2.true)

pub copy_within-requires-clause-start_le_end : goal.copy_within-requires-clause-start_le_end
copy_within-requires-clause-start_le_end c = (slot_span c.loop-symbol.types c.loop-symbol.m c.args.limit c.args.bindings.now c.loop-symbol.invariant.pre.room _ [] c.in-Some.variable refl c.in_ok-span.span (found c.args.bindings.now _ c.in-Some.variable c.get.result refl c.get.ensures.lookup.0 c.get.ensures.lookup.1 c.copied.ensures c.in_ok-span.was) c.loop-symbol.invariant.pre).0

pub copy_within-requires-clause-in_bounds : goal.copy_within-requires-clause-in_bounds
copy_within-requires-clause-in_bounds c = omega (arith, (slot_span c.loop-symbol.types c.loop-symbol.m c.args.limit c.args.bindings.now c.loop-symbol.invariant.pre.room _ [] c.in-Some.variable refl c.in_ok-span.span (found c.args.bindings.now _ c.in-Some.variable c.get.result refl c.get.ensures.lookup.0 c.get.ensures.lookup.1 c.copied.ensures c.in_ok-span.was) c.loop-symbol.invariant.pre).1, c.loop-symbol.invariant.pre.room)

pub loop-symbol-preserved : goal.loop-symbol-preserved
loop-symbol-preserved c =
    let b = variable_number _ _ (sym c.variable.ensures ∙ c.in-Some.is) in
    going_next _ _ _ _ _ _ _ _ c.loop-symbol.invariant _ c.loop-symbol-test.true _ _
    (fill_bound_pre c.loop-symbol.types c.loop-symbol.m c.args.limit c.args.bindings.now c.loop-symbol.invariant.pre.room _ [] c.in-Some.variable refl c.in_ok-span.span (found c.args.bindings.now _ c.in-Some.variable c.get.result refl c.get.ensures.lookup.0 c.get.ensures.lookup.1 c.copied.ensures c.in_ok-span.was) c.if-limit-m-2.false _ c.copy_within.ensures.len c.copy_within.ensures.after c.loop-symbol.invariant.pre)
    c.copy_within.ensures.len
    (fill_bound c.loop-symbol.types c.loop-symbol.m c.args.limit c.args.bindings.now c.loop-symbol.invariant.pre.room _ _ c.in-Some.variable b c.in_ok-span.span (found c.args.bindings.now _ c.in-Some.variable c.get.result refl c.get.ensures.lookup.0 c.get.ensures.lookup.1 c.copied.ensures c.in_ok-span.was) c.if-limit-m-2.false _ c.copy_within.ensures.len c.copy_within.ensures.after)

pub returns : goal.returns
returns c = going_done _ _ _ _ _ _ _ _ c.loop-symbol.invariant (omega arith)
