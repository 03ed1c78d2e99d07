use Rattle.std.proofs.Common.{◌∙◌, sym, arith}
use Rattle.std.proofs.lemmas.Bool.{not-true, not-false}
use Rattle.results.proofs.SpanLaws.{found}
use Rattle.patterns.proofs.MatchTurns.{first_type, fit_gap, next_new, bound_span, fit_long, fit_differ, next_same}
use Rattle.patterns.proofs.match_variable.Goals as goal
use Rattle.patterns.proofs.match_variable.Goals.{then-n-at-via-then-n-at, then-n-at-via-else-n-at+then-ne}

pub overflow_sub-len : goal.overflow_sub-len
overflow_sub-len c =
    let s = bound_span c.args.variable c.requires.2 c.args.types.now c.args.at c.args.n c.requires.1 c.args.bindings.now.items c.in-Some.span (found _ c.deref.result.now c.args.variable c.get.result c.deref.ensures.0 c.get.ensures.lookup.0 c.get.ensures.lookup.1 c.copied.ensures c.in-Some.is) c.requires.0.ρ c.requires.0.env in omega (arith, s.0.long)

pub slice_bounds-ne-count-else-n-at : goal.slice_bounds-ne-count-else-n-at
slice_bounds-ne-count-else-n-at c =
    let s = bound_span c.args.variable c.requires.2 c.args.types.now c.args.at c.args.n c.requires.1 c.args.bindings.now.items c.in-Some.span (found _ c.deref.result.now c.args.variable c.get.result c.deref.ensures.0 c.get.ensures.lookup.0 c.get.ensures.lookup.1 c.copied.ensures c.in-Some.is) c.requires.0.ρ c.requires.0.env in omega (arith, s.0.long)

pub slice_bounds-ne-start-else-n-at : goal.slice_bounds-ne-start-else-n-at
slice_bounds-ne-start-else-n-at c =
    let s = bound_span c.args.variable c.requires.2 c.args.types.now c.args.at c.args.n c.requires.1 c.args.bindings.now.items c.in-Some.span (found _ c.deref.result.now c.args.variable c.get.result c.deref.ensures.0 c.get.ensures.lookup.0 c.get.ensures.lookup.1 c.copied.ensures c.in-Some.is) c.requires.0.ρ c.requires.0.env in omega (arith, s.0.long)

pub slice_bounds-ne-end-else-n-at : goal.slice_bounds-ne-end-else-n-at
slice_bounds-ne-end-else-n-at c =
    (bound_span c.args.variable c.requires.2 c.args.types.now c.args.at c.args.n c.requires.1 c.args.bindings.now.items c.in-Some.span (found _ c.deref.result.now c.args.variable c.get.result c.deref.ensures.0 c.get.ensures.lookup.0 c.get.ensures.lookup.1 c.copied.ensures c.in-Some.is) c.requires.0.ρ c.requires.0.env).0.within

pub returns-then-n-at : goal.returns-then-n-at
returns-then-n-at c = elim c.then-n-at.branch [
  | then-n-at-via-then-n-at w ↦ fit_long c.args.variable c.requires.2 c.args.types.now c.args.at c.args.n c.requires.1 c.args.bindings.now.items c.in-Some.span (found _ c.deref.result.now c.args.variable c.get.result c.deref.ensures.0 c.get.ensures.lookup.0 c.get.ensures.lookup.1 c.copied.ensures c.in-Some.is) w.if-n-at.true
  | then-n-at-via-else-n-at+then-ne w ↦ fit_differ c.args.variable c.requires.2 c.args.types.now c.args.at c.args.n c.requires.1 c.args.bindings.now.items c.in-Some.span (found _ c.deref.result.now c.args.variable c.get.result c.deref.ensures.0 c.get.ensures.lookup.0 c.get.ensures.lookup.1 c.copied.ensures c.in-Some.is) (not-true _ (sym w.ne.ensures ∙ w.if-ne.true))
]

pub returns-in-Some : goal.returns-in-Some
returns-in-Some c = next_same c.args.variable c.requires.2 c.args.types.now c.args.at c.args.n c.requires.1 c.args.bindings.now.items c.in-Some.span (found _ c.deref.result.now c.args.variable c.get.result c.deref.ensures.0 c.get.ensures.lookup.0 c.get.ensures.lookup.1 c.copied.ensures c.in-Some.is) c.if-n-at.false (not-false _ (sym c.ne.ensures ∙ c.if-ne.false))

pub returns-then-variable-len : goal.returns-then-variable-len
returns-then-variable-len c = fit_gap c.args.variable c.requires.2 c.args.types.now c.args.at c.args.n c.requires.1 c.args.bindings.now.items (found _ c.deref.result.now c.args.variable c.get.result c.deref.ensures.0 c.get.ensures.lookup.0 c.get.ensures.lookup.1 c.copied.ensures c.in_default.is) (λ e. c.if-variable-len.true (e ∙ sym c.len.ensures.value))

pub type_end-end-requires : goal.type_end-end-requires
type_end-end-requires c = first_type c.args.variable c.requires.2 c.args.types.now c.args.at c.args.n c.requires.1 c.args.bindings.now.items c.requires.0

pub returns : goal.returns
returns c = rw c.push.ensures.items (next_new c.args.variable c.requires.2 c.args.types.now c.args.at c.args.n c.requires.1 c.args.bindings.now.items (found _ c.deref.result.now c.args.variable c.get.result c.deref.ensures.0 c.get.ensures.lookup.0 c.get.ensures.lookup.1 c.copied.ensures c.in_default.is) (c.if-variable-len.false ∙ c.len.ensures.value) _ c.type_end-end.ensures)
