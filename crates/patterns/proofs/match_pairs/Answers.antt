use Rattle.std.proofs.Common.{[], arith}
use Rattle.patterns.proofs.PairTurns.{pairs_none, pairs_type, pairs_match, pairs_past, pairs_further, pairs_last, pairs_differ, pairs_more}
use Rattle.patterns.proofs.match_pairs.Goals as goal

pub loop-at-init : goal.loop-at-init
loop-at-init c = record { pre = c.requires; back = λ r x. x }

pub type_end-end-requires : goal.type_end-end-requires
type_end-end-requires c = pairs_type [] c.args.types.now c.loop-at.at c.args.n c.loop-at-test.true c.loop-at.invariant.pre

pub returns-then-n-end : goal.returns-then-n-end
returns-then-n-end c = c.loop-at.invariant.back _ (pairs_last _ c.args.types.now c.loop-at.at c.args.n c.loop-at-test.true _ c.type_end-end.ensures c.if-n-end.true)

pub match_pattern-requires : goal.match_pattern-requires
match_pattern-requires c = pairs_match [] c.args.types.now c.loop-at.at c.args.n c.loop-at-test.true c.loop-at.invariant.pre _ c.new-bindings.ensures

pub returns-in_err-match_pattern : goal.returns-in_err-match_pattern
returns-in_err-match_pattern c =
    rw c.from_residual.ensures (c.loop-at.invariant.back _ (pairs_differ _ c.args.types.now c.loop-at.at c.args.n c.loop-at-test.true _ c.type_end-end.ensures (omega (arith, c.if-n-end.false)) _ _ c.new-bindings.ensures _ c.match_pattern.ensures c.in_err-match_pattern.was))

pub loop-at-smaller : goal.loop-at-smaller
loop-at-smaller c = omega (arith, pairs_past [] c.args.types.now c.loop-at.at c.args.n c.loop-at-test.true _ c.type_end-end.ensures c.loop-at.invariant.pre)

pub loop-at-preserved : goal.loop-at-preserved
loop-at-preserved c = record {
  pre = pairs_further [] c.args.types.now c.loop-at.at c.args.n c.loop-at-test.true _ c.type_end-end.ensures c.loop-at.invariant.pre;
  back = λ r x. c.loop-at.invariant.back r (pairs_more _ c.args.types.now c.loop-at.at c.args.n c.loop-at-test.true _ c.type_end-end.ensures (omega (arith, c.if-n-end.false)) _ _ c.new-bindings.ensures _ c.match_pattern.ensures c.in_ok-match_pattern.was r x);
}

pub returns : goal.returns
returns c = c.loop-at.invariant.back _ (pairs_none _ c.args.types.now c.loop-at.at c.args.n (omega arith))
