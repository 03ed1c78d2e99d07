use native.Mathlib.Omega.{arith}
use Rattle.tags.specs.TagCodes.{sort_for}
use Rattle.sameness.specs.Compared.{SamePost}
use Rattle.sameness.proofs.SameTurns.{
  node_differ,
  node_both,
  node_kids,
  going_begins,
  going_done,
  going_first,
  going_no,
  going_next,
  at_sort,
  of_sort,
}
use Rattle.sameness.proofs.+same_expr_same_kids_same_pred.Goals.{same_kids-in-Predicate, same_kids-in-Expression}
use Rattle.sameness.proofs.+same_expr_same_kids_same_pred.Goals as goal

pub same_expr-returns-in_err-expressions : goal.same_expr-returns-in_err-expressions
same_expr-returns-in_err-expressions t c = rw c.from_residual.ensures (node_differ _ _ _ _ _ (c.same_heads.ensures _) c.in_err-expressions.was)

pub same_expr-same_kids-requires : goal.same_expr-same_kids-requires
same_expr-same_kids-requires t c = let r = node_both _ _ _ _ _ (c.same_heads.ensures _) _ c.in_ok-expressions.was c.requires in
    (omega (arith, r.1, r.2), r.0)

pub same_expr-returns : goal.same_expr-returns
same_expr-returns t c = node_kids _ _ _ _ _ (c.same_heads.ensures _) _ c.in_ok-expressions.was _ c.same_kids.ensures

pub same_kids-loop-init : goal.same_kids-loop-init
same_kids-loop-init t c = going_begins _ _ c.requires

pub same_kids-same_pred-ends-requires : goal.same_kids-same_pred-ends-requires
same_kids-same_pred-ends-requires t c =
    let p = c.loop.invariant.past in
    let w = c.loop.invariant.within in
    (omega arith, at_sort c.in-Predicate.is (going_first _ _ _ _ _ _ c.loop.invariant c.loop-test.true))

pub same_kids-same_expr-ends-requires : goal.same_kids-same_expr-ends-requires
same_kids-same_expr-ends-requires t c =
    let p = c.loop.invariant.past in
    let w = c.loop.invariant.within in
    (omega arith, at_sort c.in-Expression.is (going_first _ _ _ _ _ _ c.loop.invariant c.loop-test.true))

pub same_kids-returns-in_err-p : goal.same_kids-returns-in_err-p
same_kids-returns-in_err-p t c =
    let one : SamePost c.args.s.now (sort_for c.loop.sort) c.loop.p c.loop.q c.match-sort.ends = elim c.match-sort.branch [
      | same_kids-in-Predicate w ↦ rw w.ends-is (of_sort w.in-Predicate.is w.same_pred-ends.ensures)
      | same_kids-in-Expression w ↦ rw w.ends-is (of_sort w.in-Expression.is w.same_expr-ends.ensures)
    ] in
    rw c.from_residual.ensures (going_no _ _ _ _ _ _ c.loop.invariant c.loop-test.true _ one c.in_err-p.was)

pub same_kids-loop-preserved : goal.same_kids-loop-preserved
same_kids-loop-preserved t c =
    let one : SamePost c.args.s.now (sort_for c.loop.sort) c.loop.p c.loop.q c.match-sort.ends = elim c.match-sort.branch [
      | same_kids-in-Predicate w ↦ rw w.ends-is (of_sort w.in-Predicate.is w.same_pred-ends.ensures)
      | same_kids-in-Expression w ↦ rw w.ends-is (of_sort w.in-Expression.is w.same_expr-ends.ensures)
    ] in
    going_next _ _ _ _ _ _ c.loop.invariant c.loop-test.true _ one _ _ c.in_ok-p.was

pub same_kids-returns : goal.same_kids-returns
same_kids-returns t c = going_done _ _ _ _ _ _ c.loop.invariant c.loop-test.false

pub same_pred-returns-in_err-predicates : goal.same_pred-returns-in_err-predicates
same_pred-returns-in_err-predicates t c = rw c.from_residual.ensures (node_differ _ _ _ _ _ (c.same_heads.ensures _) c.in_err-predicates.was)

pub same_pred-same_kids-requires : goal.same_pred-same_kids-requires
same_pred-same_kids-requires t c = let r = node_both _ _ _ _ _ (c.same_heads.ensures _) _ c.in_ok-predicates.was c.requires in
    (omega (arith, r.1, r.2), r.0)

pub same_pred-returns : goal.same_pred-returns
same_pred-returns t c = node_kids _ _ _ _ _ (c.same_heads.ensures _) _ c.in_ok-predicates.was _ c.same_kids.ensures
