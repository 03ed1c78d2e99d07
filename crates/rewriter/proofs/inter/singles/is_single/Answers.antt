use borrow.Author.Tests.{ne_eqb}
use Rattle.rewriter.proofs.SingleTurns.{single_no, single_arity}
use Rattle.rewriter.proofs.inter.singles.is_single.Goals as goal

pub returns-then-tag_at-eq-SETEXT : goal.returns-then-tag_at-eq-SETEXT
returns-then-tag_at-eq-SETEXT c = single_arity _ _ _ _ c.tag_at.ensures c.if-tag_at-eq-SETEXT.true _ c.arity_at.ensures

pub returns-else-tag_at-eq-SETEXT : goal.returns-else-tag_at-eq-SETEXT
returns-else-tag_at-eq-SETEXT c = rw (ne_eqb _ 5 c.if-tag_at-eq-SETEXT.false) (single_no _ _ _ _ c.tag_at.ensures c.if-tag_at-eq-SETEXT.false)
