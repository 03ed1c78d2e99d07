use borrow.Author.Tests.{eq-eqb, ne_eqb}
use Rattle.logic.proofs.make_neg.Goals as goal

pub returns-then-tag-eq-NOT : goal.returns-then-tag-eq-NOT
returns-then-tag-eq-NOT c = rw (eq-eqb _ 701 c.if-tag-eq-NOT.true) c.patterned.ensures

pub returns : goal.returns
returns c = rw (ne_eqb _ 701 c.if-tag-eq-NOT.false) c.fixed.ensures
