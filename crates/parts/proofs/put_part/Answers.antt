use mathlib.Core.Path.{ap}
use Rattle.parts.proofs.Parts.{tag_put, count_put, subtree_put, type_put, expression_put, binders_put, empty_put, full_put, tag_fits, type_is, expression_is, empty_is, full_is}
use Rattle.parts.proofs.put_part.Goals as goal

pub put_word-requires : goal.put_word-requires
put_word-requires c = tag_fits _ _ (rw c.in-Tag.is at c.requires)

pub type_of-requires : goal.type_of-requires
type_of-requires c = type_is _ _ _ (rw c.in-Type.is at c.requires)

pub type_of-requires-in-Expression : goal.type_of-requires-in-Expression
type_of-requires-in-Expression c = expression_is _ _ _ (rw c.in-Expression.is at c.requires)

pub type_of-requires-in-Empty : goal.type_of-requires-in-Empty
type_of-requires-in-Empty c = empty_is _ _ (rw c.in-Empty.is at c.requires)

pub type_of-requires-in-Full : goal.type_of-requires-in-Full
type_of-requires-in-Full c = full_is _ _ (rw c.in-Full.is at c.requires)

pub returns-in-Tag : goal.returns-in-Tag
returns-in-Tag c = rw c.in-Tag.is (tag_put _ _ _ _ c.put_word.ensures)

pub returns-in-Count : goal.returns-in-Count
returns-in-Count c = rw c.in-Count.is (count_put _ _ _ _ c.put_byte.ensures)

pub returns-in-Subtree : goal.returns-in-Subtree
returns-in-Subtree c = rw c.in-Subtree.is (subtree_put _ _ _ _ _ (ap (λ b. b.subtree.now) c.bytes_of.ensures) c.put_copy.ensures)

pub returns-in-Type : goal.returns-in-Type
returns-in-Type c = rw c.in-Type.is (type_put _ _ _ _ _ _ c.type_of.ensures c.put.ensures)

pub returns-in-Expression : goal.returns-in-Expression
returns-in-Expression c = rw c.in-Expression.is (expression_put _ _ _ _ _ _ c.type_of-in-Expression.ensures c.put_expression.ensures)

pub returns-in-Binders : goal.returns-in-Binders
returns-in-Binders c = rw c.in-Binders.is (binders_put _ _ _ c.put_copy-in-Binders.ensures)

pub returns-in-Empty : goal.returns-in-Empty
returns-in-Empty c = rw c.in-Empty.is (empty_put _ _ _ _ _ _ _ (ap (λ b. b.subtree.now) c.bytes_of-in-Empty.ensures) c.type_of-in-Empty.ensures
    c.put_word-in-Empty.ensures c.put_copy-in-Empty.ensures _ _ c.put_word-in-Empty-2.ensures c.put-in-Empty.ensures)

pub returns-in-Full : goal.returns-in-Full
returns-in-Full c = rw c.in-Full.is (full_put _ _ _ _ _ _ _ (ap (λ b. b.subtree.now) c.bytes_of-in-Full.ensures) c.type_of-in-Full.ensures
    c.put_word-in-Full.ensures c.put_copy-in-Full.ensures _ c.put_expression-in-Full.ensures)
