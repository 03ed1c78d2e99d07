use Rattle.std.proofs.Common.{rules}
use mathlib.Core.Path.{refl}
use native.Mathlib.Omega.{arith}
use Rattle.decision.proofs.Shapes.{here_few, here_placed}
use Rattle.predicates.proofs.Negations.{not_compared, equation_here, not_equal, not_none, not_other, inner_here, of_inner}
use Rattle.predicates.proofs.negation.rewrite_not.Goals as goal

pub tag_at-requires : goal.tag_at-requires
tag_at-requires c = here_placed c.requires

pub returns-then-tag_at-ne-NOT : goal.returns-then-tag_at-ne-NOT
returns-then-tag_at-ne-NOT c = not_other _ _ _ _ _ c.tag_at.ensures c.if-tag_at-ne-NOT.true

pub overflow_add-inner : goal.overflow_add-inner
overflow_add-inner c = let z = here_few c.requires in omega arith

pub tag_at-tag-requires : goal.tag_at-tag-requires
tag_at-tag-requires c = here_placed (inner_here _ _ _ _ _ c.tag_at.ensures c.if-tag_at-ne-NOT.false c.requires)

pub overflow_add-a : goal.overflow_add-a
overflow_add-a c = let z = here_few (inner_here _ _ _ _ _ c.tag_at.ensures c.if-tag_at-ne-NOT.false c.requires) in omega arith

pub second_of-b-requires : goal.second_of-b-requires
second_of-b-requires c = here_few (inner_here _ _ _ _ _ c.tag_at.ensures c.if-tag_at-ne-NOT.false c.requires)

pub unequal_at-requires : goal.unequal_at-requires
unequal_at-requires c = equation_here _ _ _ _ _ c.tag_at-tag.ensures _ c.second_of-b.ensures c.in-101.is
    (inner_here _ _ _ _ _ c.tag_at.ensures c.if-tag_at-ne-NOT.false c.requires)

pub returns-in-104 : goal.returns-in-104
returns-in-104 c = of_inner _ _ _ _ _ c.tag_at.ensures c.if-tag_at-ne-NOT.false _
    (not_compared _ _ _ _ _ c.tag_at-tag.ensures 104 16 refl c.in-104.is _
    c.second_of-b.ensures _ c.fixed.ensures)

pub returns-in-106 : goal.returns-in-106
returns-in-106 c = of_inner _ _ _ _ _ c.tag_at.ensures c.if-tag_at-ne-NOT.false _
    (not_compared _ _ _ _ _ c.tag_at-tag.ensures 106 17 refl c.in-106.is _
    c.second_of-b.ensures _ c.fixed-in-106.ensures)

pub returns-in-105 : goal.returns-in-105
returns-in-105 c = of_inner _ _ _ _ _ c.tag_at.ensures c.if-tag_at-ne-NOT.false _
    (not_compared _ _ _ _ _ c.tag_at-tag.ensures 105 18 refl c.in-105.is _
    c.second_of-b.ensures _ c.fixed-in-105.ensures)

pub returns-in-103 : goal.returns-in-103
returns-in-103 c = of_inner _ _ _ _ _ c.tag_at.ensures c.if-tag_at-ne-NOT.false _
    (not_compared _ _ _ _ _ c.tag_at-tag.ensures 103 19 refl c.in-103.is _
    c.second_of-b.ensures _ c.fixed-in-103.ensures)

pub returns-in-101 : goal.returns-in-101
returns-in-101 c = of_inner _ _ _ _ _ c.tag_at.ensures c.if-tag_at-ne-NOT.false _
    (not_equal _ _ _ _ _ c.tag_at-tag.ensures _ c.second_of-b.ensures c.in-101.is _
    c.unequal_at.ensures)

pub returns-in_default : goal.returns-in_default
returns-in_default c = of_inner _ _ _ _ _ c.tag_at.ensures c.if-tag_at-ne-NOT.false _ (not_none _ _ _ _ _ c.tag_at-tag.ensures (search rules))
