use Rattle.std.proofs.Common.{rules}
use mathlib.Core.Path.{refl}
use native.Mathlib.Omega.{arith}
use Rattle.frame.specs.Tags.{expression, lookup, class_of, form_at}
use Rattle.decision.proofs.Shapes.{here_few, here_placed, two_here}
use Rattle.decision.proofs.Descents.{here_child}
use Rattle.rewriter.proofs.DispatchTurns.{by_logic, past_logic, to_rewrite_not, to_finite, to_partition, to_equal, to_subset, to_none}
use Rattle.rewriter.proofs.dispatch.decide.Goals as goal

pub returns-in-Some : goal.returns-in-Some
returns-in-Some c = by_logic _ _ _ _ _ _ c.in-Some.ensures

pub tag_at-tag-requires : goal.tag_at-tag-requires
tag_at-tag-requires c = here_placed c.requires

pub overflow_add-a : goal.overflow_add-a
overflow_add-a c = let z = here_few c.requires in omega arith

pub second_of-b-requires : goal.second_of-b-requires
second_of-b-requires c = here_few c.requires

pub rewrite_finite-requires : goal.rewrite_finite-requires
unfolding lookup class_of form_at
rewrite_finite-requires c = here_child _ _ _ _ _ c.tag_at-tag.ensures 620 c.in-620.is expression (λ x. refl) c.requires

pub equal_at-requires : goal.equal_at-requires
unfolding lookup class_of form_at
equal_at-requires c = two_here _ _ _ _ _ c.tag_at-tag.ensures 101 c.in-101.is expression expression (λ x. refl) _
    c.second_of-b.ensures c.requires

pub subset_at-requires : goal.subset_at-requires
unfolding lookup class_of form_at
subset_at-requires c = two_here _ _ _ _ _ c.tag_at-tag.ensures 111 c.in-111.is expression expression (λ x. refl) _
    c.second_of-b.ensures c.requires

pub returns-in-701 : goal.returns-in-701
returns-in-701 c = past_logic _ _ _ _ _ c.in_default.ensures _
    (to_rewrite_not _ _ _ _ _ c.tag_at-tag.ensures c.in-701.is _ c.rewrite_not.ensures)

pub returns-in-620 : goal.returns-in-620
returns-in-620 c = past_logic _ _ _ _ _ c.in_default.ensures _
    (to_finite _ _ _ _ _ c.tag_at-tag.ensures c.in-620.is _ c.rewrite_finite.ensures)

pub returns-in-901 : goal.returns-in-901
returns-in-901 c = past_logic _ _ _ _ _ c.in_default.ensures _
    (to_partition _ _ _ _ _ c.tag_at-tag.ensures c.in-901.is _ c.rewrite_partition.ensures)

pub returns-in-101 : goal.returns-in-101
returns-in-101 c = past_logic _ _ _ _ _ c.in_default.ensures _
    (to_equal _ _ _ _ _ c.tag_at-tag.ensures _ c.second_of-b.ensures
    c.in-101.is _ c.equal_at.ensures)

pub returns-in-111 : goal.returns-in-111
returns-in-111 c = past_logic _ _ _ _ _ c.in_default.ensures _
    (to_subset _ _ _ _ _ c.tag_at-tag.ensures _ c.second_of-b.ensures
    c.in-111.is _ c.subset_at.ensures)

pub returns-in_default-tag : goal.returns-in_default-tag
returns-in_default-tag c = past_logic _ _ _ _ _ c.in_default.ensures _
    (to_none _ _ _ _ _ c.tag_at-tag.ensures (search rules))
