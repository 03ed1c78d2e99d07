use mathlib.Core.Path.{refl}
use native.Mathlib.Omega.{arith}
use Rattle.frame.specs.Tags.{predicate, lookup, class_of, form_at}
use Rattle.decision.proofs.Shapes.{here_few, here_placed, two_here}
use Rattle.decision.proofs.Descents.{here_child}
use Rattle.rewriter.proofs.NodeTurns.{into, junction_here, junction_done, to_imp, to_eqv, to_not, to_forall, to_exists}
use Rattle.rewriter.proofs.node.simplify_predicate_node.Goals as goal

pub tag_at-tag-requires : goal.tag_at-tag-requires
tag_at-tag-requires c = here_placed c.requires

pub overflow_add-a : goal.overflow_add-a
overflow_add-a c = let z = here_few c.requires in omega arith

pub second_of-b-requires : goal.second_of-b-requires
second_of-b-requires c = here_few c.requires

pub implication_at-requires : goal.implication_at-requires
unfolding lookup class_of form_at
implication_at-requires c = two_here _ _ _ _ _ c.tag_at-tag.ensures 251 c.in-251.is predicate predicate (λ x. refl) _
    c.second_of-b.ensures c.requires

pub equivalence_at-requires : goal.equivalence_at-requires
unfolding lookup class_of form_at
equivalence_at-requires c = two_here _ _ _ _ _ c.tag_at-tag.ensures 252 c.in-252.is predicate predicate (λ x. refl) _
    c.second_of-b.ensures c.requires

pub negation_at-requires : goal.negation_at-requires
unfolding lookup class_of form_at
negation_at-requires c = here_child _ _ _ _ _ c.tag_at-tag.ensures 701 c.in-701.is predicate (λ x. refl) c.requires

pub returns-in-251 : goal.returns-in-251
returns-in-251 c = into _ _ _ _ _ _ _ (to_imp _ _ _ _ _ c.tag_at-tag.ensures _ c.second_of-b.ensures
    c.in-251.is _ c.implication_at.ensures)

pub returns-in-252 : goal.returns-in-252
returns-in-252 c = into _ _ _ _ _ _ _ (to_eqv _ _ _ _ _ c.tag_at-tag.ensures _ c.second_of-b.ensures
    c.in-252.is _ c.equivalence_at.ensures)

pub returns-in-701 : goal.returns-in-701
returns-in-701 c = into _ _ _ _ _ _ _ (to_not _ _ _ _ _ c.tag_at-tag.ensures c.in-701.is _ c.negation_at.ensures)

pub returns-in-851 : goal.returns-in-851
returns-in-851 c = into _ _ _ _ _ _ _ (to_forall _ _ _ _ _ c.tag_at-tag.ensures c.in-851.is _ c.forall_at.ensures)

pub returns-in-852 : goal.returns-in-852
returns-in-852 c = into _ _ _ _ _ _ _ (to_exists _ _ _ _ _ c.tag_at-tag.ensures c.in-852.is _ c.exists_at.ensures)

pub simplify_assoc_pred-requires : goal.simplify_assoc_pred-requires
simplify_assoc_pred-requires c = junction_here _ _ _ _ _ c.tag_at-tag.ensures (grind arith) c.requires

pub returns-in-351 : goal.returns-in-351
returns-in-351 c = junction_done _ _ _ _ _ c.tag_at-tag.ensures (grind arith) _ _ c.simplify_assoc_pred.ensures
