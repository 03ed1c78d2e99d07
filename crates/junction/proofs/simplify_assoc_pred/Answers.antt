use Rattle.std.proofs.Common.{rules}
use mathlib.Core.Path.{ap, ◌∙◌}
use Rattle.junction.specs.Junction.{settled}
use Rattle.decision.specs.declared.kept.KeptChild.{KeptChild}
use mathlib.Core.List.{List}
use Rattle.junction.proofs.JunctionMeans.{decided_done, settled_done}
use Rattle.decision.proofs.Shapes.{tree_placed}
use Rattle.junction.proofs.JunctionTurns.{pre_tree}
use Rattle.junction.proofs.simplify_assoc_pred.Goals as goal

pub tag_at-requires : goal.tag_at-requires
tag_at-requires c = tree_placed (pre_tree c.requires)

pub returns-then-is_none : goal.returns-then-is_none
returns-then-is_none c = decided_done _ _ _ _ _ c.tag_at.ensures _ _ c.literals_of-literals.ensures _
    (search rules) c.absorb.ensures _ c.patterned.ensures

pub arity_at-requires : goal.arity_at-requires
arity_at-requires c = tree_placed (pre_tree c.requires)

pub returns : goal.returns
returns c =
    let l = c.literals_of-literals in
    settled_done _ _ _ _ _ c.tag_at.ensures _ l.result l.ensures _
    (search rules) c.absorb.ensures _ c.arity_at.ensures _
    (c.settle.ensures ∙ ap (λ (k : List KeptChild). settled k c.args.k c.arity_at.result l.result.neutral_pattern) c.deref.ensures.0)
