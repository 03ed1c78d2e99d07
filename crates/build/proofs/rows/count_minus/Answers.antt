use Rattle.std.proofs.Common.{rules}
use Rattle.decision.proofs.Shapes.{tree_placed}
use Rattle.build.proofs.RowTurns.{row_tree, minus_done}
use Rattle.build.proofs.rows.count_minus.Goals as goal

pub count_children-requires-clause-callable : goal.count_children-requires-clause-callable
count_children-requires-clause-callable c = λ i h. (let z = tree_placed h in search rules)

pub count_children-requires-clause-tree : goal.count_children-requires-clause-tree
count_children-requires-clause-tree c = row_tree c.args.places.now _ c.requires

pub returns : goal.returns
returns c = minus_done c.args.places.now _ _ (λ i b g. search rules) _ c.count_children.ensures
