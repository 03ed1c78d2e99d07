use Rattle.std.proofs.Common.{rules}
use Rattle.decision.proofs.Shapes.{tree_placed}
use Rattle.rewriter.proofs.SingleTurns.{count_done}
use Rattle.rewriter.proofs.InterTurns.{inter_tree}
use Rattle.rewriter.proofs.inter.singles.count_singles.Goals as goal

pub count_children-requires-clause-callable : goal.count_children-requires-clause-callable
count_children-requires-clause-callable c = λ i h. (let z = tree_placed h in search rules)

pub count_children-requires-clause-tree : goal.count_children-requires-clause-tree
count_children-requires-clause-tree c = inter_tree _ _ _ _ c.requires

pub returns : goal.returns
returns c = count_done c.args.places.now _ _ (λ i b g. search rules) _ c.count_children.ensures
