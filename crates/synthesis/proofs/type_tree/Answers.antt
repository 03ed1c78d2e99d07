use Rattle.std.proofs.Common.{◌+◌, refl, arith}
use Rattle.synthesis.specs.Turns.{started}
use Rattle.synthesis.proofs.TreeTurns.{type_place, tree_open, tree_bad, tree_turns, tree_ends}
use Rattle.synthesis.proofs.StepTurns.{leaf_judge, leaf_turns}
use Rattle.synthesis.proofs.type_tree.Goals as goal

pub bounds-leaves-place : goal.bounds-leaves-place
bounds-leaves-place c = type_place c.args.s.now c.args.at c.args.place c.args.leaves.now c.requires

pub open_node-requires : goal.open_node-requires
open_node-requires c = tree_open c.args.s.now c.args.at c.args.place c.args.leaves.now c.requires _ c.from.ensures

pub returns-in_err-root : goal.returns-in_err-root
returns-in_err-root c = rw c.from_residual.ensures (tree_bad c.args.s.now c.args.at c.args.place c.args.leaves.now c.args.types.now _ c.from.ensures c.open_node.new.types c.open_node.result c.open_node.ensures c.in_err-root.was)

pub judge_types-requires : goal.judge_types-requires
judge_types-requires c = leaf_judge c.in_ok-root.root.node c.args.s.now c.args.leaves.now c.open_node.new.types (started c.in_ok-root.root (c.args.place + 1)) (tree_turns c.args.s.now c.args.at c.args.place c.args.leaves.now c.args.types.now _ c.from.ensures c.open_node.new.types c.open_node.result c.open_node.ensures c.requires.frame c.in_ok-root.root c.in_ok-root.was c.requires) c.if-root-eq0.true _ refl

pub returns-then-root-eq0 : goal.returns-then-root-eq0
returns-then-root-eq0 c = tree_ends c.args.s.now c.args.at c.args.place c.args.leaves.now c.args.types.now _ c.from.ensures c.open_node.new.types c.open_node.result c.open_node.ensures c.requires.frame c.in_ok-root.root c.in_ok-root.was _ _ (omega arith) (leaf_turns c.in_ok-root.root.node c.args.s.now c.args.leaves.now c.open_node.new.types (started c.in_ok-root.root (c.args.place + 1)) (tree_turns c.args.s.now c.args.at c.args.place c.args.leaves.now c.args.types.now _ c.from.ensures c.open_node.new.types c.open_node.result c.open_node.ensures c.requires.frame c.in_ok-root.root c.in_ok-root.was c.requires) c.if-root-eq0.true _ (λ i. (c.type_inv.types i).fits) _ _ _ c.from-then-root-eq0.ensures refl c.judge_types.ensures)

pub all_turns-requires : goal.all_turns-requires
all_turns-requires c = tree_turns c.args.s.now c.args.at c.args.place c.args.leaves.now c.args.types.now _ c.from.ensures c.open_node.new.types c.open_node.result c.open_node.ensures c.requires.frame c.in_ok-root.root c.in_ok-root.was c.requires

pub returns : goal.returns
returns c = tree_ends c.args.s.now c.args.at c.args.place c.args.leaves.now c.args.types.now _ c.from.ensures c.open_node.new.types c.open_node.result c.open_node.ensures c.requires.frame c.in_ok-root.root c.in_ok-root.was _ _ (omega arith) c.all_turns.ensures
