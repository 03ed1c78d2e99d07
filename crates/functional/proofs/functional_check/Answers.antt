use native.Mathlib.Omega.{arith}
use Rattle.std.proofs.Common.{rules}
use Rattle.functional.proofs.RowTurns.{right_tree, left_tree, check_done}
use Rattle.functional.proofs.functional_check.Goals as goal

pub named_at-used-requires-clause-tree : goal.named_at-used-requires-clause-tree
named_at-used-requires-clause-tree c = right_tree _ _ _ _ _ c.requires.0

pub named_at-recovered-requires-clause-tree : goal.named_at-recovered-requires-clause-tree
named_at-recovered-requires-clause-tree c = left_tree _ _ _ _ _ c.requires.0

pub returns : goal.returns
returns c = check_done _ _ _ _ _ _ _ (λ g e k. search rules) (λ g e k. search rules) _ _ _ c.named_at-used.ensures c.named_at-recovered.ensures
    c.requires.1 (omega arith) (omega arith)
