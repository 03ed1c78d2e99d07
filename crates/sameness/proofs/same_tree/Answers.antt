use native.Mathlib.Omega.{arith}
use Rattle.sameness.proofs.SameTurns.{both_inside, tree_stands, tree_done}
use Rattle.sameness.proofs.same_tree.Goals as goal

pub number-requires : goal.number-requires
number-requires c = let z = both_inside _ _ _ _ c.requires.1 in omega arith

pub same_pred-requires : goal.same_pred-requires
same_pred-requires c = tree_stands _ _ _ _ c.number.ensures _ c.form_of.ensures _ _ c.sort.ensures c.in-Predicate.is c.requires

pub same_expr-requires : goal.same_expr-requires
same_expr-requires c = tree_stands _ _ _ _ c.number.ensures _ c.form_of.ensures _ _ c.sort.ensures c.in-Expression.is c.requires

pub returns-in-Predicate : goal.returns-in-Predicate
returns-in-Predicate c = tree_done _ _ _ _ c.number.ensures _ c.form_of.ensures _ _ c.sort.ensures c.in-Predicate.is _ c.same_pred.ensures

pub returns-in-Expression : goal.returns-in-Expression
returns-in-Expression c = tree_done _ _ _ _ c.number.ensures _ c.form_of.ensures _ _ c.sort.ensures c.in-Expression.is _ c.same_expr.ensures
