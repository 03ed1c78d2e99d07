use Rattle.std.proofs.Common.{ℕ, arith}
use lib.ListN.{length-replicate}
use Rattle.checking.proofs.Turns.{type_pre, typed_by}
use Rattle.checking.proofs.typed_in.Goals as goal

pub type_tree-requires : goal.type_tree-requires
type_tree-requires g c = type_pre c.args.frame.now _ _ c.requires.0 (omega (arith, length-replicate {A = ℕ}))

pub returns : goal.returns
returns g c = typed_by c.args.frame.now _ _ _ (omega arith) c.type_tree.ensures _ c.is_some.ensures
