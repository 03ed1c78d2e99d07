use Rattle.std.proofs.Common.{rules}
use Rattle.build.proofs.RowTurns.{besides, besides_share}
use native.Mathlib.Omega.{arith}
use Rattle.build.proofs.InterSubtrees.{apart_placed, apart_few, apart_member, apart_many, apart_row, apart_built}
use Rattle.build.proofs.build_apart.Goals as goal

pub arity_at-m-requires : goal.arity_at-m-requires
arity_at-m-requires c = apart_placed _ _ _ c.requires

pub overflow_add-single : goal.overflow_add-single
overflow_add-single c = let z = (apart_few _ _ c.args.places.now c.requires).1 in omega arith

pub copy_at-requires : goal.copy_at-requires
copy_at-requires c = apart_member _ _ _ c.requires

pub overflow_sub-m : goal.overflow_sub-m
overflow_sub-m c = let z = (apart_many _ _ c.args.places.now _ c.arity_at-m.ensures c.requires).0 in omega arith

pub put_joined-requires : goal.put_joined-requires
put_joined-requires c = (omega arith, let z = (apart_many _ _ c.args.places.now _ c.arity_at-m.ensures c.requires).1 in omega arith)

pub put_row-requires-clause-shares : goal.put_row-requires-clause-shares
put_row-requires-clause-shares c = (besides c.args.single, λ i o g. besides_share _ _ _ _ (search rules))

pub put_row-requires-clause-node : goal.put_row-requires-clause-node
put_row-requires-clause-node c = apart_row _ _ _ c.requires

pub returns : goal.returns
returns c = apart_built _ _ _ _ c.arity_at-m.ensures _ _ c.put_word.ensures _ c.put_word-2.ensures _ c.copy_at.ensures _
    c.put_joined.ensures _ _ (λ i o g. besides_share _ _ _ _ (search rules)) c.put_row.ensures
