use Rattle.std.proofs.Common.{rules}
use Rattle.build.specs.Rows.{minuend_bytes, subtrahend_bytes}
use native.Mathlib.Omega.{arith}
use Rattle.build.proofs.InterSubtrees.{within_placed, within_many, within_minus, within_row, within_built}
use Rattle.build.proofs.build_within.Goals as goal

pub arity_at-m-requires : goal.arity_at-m-requires
arity_at-m-requires c = within_placed _ _ c.requires

pub put_joined-requires : goal.put_joined-requires
put_joined-requires c = (omega arith, within_many _ _ _ c.arity_at-m.ensures c.requires)

pub put_row-requires-clause-shares : goal.put_row-requires-clause-shares
put_row-requires-clause-shares c = (minuend_bytes, λ i o g. search rules)

pub put_row-requires-clause-node : goal.put_row-requires-clause-node
put_row-requires-clause-node c = within_row _ _ c.requires

pub count_minus-d-requires : goal.count_minus-d-requires
count_minus-d-requires c = within_row _ _ c.requires

pub put_joined-requires-2 : goal.put_joined-requires-2
put_joined-requires-2 c = (omega arith, within_minus _ _ _ c.arity_at-m.ensures c.requires _ c.count_minus-d.ensures)

pub put_row-requires-2-clause-shares : goal.put_row-requires-2-clause-shares
put_row-requires-2-clause-shares c = (subtrahend_bytes, λ i o g. search rules)

pub put_row-requires-2-clause-node : goal.put_row-requires-2-clause-node
put_row-requires-2-clause-node c = within_row _ _ c.requires

pub returns : goal.returns
returns c = within_built _ _ _ c.arity_at-m.ensures _ _ c.put_word.ensures _ c.put_joined.ensures _ _ (λ i o g. search rules) c.put_row.ensures _
    c.count_minus-d.ensures _ c.put_joined-2.ensures _ _ (λ i o g. search rules) c.put_row-2.ensures
