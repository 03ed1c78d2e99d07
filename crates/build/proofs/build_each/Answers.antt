use Rattle.build.proofs.SubtreeTurns.{joint_small, each_placed, each_count, each_row, each_built}
use Rattle.build.proofs.build_each.Goals as goal

pub arity_at-m-requires : goal.arity_at-m-requires
arity_at-m-requires c = each_placed _ _ _ _ c.requires

pub put_many-requires : goal.put_many-requires
put_many-requires c = (joint_small c.args.place _ c.joint.ensures, each_count _ _ _ _ _ c.arity_at-m.ensures c.requires)

pub fill_row-requires : goal.fill_row-requires
fill_row-requires c = each_row _ _ _ _ _ c.arity_at-m.ensures c.requires

pub returns : goal.returns
returns c = each_built _ _ _ _ _ c.arity_at-m.ensures _ _ c.joint.ensures _ c.put_many.ensures _ c.fill_row.ensures
