use Rattle.stepping.proofs.Turns.{held_none, held_expression, held_decide, held_rests, held_splice, held_out, held_done}
use Rattle.stepping.proofs.step_held.Goals.{then-places-k-via-then-places-k, then-places-k-via-else-places-k+then-is_expression_at}
use Rattle.stepping.proofs.step_held.Goals as goal

pub returns-then-places-k : goal.returns-then-places-k
returns-then-places-k c = elim c.then-places-k.branch [
  | then-places-k-via-then-places-k w ↦ held_none _ c.requires _ _ w.if-places-k.true
  | then-places-k-via-else-places-k+then-is_expression_at w ↦ held_expression _ c.requires _ _ w.if-places-k.false _ w.is_expression_at.ensures w.if-is_expression_at.true
]

pub decide-requires : goal.decide-requires
decide-requires c = held_decide _ c.requires _ c.args.out.now c.if-places-k.false

pub returns-in_default : goal.returns-in_default
returns-in_default c = held_rests _ c.requires _ _ c.if-places-k.false _ c.is_expression_at.ensures c.if-is_expression_at.false _ _ c.decide.ensures c.in_default.is

pub splice-requires : goal.splice-requires
splice-requires c = held_splice _ c.requires _ c.args.out.now c.if-places-k.false _ c.is_expression_at.ensures c.if-is_expression_at.false _ _ c.decide.ensures _
    c.in-Some.is

pub write_out-requires : goal.write_out-requires
write_out-requires c = rw c.frame.ensures.bytes (held_out _ c.requires _ c.args.out.now c.if-places-k.false _ c.is_expression_at.ensures
    c.if-is_expression_at.false _ _ c.decide.ensures _ c.in-Some.is _ c.splice.ensures)

pub returns : goal.returns
returns c = held_done _ c.requires _ _ c.if-places-k.false _ c.is_expression_at.ensures c.if-is_expression_at.false _ _ c.decide.ensures _ c.in-Some.is _
    c.splice.ensures _ _ (rw c.frame.ensures.bytes at c.write_out.ensures)
