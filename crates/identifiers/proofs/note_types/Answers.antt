use native.Mathlib.Omega.{arith}
use Rattle.identifiers.proofs.NotingTypes.{going_done, going_beyond, going_room, going_number, going_clash, going_forward, going_further, going_other, going_given}
use Rattle.identifiers.proofs.note_types.Goals as goal
use Rattle.identifiers.proofs.note_types.Goals.{then-b-eq-GIVEN_SET+else-table-n+else-not-note_given, else-b-eq-GIVEN_SET}

pub bounds-s-p : goal.bounds-s-p
bounds-s-p c = omega (arith, going_room _ _ _ _ _ _ _ c.loop-left.invariant)

pub number-n-requires : goal.number-n-requires
number-n-requires c = (
  omega (
    arith,
    (going_number _ _ _ _ _ _ _ c.loop-left.invariant (omega arith)
        c.if-b-eq-GIVEN_SET.true).0,
  ),
  omega arith,
)

pub returns-then-table-n : goal.returns-then-table-n
returns-then-table-n c = going_beyond _ _ _ _ _ _ _ c.loop-left.invariant (omega arith) c.if-b-eq-GIVEN_SET.true _ c.number-n.ensures (omega arith)

pub note_given-requires : goal.note_given-requires
note_given-requires c = (omega (arith, (going_number _ _ _ _ _ _ _ c.loop-left.invariant (omega arith) c.if-b-eq-GIVEN_SET.true).1), omega arith, c.loop-left.invariant.held)

pub returns-then-not-note_given : goal.returns-then-not-note_given
returns-then-not-note_given c = going_clash _ _ _ _ _ _ _ c.loop-left.invariant (omega arith) c.if-b-eq-GIVEN_SET.true _ c.number-n.ensures _ _ c.note_given.ensures
    c.if-not-note_given.true

pub overflow_add-left : goal.overflow_add-left
overflow_add-left c = omega (arith, going_further _ _ _ _ _ _ _ c.loop-left.invariant (omega arith) _ _ c.type_bytes-p.ensures c.type_parts.ensures)

pub loop-left-smaller : goal.loop-left-smaller
loop-left-smaller c = omega (
  arith,
  going_forward _ _ _ _ _ _ _ c.loop-left.invariant (omega arith) _ _ c.type_bytes-p.ensures
      c.type_parts.ensures,
  going_further _ _ _ _ _ _ _ c.loop-left.invariant (omega arith) _ _ c.type_bytes-p.ensures
      c.type_parts.ensures,
)

pub loop-left-preserved : goal.loop-left-preserved
loop-left-preserved c =
    elim c.if-b-eq-GIVEN_SET.branch [
      | then-b-eq-GIVEN_SET+else-table-n+else-not-note_given w ↦
          going_given _ _ _ _ _ _ _ c.loop-left.invariant (omega arith) _ _ c.type_bytes-p.ensures c.type_parts.ensures
          w.if-b-eq-GIVEN_SET.true _ w.number-n.ensures _ _ w.note_given.ensures w.if-not-note_given.false _ w.table-is
      | else-b-eq-GIVEN_SET w ↦
          going_other _ _ _ _ _ _ _ c.loop-left.invariant (omega arith) _ _ c.type_bytes-p.ensures c.type_parts.ensures
          w.if-b-eq-GIVEN_SET.false _ w.table-is
    ]

pub returns : goal.returns
returns c = going_done _ _ _ _ _ _ _ c.loop-left.invariant (omega arith)
