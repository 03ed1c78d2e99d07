-- `heads::known_opening` meets its contract.
use native.Mathlib.Omega.{arith}
use Rattle.heads.proofs.KnownTurns.{known_two, known_room, known_opened}
use Rattle.heads.proofs.known_opening.Goals as goal

pub number-tag-requires : goal.number-tag-requires
number-tag-requires c = (known_two _ _ c.requires, omega arith)

pub overflow_add-at : goal.overflow_add-at
overflow_add-at c = omega (arith, known_two _ _ c.requires)

pub number-requires : goal.number-requires
number-requires c =
    let r = known_room _ _ _ c.number-tag.ensures _ c.form_of-form.ensures c.requires in
    (omega (arith, c.width-w.ensures.0), c.width-w.ensures.1)

pub overflow_add-result : goal.overflow_add-result
overflow_add-result c = omega (arith, known_two _ _ c.requires)

pub overflow_add-result-2 : goal.overflow_add-result-2
overflow_add-result-2 c =
    let r = known_room _ _ _ c.number-tag.ensures _ c.form_of-form.ensures c.requires in
    omega (arith, c.width-w.ensures.0)

pub returns : goal.returns
returns c = known_opened _ _ _ c.number-tag.ensures _ c.form_of-form.ensures _ c.width-w.ensures.0 _ c.number.ensures c.requires
