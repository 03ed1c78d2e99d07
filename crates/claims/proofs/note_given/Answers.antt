use Rattle.claims.proofs.Noting.{given_new, given_mark_lem, given_place}
use Rattle.claims.proofs.note_given.Goals as goal

pub returns-in-None : goal.returns-in-None
returns-in-None c = given_new _ _ _ c.requires.1 c.in-None.ensures

pub returns-in-Some-GivenSet : goal.returns-in-Some-GivenSet
returns-in-Some-GivenSet c = given_mark_lem _ _ _ (rw c.in-Some-GivenSet.field-0-is at c.in-Some-GivenSet.ensures)

pub returns-in-Some-Identifier : goal.returns-in-Some-Identifier
returns-in-Some-Identifier c = given_place _ _ _ c.requires.2 _ (rw c.in-Some-Identifier.field-0-is at c.in-Some-Identifier.ensures) _ c.is_power.ensures
