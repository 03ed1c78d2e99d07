use Rattle.claims.proofs.Noting.{name_new, name_mark, name_place, type_room}
use Rattle.claims.proofs.note_identifier.Goals as goal

pub returns-in-None : goal.returns-in-None
returns-in-None c = let l = type_room _ _ _ c.requires.2.fits c.requires.3 in name_new _ _ _ _ _ c.requires.1 l.2 c.in-None.ensures

pub returns-in-Some-GivenSet : goal.returns-in-Some-GivenSet
returns-in-Some-GivenSet c = name_mark _ _ _ _ _ (rw c.in-Some-GivenSet.field-0-is at c.in-Some-GivenSet.ensures) _ c.is_power.ensures

pub returns-in-Some-Identifier : goal.returns-in-Some-Identifier
returns-in-Some-Identifier c = name_place _ _ _ _ _ c.requires.2 _ (rw c.in-Some-Identifier.field-0-is at c.in-Some-Identifier.ensures) _ c.same_type.ensures
