use mathlib.Core.Path.{refl}
use Rattle.nav.proofs.PlaceTurns.{rooted_head, arity_read}
use Rattle.nav.proofs.children_at.Goals as goal

pub known_opening-opening-requires : goal.known_opening-opening-requires
known_opening-opening-requires c = rooted_head _ _ c.requires

pub returns : goal.returns
returns c = let o = c.known_opening-opening.ensures in arity_read _ _ _ _ _ o.tag o.form refl _ o.number _ c.children.ensures
