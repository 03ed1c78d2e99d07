use Rattle.heads.proofs.KnownTurns.{known_types, known_end}
use Rattle.heads.proofs.head_end.Goals as goal

pub skip_types-requires : goal.skip_types-requires
skip_types-requires c = known_types _ _ _ c.known_opening-opening.ensures _ c.many_types.ensures (λ i. (c.type_inv.s i).fits) c.requires

pub returns : goal.returns
returns c = known_end _ _ _ c.known_opening-opening.ensures _ c.many_types.ensures (λ i. (c.type_inv.s i).fits) _ c.skip_types.ensures
