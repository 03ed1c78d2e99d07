use Rattle.heads.proofs.TypeEnds.{type_stands, type_ends}
use Rattle.heads.proofs.type_end.Goals as goal

pub skip_types-requires : goal.skip_types-requires
skip_types-requires c = type_stands _ _ c.requires

pub returns : goal.returns
returns c = type_ends _ _ _ c.skip_types.ensures
