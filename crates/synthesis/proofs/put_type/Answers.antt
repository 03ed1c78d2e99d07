use Rattle.synthesis.proofs.OwnTurns.{put_is}
use Rattle.synthesis.proofs.put_type.Goals as goal

pub returns : goal.returns
returns c = put_is _ _ _ _ _ c.type_end-e.ensures c.requires c.if-e-p-gt-TYPE_LIMIT.false _ c.copy_in.ensures
