use Rattle.rewriter.proofs.InterTurns.{minus_tag}
use Rattle.rewriter.proofs.inter.is_minus.Goals as goal

pub returns : goal.returns
returns c = minus_tag _ _ _ _ c.tag_at.ensures
