use mathlib.Core.Path.{◌∙◌}
use Rattle.put.proofs.Puts.{puts_as, word_each}
use Rattle.put.proofs.Writer.put_word.Goals as goal

pub returns : goal.returns
returns c = puts_as _ _ _ _ (c.to_be_bytes.ensures ∙ word_each c.args.w c.requires) c.put_copy.ensures
