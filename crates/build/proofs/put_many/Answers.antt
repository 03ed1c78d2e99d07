use Rattle.build.proofs.SubtreeTurns.{many_byte}
use native.Mathlib.Omega.{arith}
use Rattle.build.proofs.put_many.Goals as goal

pub returns : goal.returns
returns c = many_byte _ _ _ _ c.put_word.ensures _ _ (omega arith) c.put_byte.ensures
