-- `lines::LineReader::read` meets its contract.
use Rattle.std.proofs.Common.{◌++◌, subst}
use Rattle.std.proofs.Math.Seq.{take_all}
use Rattle.lines.specs.LineReads.{Reads}
use Rattle.lines.proofs.LineReader.read.Goals as goal

pub returns : goal.returns
returns c = λ cs r. subst (λ s. Reads c.loop-c.self (cs ++ s)) (take_all _ _ c.loop-c-test.false) (c.loop-c.invariant cs r)
