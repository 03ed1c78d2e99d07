-- `lines::LineReader::frame` meets its contract.
use Rattle.lines.proofs.LineReading.{answer_bad, answer_of}
use Rattle.lines.proofs.LineReader.frame.Goals as goal

pub returns-in-Nothing : goal.returns-in-Nothing
returns-in-Nothing c = λ cs r. rw c.ok_or.ensures.value (answer_of c.args.self.now cs r c.in-Nothing.is c.frame.result c.frame.ensures.bytes)

pub returns-in_default : goal.returns-in_default
returns-in_default c = λ cs r. answer_bad c.args.self.now cs r c.in_default.not-Nothing
