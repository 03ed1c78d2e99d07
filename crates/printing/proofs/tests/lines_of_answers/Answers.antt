-- The test of `printing::Text::put_answer` meets what that asks.
use Rattle.std.proofs.Common.{refl, arith, rules}
use Rattle.run.specs.Run.{SPENT}
use Rattle.printing.proofs.AnswerPres.{refused_pre, ended_pre}
use Rattle.printing.proofs.tests.lines_of_answers.Goals as goal

pub put_answer-requires : goal.put_answer-requires
put_answer-requires g c = (refused_pre _ _ refl, search rules)

pub put_answer-requires-2 : goal.put_answer-requires-2
put_answer-requires-2 g c = (ended_pre SPENT 12 2 _ (omega arith) (omega arith) refl, search rules)
