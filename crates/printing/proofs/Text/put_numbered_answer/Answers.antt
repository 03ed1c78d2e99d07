-- `printing::Text::put_numbered_answer` meets its contract.
use Rattle.std.proofs.Common.{arith}
use Rattle.printing.proofs.AnswerTexts.{numbered_ended_room, numbered_ended_post, numbered_refused_post}
use Rattle.printing.proofs.Text.put_numbered_answer.Goals as goal

pub put_ended-requires : goal.put_ended-requires
put_ended-requires c = numbered_ended_room _ _ _ c.in-Ok.is c.requires.0 _ c.word_of.ensures _ c.requires.1

pub returns-in-Ok : goal.returns-in-Ok
returns-in-Ok c = numbered_ended_post _ _ _ c.in-Ok.is c.requires.0 _ c.word_of.ensures _ _ c.put_ended.ensures

pub returns-in-Err : goal.returns-in-Err
returns-in-Err c = numbered_refused_post _ _ _ c.in-Err.is (omega arith) _ _ c.put_refused.ensures
