-- `printing::Text::put_answer` meets its contract.
use Rattle.std.proofs.Common.{arith}
use Rattle.printing.proofs.NumberedAnswers.{numbered_pre, numbered_post, ended_maps, refused_maps}
use Rattle.printing.proofs.Text.put_answer.Goals as goal

pub put_numbered_answer-requires : goal.put_numbered_answer-requires
put_numbered_answer-requires c = (numbered_pre _ _ _ (ended_maps _ _ c.in-Ok.is) c.requires.0, c.requires.1)

pub returns-in-Ok : goal.returns-in-Ok
returns-in-Ok c = numbered_post _ _ _ (ended_maps _ _ c.in-Ok.is) _ _ c.put_numbered_answer.ensures

pub put_numbered_answer-requires-in-Err : goal.put_numbered_answer-requires-in-Err
put_numbered_answer-requires-in-Err c =
    (numbered_pre _ _ _ (refused_maps _ _ _ c.in-Err.is (omega (arith, c.from.ensures))) c.requires.0, c.requires.1)

pub returns-in-Err : goal.returns-in-Err
returns-in-Err c = numbered_post _ _ _ (refused_maps _ _ _ c.in-Err.is (omega (arith, c.from.ensures))) _ _ c.put_numbered_answer-in-Err.ensures
