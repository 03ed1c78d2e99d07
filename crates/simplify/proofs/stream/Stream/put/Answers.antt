-- `simplify::stream::Stream::put` meets its contract.
use Rattle.simplify.proofs.LineTexts.{frame_text, refusal_text}
use Rattle.simplify.proofs.stream.Stream.put.Goals as goal

pub returns-in-Ok-clause-adds : goal.returns-in-Ok-clause-adds
returns-in-Ok-clause-adds c = λ held r. rw (← frame_text held c.in-Ok.frame.now (c.in-Ok.ensures held r)) c.put_run.ensures

pub returns-in-Err-clause-adds : goal.returns-in-Err-clause-adds
returns-in-Err-clause-adds c = λ held r. rw (← refusal_text held c.in-Err.refusal (c.in-Err.ensures held r), ← c.from.ensures) c.put_refused.ensures
