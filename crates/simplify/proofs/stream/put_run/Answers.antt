-- `simplify::stream::put_run` meets its contract.
use Rattle.std.proofs.Common.{replicate, refl}
use Rattle.run.specs.Run.{run}
use Rattle.program.specs.Text.{budget, lent}
use Rattle.simplify.proofs.LineTexts.{numbered_run_answers}
use Rattle.simplify.proofs.stream.put_run.Goals as goal

pub put_numbered_answer-requires : goal.put_numbered_answer-requires
put_numbered_answer-requires c =
    ((_, numbered_run_answers c.args.frame.now (λ i. (c.type_inv.frame i).fits) (replicate 4096 0) refl _ _ _ c.run.ensures c.map_err-answer.ensures.cases), c.requires)

pub returns : goal.returns
returns c = c.put_numbered_answer.ensures.puts (run c.args.frame.now budget lent)
    (numbered_run_answers c.args.frame.now (λ i. (c.type_inv.frame i).fits) (replicate 4096 0) refl _ _ _ c.run.ensures c.map_err-answer.ensures.cases)
