-- `lustrejasper::lustrejasper_run` meets its contract.
use Rattle.std.proofs.Common.{◌∙◌, ap, length}
use Rattle.words.specs.Words.{numbered_run_word, by_number}
use Rattle.words.proofs.Numbers.{numbered_run_word_lem, numbered_lem}
use Rattle.words.proofs.Short.{numbered_run_short}
use Rattle.lustrejasper.proofs.lustrejasper_run.Goals as goal

pub numbered_run_word-requires : goal.numbered_run_word-requires
numbered_run_word-requires c =
    let answer = numbered_lem _ _ c.map_err-answer.ensures.cases ∙ ap by_number c.run.ensures.0 in
    numbered_run_short c.args.frame.now (λ i. (c.type_inv.frame i).fits) _ _ _ answer

pub returns-clause-word : goal.returns-clause-word
returns-clause-word c =
    let answer = numbered_lem _ _ c.map_err-answer.ensures.cases ∙ ap by_number c.run.ensures.0 in
    c.numbered_run_word.ensures ∙ ap numbered_run_word answer ∙ numbered_run_word_lem c.args.frame.now c.args.budget (length c.args.out.now)
