-- `lustrejasper::lustrejasper_step` meets its contract.
use Rattle.std.proofs.Common.{◌∙◌, ap, length}
use Rattle.words.specs.Words.{numbered_step_word, by_number}
use Rattle.words.proofs.Numbers.{numbered_step_word_lem, numbered_lem}
use Rattle.words.proofs.Short.{numbered_step_short}
use Rattle.lustrejasper.proofs.lustrejasper_step.Goals as goal

pub numbered_step_word-requires : goal.numbered_step_word-requires
numbered_step_word-requires c =
    let answer = numbered_lem _ _ c.map_err-answer.ensures.cases ∙ ap by_number c.step.ensures.0 in
    numbered_step_short c.args.frame.now (λ i. (c.type_inv.frame i).fits) _ _ _ answer

pub returns-clause-word : goal.returns-clause-word
returns-clause-word c =
    let answer = numbered_lem _ _ c.map_err-answer.ensures.cases ∙ ap by_number c.step.ensures.0 in
    c.numbered_step_word.ensures ∙ ap numbered_step_word answer ∙ numbered_step_word_lem c.args.frame.now c.args.place (length c.args.out.now)
