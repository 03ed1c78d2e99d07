-- `lustrejasper::lustrejasper_check` meets its contract.
use Rattle.std.proofs.Common.{◌∙◌, ap}
use Rattle.words.specs.Words.{numbered_check_word, by_number}
use Rattle.words.proofs.Numbers.{numbered_check_word_lem, numbered_lem}
use Rattle.lustrejasper.proofs.lustrejasper_check.Goals as goal

pub returns : goal.returns
returns c =
    let answer = numbered_lem _ _ c.map_err-answer.ensures.cases ∙ ap by_number c.check.ensures in
    c.numbered_check_word.ensures ∙ ap numbered_check_word answer ∙ numbered_check_word_lem c.args.frame.now
