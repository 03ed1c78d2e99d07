use mathlib.Core.Path.{◌∙◌}
use Rattle.identifiers.proofs.TreeNames.{all_agreed}
use Rattle.identifiers.proofs.names_ok.Goals as goal

pub returns : goal.returns
returns c = λ t a. c.unwrap_or.ensures ∙ all_agreed t _ (c.names_below-3.ensures t a)
