use mathlib.Core.Path.{◌≡◌, ap, ◌∙◌}
use Rattle.std.proofs.Common.{rules}
use Rattle.std.proofs.lemmas.Iterator.{YieldsList-from_slice}
use Rattle.std.proofs.lemmas.Iterator.Search.{any_from_yields_List}
use Rattle.std.specs.List.{list_any}
use Rattle.programs.specs.Parts.{asks_type}
use Rattle.filling.specs.Operands.{asks_types}
use Rattle.filling.proofs.Fills.{asks_any}
use Rattle.filling.proofs.asks_types.Goals as goal

pub returns : goal.returns
returns c =
    let e : c.any.result ≡ list_any asks_type c.program_of.result.now =
    any_from_yields_List asks_type _ _ c.any.result c.any.ensures.ran (YieldsList-from_slice c.program_of.result.now cc) (λ x b k q. search rules) in
    e ∙ asks_any c.program_of.result.now ∙ ap asks_types c.program_of.ensures
