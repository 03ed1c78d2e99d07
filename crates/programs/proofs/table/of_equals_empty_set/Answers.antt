use mathlib.Core.Path.{◌≡◌, refl}
use mathlib.Core.Logic.{◌⊎◌}
use native.Mathlib.Omega.{arith}
use Rattle.templates.specs.Programs.{template, find_row, templates, among}
use Rattle.programs.proofs.Places.{at_one, at_either}
use Rattle.programs.proofs.table.of_equals_empty_set.Goals as goal

pub returns-in_default : goal.returns-in_default
unfolding template find_row templates among
returns-in_default c = let z : (c.args.place ≡ 37) ⊎ (c.args.place ≡ 38) = grind arith in at_either 37 _ refl (at_one 38 _ refl) z
