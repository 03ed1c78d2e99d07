use mathlib.Core.Path.{◌≡◌, refl}
use mathlib.Core.Logic.{◌⊎◌}
use native.Mathlib.Omega.{arith}
use Rattle.templates.specs.Programs.{template, find_row, templates, among}
use Rattle.programs.proofs.Places.{at_one, at_either}
use Rattle.programs.proofs.table.of_finite.Goals as goal

pub returns-in-6 : goal.returns-in-6
unfolding template find_row templates among
returns-in-6 c = let z : (c.args.place ≡ 6) ⊎ ((c.args.place ≡ 7) ⊎ ((c.args.place ≡ 9) ⊎ (c.args.place ≡ 12))) = grind arith in
    at_either 6 _ refl (at_either 7 _ refl (at_either 9 _ refl (at_one 12 _ refl))) z

pub returns-in_default : goal.returns-in_default
unfolding template find_row templates among
returns-in_default c = let z : c.args.place ≡ 0 = grind arith in rw z refl
