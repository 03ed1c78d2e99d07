use mathlib.Core.Path.{◌≡◌, refl}
use mathlib.Core.Logic.{◌⊎◌}
use native.Mathlib.Omega.{arith}
use Rattle.templates.specs.Programs.{template, find_row, templates, among}
use Rattle.programs.proofs.Places.{at_one, at_either}
use Rattle.programs.proofs.table.of_connective.Goals as goal

pub returns-in-64 : goal.returns-in-64
unfolding template find_row templates among
returns-in-64 c = let z : (c.args.place ≡ 64) ⊎ ((c.args.place ≡ 66) ⊎ ((c.args.place ≡ 73) ⊎ ((c.args.place ≡ 74) ⊎ ((c.args.place ≡ 75)
    ⊎ ((c.args.place ≡ 76) ⊎ (c.args.place ≡ 84)))))) = grind arith in
    at_either 64 _ refl (at_either 66 _ refl (at_either 73 _ refl (at_either 74 _ refl (at_either 75 _ refl (at_either 76 _ refl (at_one 84 _ refl)))))) z

pub returns-in-67 : goal.returns-in-67
unfolding template find_row templates among
returns-in-67 c = let z : (c.args.place ≡ 67) ⊎ ((c.args.place ≡ 68) ⊎ ((c.args.place ≡ 70) ⊎ ((c.args.place ≡ 71) ⊎ ((c.args.place ≡ 77)
    ⊎ (c.args.place ≡ 83))))) = grind arith in
    at_either 67 _ refl (at_either 68 _ refl (at_either 70 _ refl (at_either 71 _ refl (at_either 77 _ refl (at_one 83 _ refl))))) z

pub returns-in-69 : goal.returns-in-69
unfolding template find_row templates among
returns-in-69 c = let z : (c.args.place ≡ 69) ⊎ ((c.args.place ≡ 72) ⊎ ((c.args.place ≡ 78) ⊎ (c.args.place ≡ 79))) = grind arith in
    at_either 69 _ refl (at_either 72 _ refl (at_either 78 _ refl (at_one 79 _ refl))) z

pub returns-in_default : goal.returns-in_default
unfolding template find_row templates among
returns-in_default c = let z : (c.args.place ≡ 62) ⊎ ((c.args.place ≡ 63) ⊎ (c.args.place ≡ 65)) = grind arith in
    at_either 62 _ refl (at_either 63 _ refl (at_one 65 _ refl)) z
