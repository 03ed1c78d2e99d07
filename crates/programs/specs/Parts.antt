-- What the code's parts stand for: parts of a template (templates/specs/Template.antt).
use Rattle.std.specs.Prelude.{Bool, true, false, List, [], ◌∷◌, ℕ}
use Rattle.templates.specs.Template.{
  Mode,
  whole,
  of_dom,
  of_ran,
  of_element,
  of_elements,
  of_source,
  Part,
  tag,
  byte,
  operand,
  type,
  expression,
  binders,
}
use Rattle.templates.specs.Programs.{is_empty, is_type}
use Rattle.programs.specs.declared.Operand.{Operand}
use Rattle.programs.specs.declared.Operand.TheVariants as O
use Rattle.programs.specs.declared.Made.{Made}
use Rattle.programs.specs.declared.Made.TheVariants as M
use Rattle.programs.specs.declared.Part as C
use Rattle.programs.specs.declared.Part.TheVariants as P

abbrev pub number_of : Operand → ℕ
number_of O.First = 0
number_of O.Second = 1

abbrev pub mode_of : Made → Mode
mode_of M.Whole = whole
mode_of M.Domain = of_dom
mode_of M.Range = of_ran
mode_of M.Element = of_element
mode_of M.Elements = of_elements
mode_of M.Source = of_source

-- a part of the code, and then more parts
abbrev pub part_then : C.Part → List Part → List Part
part_then (P.Tag g) ps = tag g ∷ ps
part_then (P.Count c) ps = byte c ∷ ps
part_then (P.Subtree i) ps = operand (number_of i) ∷ ps
part_then (P.Type m i) ps = type (mode_of m) (number_of i) ∷ ps
part_then (P.Expression m i) ps = expression (mode_of m) (number_of i) ∷ ps
part_then P.Binders ps = binders ∷ ps
part_then (P.Empty i) ps = is_empty (number_of i) ps
part_then (P.Full i) ps = is_type (number_of i) ps

abbrev pub parts_of : List C.Part → List Part
parts_of [] = []
parts_of (p ∷ ps) = part_then p (parts_of ps)

-- the part needs the type of an operand
abbrev pub asks_type : C.Part → Bool
asks_type (P.Tag g) = false
asks_type (P.Count c) = false
asks_type (P.Subtree i) = false
asks_type (P.Type m i) = true
asks_type (P.Expression m i) = true
asks_type P.Binders = false
asks_type (P.Empty i) = true
asks_type (P.Full i) = true
