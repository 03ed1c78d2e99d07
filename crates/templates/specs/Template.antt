-- Right sides as data: the parts of a built tree's bytes, for each place of the source that builds by a fixed pattern.
use Rattle.std.specs.Prelude.{List, [], ◌∷◌, ◌++◌, ℕ, zero, suc, length}
use Rattle.frame.specs.Types.{Ty, bool, pow}
use Rattle.frame.specs.Trees.{Tree, leaf}
use Rattle.frame.specs.Encoding.{enc_number, enc_tys, enc_ty, enc}
use Rattle.typing.specs.Typing.{element, source, target}
use Rattle.typing.specs.TypeExpression.{to_expression}

-- a type made from an operand's type t: t itself; of dom(r), ran(r); of its elements, of their elements; of its source
pub data Mode : Type 0 where
  whole of_dom of_ran of_element of_elements of_source : Mode

abbrev pub made : Mode → Ty → Ty
made whole t = t
made of_dom t = pow (source t)
made of_ran t = pow (target t)
made of_element t = element t
made of_elements t = element (element t)
made of_source t = source t

pub data Part : Type 0 where
  -- a tag; a count byte
  tag : ℕ → Part
  byte : ℕ → Part
  -- operand i
  operand : ℕ → Part
  -- the bytes of a type made from the type of operand i, and the nodes of its type expression
  type : Mode → ℕ → Part
  expression : Mode → ℕ → Part
  -- the binders: their count and types
  binders : Part

-- what a template is filled with: the operands, their types, the types of the binders
pub record Filling : Type 0 where
  pub operands : List Tree
  pub types : List Ty
  pub binder_types : List Ty

abbrev pub operand_at : ℕ → List Tree → Tree
operand_at i [] = leaf 610
operand_at zero (t ∷ ts) = t
operand_at (suc i) (t ∷ ts) = operand_at i ts

abbrev pub type_at : ℕ → List Ty → Ty
type_at i [] = bool
type_at zero (t ∷ ts) = t
type_at (suc i) (t ∷ ts) = type_at i ts

abbrev pub part_bytes : Filling → Part → List ℕ
part_bytes f (tag g) = enc_number 2 g
part_bytes f (byte c) = c ∷ []
part_bytes f (operand i) = enc (operand_at i f.operands)
part_bytes f (type m i) = enc_ty (made m (type_at i f.types))
part_bytes f (expression m i) = enc (to_expression (made m (type_at i f.types)))
part_bytes f binders = length f.binder_types ∷ enc_tys f.binder_types

unfoldable pub filled : List Part → Filling → List ℕ
filled [] f = []
filled (p ∷ ps) f = part_bytes f p ++ filled ps f
