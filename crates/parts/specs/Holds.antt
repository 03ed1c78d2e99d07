-- What a template's parts are filled with, as it stands in the slices of the operands; the contracts of filling.
use Rattle.std.specs.Prelude.{◌≡◌, ◌<◌, List, [], ◌∷◌, ℕ, zero, suc, length, Option}
use Rattle.frame.specs.Encoding.{enc_tys, enc_ty, enc}
use Rattle.put.specs.Out.{Puts}
use Rattle.templates.specs.Template.{Part, tag, byte, operand, type, expression, binders, Filling, operand_at, type_at, filled}
use Rattle.programs.specs.Parts.{part_then}
use Rattle.programs.specs.declared.Part as C
use Rattle.parts.specs.declared.OperandBytes.{OperandBytes}
use Rattle.parts.specs.declared.Operands.{Operands}

-- the operands by their number; only 0 and 1 are in use
abbrev pub bytes_of : Operands → ℕ → OperandBytes
bytes_of r zero = r.first
bytes_of r (suc i) = r.second

abbrev pub subtree_of : Operands → ℕ → List ℕ
subtree_of r i = (bytes_of r i).subtree.now

abbrev pub type_of : Operands → ℕ → List ℕ
type_of r i = (bytes_of r i).own_type.now

-- what a part asks of the operands: the bytes of the operands, of their types and of the binders. Tags and bytes ask for nothing
-- and are left out, so that at a given place this is what its operands, types and binders ask for, in the template's order.
unfoldable pub Holds : Operands → Filling → List Part → Type 0
Holds r f [] = Unit {0}
Holds r f (tag g ∷ ps) = Holds r f ps
Holds r f (byte c ∷ ps) = Holds r f ps
Holds r f (operand i ∷ ps) = (subtree_of r i ≡ enc (operand_at i f.operands)) × Holds r f ps
Holds r f (type m i ∷ ps) = (type_of r i ≡ enc_ty (type_at i f.types)) × Holds r f ps
Holds r f (expression m i ∷ ps) = (type_of r i ≡ enc_ty (type_at i f.types)) × Holds r f ps
Holds r f (binders ∷ ps) = (r.binders.now ≡ length f.binder_types ∷ enc_tys f.binder_types) × Holds r f ps

-- ---- parts
-- a tag has two bytes
unfoldable pub TagsFit : List Part → Type 0
TagsFit [] = Unit {0}
TagsFit (tag g ∷ ps) = (g < 65536) × TagsFit ps
TagsFit (byte c ∷ ps) = TagsFit ps
TagsFit (operand i ∷ ps) = TagsFit ps
TagsFit (type m i ∷ ps) = TagsFit ps
TagsFit (expression m i ∷ ps) = TagsFit ps
TagsFit (binders ∷ ps) = TagsFit ps

pub record Ready (ps : List Part) (r : Operands) : Type 0 where
  pub filling : Filling
  pub holds : Holds r filling ps
  pub fit : TagsFit ps

pub record Filled (ps : List Part) (r : Operands) (o p : Option (List ℕ)) : Type 0 where
  pub puts : (f : Filling) → Holds r f ps → Puts o p (filled ps f)

-- the same of a part of the code, and of several
abbrev pub PartReady : C.Part → Operands → Type 0
PartReady c r = Ready (part_then c []) r

abbrev pub PartPut : C.Part → Operands → Option (List ℕ) → Option (List ℕ) → Type 0
PartPut c r o p = Filled (part_then c []) r o p

-- ---- a template
abbrev pub Fillable : List Part → Operands → Type 0
Fillable ps r = (f : Filling) × Holds r f ps
