-- What the code of src/lib.rt asks and answers.
use Rattle.std.specs.Prelude.{◌≡◌, Bool, true, false, List, [], ◌∷◌, ℕ, ◌+◌, ◌*◌, ◌≤◌, ◌<◌, length, Option}
use Rattle.frame.specs.Types.{Ty}
use Rattle.frame.specs.Trees.{head, Tree, node, Forest, nodes}
use Rattle.frame.specs.Tags.{predicate, form_of}
use Rattle.frame.specs.Encoding.{enc_ty, enc_tys, enc}
use Rattle.frame.specs.Places.{Ctx, found, find}
use Rattle.typing.specs.Typing.{type_of}
use Rattle.heads.specs.Leaves.{LeavesAt}
use Rattle.typing.specs.Accepted.{Accepted}
use Rattle.typing.specs.Signature.{signature}
use Rattle.nav.specs.AtPlaces.{PlacesOf}
use Rattle.nav.specs.PlaceTables.{Framed}
use Rattle.nav.specs.declared.Places.{Places}
use Rattle.put.specs.Out.{Puts}
use Rattle.templates.specs.Template.{Part, tag, byte, operand, type, expression, binders, filled}
use Rattle.templates.specs.Programs.{template}
use Rattle.decision.specs.Decision.{filling, has_binders, Bound}

-- the template asks for a type made from an operand's
unfoldable pub asks_types : List Part → Bool
asks_types [] = false
asks_types (tag g ∷ ps) = asks_types ps
asks_types (byte c ∷ ps) = asks_types ps
asks_types (operand i ∷ ps) = asks_types ps
asks_types (type m i ∷ ps) = true
asks_types (expression m i ∷ ps) = true
asks_types (binders ∷ ps) = asks_types ps

-- an accepted tree t, its frame s with the table of node starts, and the table of its bound identifiers' types
pub record Held (s st leaves : List ℕ) (n : ℕ) (t : Tree) : Type 0 where
  pub framed : Framed s t st n
  pub leafs : LeavesAt t [] 0 s leaves
  pub accepted : Accepted (signature t) t [] predicate

-- the same of a frame with its tables
abbrev pub HeldIn : Places → Tree → Type 0
HeldIn p t = Held p.bytes.now p.starts.now p.leaves.now p.count t

-- ---- one operand's type
pub record TypeOfPre (p : Places) (k : ℕ) : Type 0 where
  pub t : Tree
  pub held : HeldIn p t
  pub below : k < nodes t

-- the buffer has room for a type of 64 bytes for each node of the subtree at place k
pub record WorkFor (p : Places) (k : ℕ) (work : List ℕ) : Type 0 where
  pub room : (t : Tree) → HeldIn p t → (Δ : Ctx) (v : Tree) → find t [] k ≡ found Δ v → 64 * nodes v + 64 ≤ length work

pub record TypeOfPost (p : Places) (k : ℕ) (r : List ℕ) : Type 0 where
  pub is : (t : Tree) (Δ : Ctx) (v : Tree) → HeldIn p t → find t [] k ≡ found Δ v → r ≡ enc_ty (type_of v Δ)

-- ---- where operands and binders stand
pub record SubtreePost (p : Places) (k : ℕ) (r : List ℕ) : Type 0 where
  pub is : (t : Tree) (Γ : Ctx) (v : Tree) → PlacesOf p t → find t [] k ≡ found Γ v → r ≡ enc v

pub record BindersPost (p : Places) (k : ℕ) (r : List ℕ) : Type 0 where
  pub is : (t : Tree) (Γ : Ctx) (g x : ℕ) (us : List Ty) (ks : Forest) → PlacesOf p t → find t [] k ≡ found Γ (node (head g x us) ks)
      → has_binders (form_of g).layout ≡ true → r ≡ length us ∷ enc_tys us

-- ---- a pattern filled
-- what stands at the three places, and that the pattern's binders are there
pub record FillAt (t : Tree) (pattern first second binder : ℕ) (Δ : Ctx) (a b : Tree) (us : List Ty) : Type 0 where
  pub at_first : find t [] first ≡ found Δ a
  pub at_second : find t [] second ≡ found Δ b
  pub Θ : Ctx
  pub g : ℕ
  pub x : ℕ
  pub ks : Forest
  pub at_binder : find t [] binder ≡ found Θ (node (head g x us) ks)
  pub bound : Bound pattern g

pub record FillPre (p : Places) (pattern first second binder : ℕ) : Type 0 where
  pub t : Tree
  pub table : PlacesOf p t
  pub held : HeldIn p t
  pub Δ : Ctx
  pub a : Tree
  pub b : Tree
  pub us : List Ty
  pub places : FillAt t pattern first second binder Δ a b us

pub record FillPost (p : Places) (pattern first second binder : ℕ) (o q : Option (List ℕ)) : Type 0 where
  pub puts : (t : Tree) (Δ : Ctx) (a b : Tree) (us : List Ty) → PlacesOf p t → HeldIn p t
      → FillAt t pattern first second binder Δ a b us → Puts o q (filled (template pattern) (filling Δ a b us))
