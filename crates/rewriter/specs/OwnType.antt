-- An expression that is the type expression of its own elements: what the functions of src/equals/own_type.rt ask and answer.
use Rattle.std.specs.Prelude.{◌≡◌, Bool, List, [], ℕ}
use Rattle.frame.specs.Trees.{Tree, tag_of}
use Rattle.frame.specs.Operators.{#FreeIdent}
use Rattle.frame.specs.Places.{Ctx, found, find}
use Rattle.nav.specs.PlaceTables.{Framed, Table}
use Rattle.rules.specs.Dispatch.{is_own_type}

-- at place k there is an identifier
pub record NamePre (s st : List ℕ) (k : ℕ) : Type 0 where
  pub t : Tree
  pub n : ℕ
  pub framed : Framed s t st n
  pub Γ : Ctx
  pub v : Tree
  pub there : find t [] k ≡ found Γ v
  pub ident : tag_of v ≡ #FreeIdent

-- r: the identifier at place k is the type expression of its own elements
pub record NamedPost (s st : List ℕ) (k : ℕ) (r : Bool) : Type 0 where
  pub says : (t : Tree) (n : ℕ) (Γ : Ctx) (v : Tree) → Framed s t st n → find t [] k ≡ found Γ v → tag_of v ≡ #FreeIdent → r ≡ is_own_type Γ v

-- r: the tree at place k is. Nothing is asked of its type: a tree that is the expression of some type has the power of that type
pub record OwnTypePost (s st nx : List ℕ) (k : ℕ) (r : Bool) : Type 0 where
  pub says : (t : Tree) (n : ℕ) (Γ : Ctx) (v : Tree) → Table s t st nx n → find t [] k ≡ found Γ v → r ≡ is_own_type Γ v
