-- `functional_check` in code: sets of binders as masks, and what the functions of src/lib.rt ask and answer. "`HashSet` of binder
-- indices becomes a 32-bit mask."
use Rattle.std.specs.Prelude.{◌≡◌, Bool, true, false, ◌&&◌, ◌||◌, List, [], ℕ, zero, suc, ◌+◌, ◌/◌, ◌%◌, length, eqb, ltb}
use Rattle.frame.specs.Types.{Ty}
use Rattle.frame.specs.Trees.{head, Tree, node, Forest}
use Rattle.frame.specs.Tags.{form_of, binders_of}
use Rattle.frame.specs.Operators.{#BoundIdent, #Mapsto, #QUnion, #QInter, #CSet, #Forall, #Exists}
use Rattle.frame.specs.Places.{Ctx, found, find}
use Rattle.nav.specs.declared.Places.{Places}
use Rattle.nav.specs.PlaceTables.{Framed, Table}
use Rattle.rules.specs.Finite.{uses, recovers, functional_check}

-- whether bit i of a mask is set: its binary digits, the lowest first
unfoldable pub bit : ℕ → ℕ → Bool
bit m zero = eqb (m % 2) 1
bit m (suc i) = bit (m / 2) i

-- the tags of nodes with binders
abbrev pub is_binder : ℕ → Bool
is_binder g = eqb g #QUnion || (eqb g #QInter || (eqb g #CSet || (eqb g #Forall || eqb g #Exists)))

-- r: how many binders the node at place k has
pub record BindersPost (s st : List ℕ) (k r : ℕ) : Type 0 where
  pub binders : (t : Tree) (N : ℕ) (Γ : Ctx) (g x : ℕ) (us : List Ty) (ks : Forest) → Framed s t st N
      → find t [] k ≡ found Γ (node (head g x us) ks) → r ≡ length (binders_of (form_of g).layout us)

-- the mask r: which of n binders the node at place k names, with d others in between
pub record OwnPost (s st : List ℕ) (k d n r : ℕ) : Type 0 where
  pub own : (t : Tree) (N : ℕ) (Γ : Ctx) (g x : ℕ) (us : List Ty) (ks : Forest) → Framed s t st N
      → find t [] k ≡ found Γ (node (head g x us) ks) → (i : ℕ) → bit r i ≡ (ltb i n && (eqb g #BoundIdent && eqb x (i + d)))

-- of which nodes a naming goes on to the children: of all, or of maplets only
abbrev pub goes_on : Bool → ℕ → Bool
goes_on all g = all || eqb g #Mapsto

-- the tree names the binder i: it uses it, or recovers it
abbrev pub names : Bool → Tree → ℕ → Bool
names true v i = uses v i
names false v i = recovers v i

-- the mask r: which of n binders the tree at place k names, with d others in between; `gives` is what the test answers of a tag
pub record NamedPost (gives : ℕ → Bool → Type 0) (s st nx : List ℕ) (k d n r : ℕ) : Type 0 where
  pub bits : (all : Bool) → ((g : ℕ) (e : Bool) → gives g e → e ≡ goes_on all g)
      → (t : Tree) (N : ℕ) (Γ : Ctx) (v : Tree) → Table s t st nx N → find t [] k ≡ found Γ v
      → (i : ℕ) → bit r i ≡ (ltb i n && names all v (i + d))

-- both places are those of some tree with these tables, in one context
pub record Both (s st nx : List ℕ) (left right : ℕ) : Type 0 where
  pub t : Tree
  pub N : ℕ
  pub table : Table s t st nx N
  pub Γ : Ctx
  pub v : Tree
  pub w : Tree
  pub at_left : find t [] left ≡ found Γ v
  pub at_right : find t [] right ≡ found Γ w

pub record FunctionalPost (s st nx : List ℕ) (left right n : ℕ) (r : Bool) : Type 0 where
  pub says : (t : Tree) (N : ℕ) (Γ : Ctx) (v w : Tree) → Table s t st nx N → find t [] left ≡ found Γ v → find t [] right ≡ found Γ w
      → r ≡ functional_check v w n

-- ---- the same of a `Places`: over its bytes and its tables
abbrev pub BindersAt : Places → ℕ → ℕ → Type 0
BindersAt p k r = BindersPost p.bytes.now p.starts.now k r

abbrev pub OwnAt : Places → ℕ → ℕ → ℕ → ℕ → Type 0
OwnAt p k d n r = OwnPost p.bytes.now p.starts.now k d n r

abbrev pub NamedAt : (ℕ → Bool → Type 0) → Places → ℕ → ℕ → ℕ → ℕ → Type 0
NamedAt gives p k d n r = NamedPost gives p.bytes.now p.starts.now p.nexts.now k d n r

abbrev pub AtTwo : Places → ℕ → ℕ → Type 0
AtTwo p left right = Both p.bytes.now p.starts.now p.nexts.now left right

abbrev pub FunctionalAt : Places → ℕ → ℕ → ℕ → Bool → Type 0
FunctionalAt p left right n r = FunctionalPost p.bytes.now p.starts.now p.nexts.now left right n r
