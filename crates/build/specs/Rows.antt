-- What the code of src/rows.rt asks and answers.
use Rattle.std.specs.Prelude.{◌≡◌, List, [], ◌++◌, ℕ, ◌+◌, Option, Some, None}
use Rattle.frame.specs.Types.{Ty}
use Rattle.frame.specs.Trees.{head, Tree, node, Forest, nil, cons, count, nodes}
use Rattle.frame.specs.Encoding.{enc, encs}
use Rattle.frame.specs.Places.{Ctx, found, find}
use Rattle.nav.specs.AtPlaces.{PlacesOf}
use Rattle.nav.specs.declared.Places.{Places}
use Rattle.rules.specs.EqualsEmptySet.{minus_of, minuend, with_subtrahend, subtrahends}
use Rattle.put.specs.Out.{Puts}
use Rattle.decision.specs.Decision.{At, places_of}
use Rattle.decision.specs.declared.kept.KeptChild.{KeptChild}

pub record CopyPost (p : Places) (k : ℕ) (o q : Option (List ℕ)) : Type 0 where
  pub puts : (t : Tree) (Γ : Ctx) (v : Tree) → PlacesOf p t → find t [] k ≡ found Γ v → Puts o q (enc v)

-- ---- children in a row
-- the bytes of the children ks, the first of which is at place c; f says which bytes a child gives, by its place and its tree
unfoldable pub row_of : (ℕ → Tree → List ℕ) → ℕ → Forest → List ℕ
row_of f c nil = []
row_of f c (cons w ks) = f c w ++ row_of f (c + nodes w) ks

-- of a difference A ∖ B the bytes of its A, else those of the child
abbrev pub minuend_bytes : ℕ → Tree → List ℕ
minuend_bytes c w = enc (minuend (minus_of w))

-- of a difference A ∖ B the bytes of its B, else none
abbrev pub subtrahend_bytes : ℕ → Tree → List ℕ
subtrahend_bytes c w = encs (with_subtrahend (minus_of w) nil)

-- xs are the bytes of what stands at the place, if there is one
abbrev pub BytesAt : Tree → Option ℕ → List ℕ → Type 0
BytesAt t None xs = xs ≡ []
BytesAt t (Some k) xs = (Γ : Ctx) × (v : Tree) × (find t [] k ≡ found Γ v) × (xs ≡ enc v)

-- the place o has the bytes that the child at place c gives
pub record ShareAt (f : ℕ → Tree → List ℕ) (p : Places) (c : ℕ) (o : Option ℕ) : Type 0 where
  pub bytes : (t : Tree) (Γ : Ctx) (w : Tree) → PlacesOf p t → find t [] c ≡ found Γ w → BytesAt t o (f c w)

-- a closure answers of the child at place c a place with the bytes that f says; `gives` is what it may answer
abbrev pub Shares : (ℕ → Option ℕ → Type 0) → Places → (ℕ → Tree → List ℕ) → Type 0
Shares gives p f = (c : ℕ) (o : Option ℕ) → gives c o → ShareAt f p c o

-- it answers places of the frame
abbrev pub Sharing : (ℕ → Option ℕ → Type 0) → Places → Type 0
Sharing gives p = (f : ℕ → Tree → List ℕ) × Shares gives p f

-- a node stands at place k
pub record RowPre (p : Places) (k : ℕ) : Type 0 where
  pub t : Tree
  pub table : PlacesOf p t
  pub Γ : Ctx
  pub g : ℕ
  pub x : ℕ
  pub us : List Ty
  pub ks : Forest
  pub there : find t [] k ≡ found Γ (node (head g x us) ks)

pub record RowPost (gives : ℕ → Option ℕ → Type 0) (p : Places) (k : ℕ) (o q : Option (List ℕ)) : Type 0 where
  pub puts : (f : ℕ → Tree → List ℕ) → Shares gives p f → (t : Tree) (Γ : Ctx) (g i : ℕ) (us : List Ty) (ks : Forest) → PlacesOf p t → find t [] k ≡ found Γ (node (head g i us) ks)
      → Puts o q (row_of f (k + 1) ks)

pub record MinusRowPost (p : Places) (k r : ℕ) : Type 0 where
  pub counts : (t : Tree) (Γ : Ctx) (g i : ℕ) (us : List Ty) (ks : Forest) → PlacesOf p t → find t [] k ≡ found Γ (node (head g i us) ks)
      → r ≡ count (subtrahends ks)

-- ---- the children that a list has
pub record KeptPre (p : Places) (kept : List KeptChild) : Type 0 where
  pub t : Tree
  pub table : PlacesOf p t
  pub Γ : Ctx
  pub ks : Forest
  pub listed : At t Γ (places_of kept) ks

pub record KeptPost (p : Places) (kept : List KeptChild) (o q : Option (List ℕ)) : Type 0 where
  pub puts : (t : Tree) (Γ : Ctx) (ks : Forest) → PlacesOf p t → At t Γ (places_of kept) ks → Puts o q (encs ks)
