-- Tables over the places of a frame's tree ("positions in the frame, with a fixed table of 2,048 node starts"): where each
-- node starts, and which place follows each subtree. With both, code goes from place to place: the first child of place k is
-- at k + 1, and the next sibling of place c at the place that follows c's subtree.
use Rattle.std.specs.Prelude.{ℕ, zero, suc, ◌+◌, ◌≤◌, ◌<◌, ◌≡◌, Bool, true, List, [], ◌∷◌, length, get_or}
use Rattle.std.specs.Int.{from_bool}
use Rattle.frame.specs.Trees.{Tree, node, Forest, nil, cons, count, tag_of, nodes}
use Rattle.frame.specs.Tags.{Sort, predicate, form_of}
use Rattle.tags.specs.TagCodes.{is_expression}
use Rattle.frame.specs.Encoding.{enc, starts}
use Rattle.frame.specs.Reading.{number_at, frame_limit}
use Rattle.frame.specs.WellFormed.{Wf}
use Rattle.frame.specs.Places.{Ctx, found, find}
use Rattle.reading.specs.Post.{table_size}
use Rattle.frame.specs.Sameness.{same_tree}
use Rattle.sameness.specs.Stands.{Stands}

-- how many children the root has
abbrev pub arity : Tree → ℕ
arity (node h ks) = count ks

-- s is the frame of t, which has n nodes, and st has their starts
pub record Framed (s : List ℕ) (t : Tree) (st : List ℕ) (n : ℕ) : Type 0 where
  pub bytes : s ≡ enc t
  pub formed : Wf t predicate
  pub short : length s ≤ frame_limit
  pub size : n ≡ nodes t
  pub begins : (k : ℕ) → k < nodes t → get_or st k 0 ≡ get_or (starts t 0) k 0

-- from place i on, l says which place follows the subtree of t there
pub record NextsFrom (t : Tree) (i : ℕ) (l : List ℕ) : Type 0 where
  pub next : (k : ℕ) (Γ : Ctx) (v : Tree) → i ≤ k → find t [] k ≡ found Γ v → get_or l k 0 ≡ k + nodes v

pub record Table (s : List ℕ) (t : Tree) (st nx : List ℕ) (n : ℕ) : Type 0 where
  pub framed : Framed s t st n
  pub follows : NextsFrom t 0 nx

-- ---- what the code of src/lib.rt asks and answers

-- some tree stands there
pub record Rooted (s : List ℕ) (at : ℕ) : Type 0 where
  pub e : Sort
  pub t : Tree
  pub there : Stands s at e t

pub record ChildrenPost (s : List ℕ) (at r : ℕ) : Type 0 where
  pub many : (e : Sort) (t : Tree) → Stands s at e t → r ≡ arity t

-- m hops from place c by the table l, and that each is within the table
unfoldable pub hops : List ℕ → ℕ → ℕ → ℕ
hops l zero c = c
hops l (suc m) c = hops l m (get_or l c 0)

unfoldable pub HopsIn : List ℕ → ℕ → ℕ → Type 0
HopsIn l zero c = Unit {0}
HopsIn l (suc m) c = (c < table_size) × HopsIn l m (get_or l c 0)

-- the table of the places that follow, to be filled for the frame s
pub record NextsPre (s : List ℕ) (n : ℕ) (st l : List ℕ) : Type 0 where
  pub t : Tree
  pub framed : Framed s t st n
  pub long : length l ≡ table_size

pub record NextsPost (s : List ℕ) (n : ℕ) (st l : List ℕ) : Type 0 where
  pub long : length l ≡ table_size
  pub table : (t : Tree) → Framed s t st n → Table s t st l n

-- k is a place of some tree with these tables
pub record Placed (s st : List ℕ) (k : ℕ) : Type 0 where
  pub t : Tree
  pub n : ℕ
  pub framed : Framed s t st n
  pub below : k < nodes t

pub record PlacedIn (s : List ℕ) (n : ℕ) (st nx : List ℕ) (k : ℕ) : Type 0 where
  pub t : Tree
  pub table : Table s t st nx n
  pub below : k < nodes t

-- k is a place of some tree with these tables
pub record InTree (s st nx : List ℕ) (k : ℕ) : Type 0 where
  pub t : Tree
  pub n : ℕ
  pub table : Table s t st nx n
  pub below : k < nodes t

-- r is the tag, the number of children, the end of the subtree v at place k
pub record TagPost (s st : List ℕ) (k r : ℕ) : Type 0 where
  pub tag : (t : Tree) (n : ℕ) (Γ : Ctx) (v : Tree) → Framed s t st n → find t [] k ≡ found Γ v → r ≡ tag_of v

pub record ArityPost (s st : List ℕ) (k r : ℕ) : Type 0 where
  pub many : (t : Tree) (n : ℕ) (Γ : Ctx) (v : Tree) → Framed s t st n → find t [] k ≡ found Γ v → r ≡ arity v

pub record EndAtPost (s : List ℕ) (n : ℕ) (st nx : List ℕ) (k r : ℕ) : Type 0 where
  pub ends : (t : Tree) (Γ : Ctx) (v : Tree) → Table s t st nx n → find t [] k ≡ found Γ v → r ≡ get_or st k 0 + length (enc v)

-- the places of the trees in a row from place c on, and of the children of the tree at place k
abbrev pub places_from : Forest → ℕ → List ℕ
places_from nil c = []
places_from (cons t ts) c = c ∷ places_from ts (c + nodes t)

abbrev pub child_places : Tree → ℕ → List ℕ
child_places (node h ks) k = places_from ks (k + 1)

pub record ChildrenOf (s st nx : List ℕ) (k : ℕ) (places : List ℕ) : Type 0 where
  pub are : (t : Tree) (n : ℕ) (Γ : Ctx) (v : Tree) → Table s t st nx n → find t [] k ≡ found Γ v → places ≡ child_places v k

-- the same by a table: m places from c on, each the one that follows
abbrev pub walk : List ℕ → ℕ → ℕ → List ℕ
walk l c zero = []
walk l c (suc m) = c ∷ walk l (get_or l c 0) m

-- m of these places pass a test, of which `gives` says what it may answer at a place
unfoldable pub Passing : (ℕ → Bool → Type 0) → List ℕ → ℕ → Type 0
Passing gives [] m = m ≡ 0
Passing gives (c ∷ places) m = (b : Bool) × gives c b × (n : ℕ) × (m ≡ from_bool b + n) × Passing gives places n

-- the sort that the tag of a tree says, which is the tree's
abbrev pub sort_of : Tree → Sort
sort_of v = (form_of (tag_of v)).sort

pub record SortPost (s st : List ℕ) (k : ℕ) (r : Bool) : Type 0 where
  pub sort : (t : Tree) (n : ℕ) (Γ : Ctx) (v : Tree) → Framed s t st n → find t [] k ≡ found Γ v → r ≡ is_expression (sort_of v)

-- ---- sameness by places
pub record BothPlaced (s st : List ℕ) (a b : ℕ) : Type 0 where
  pub left : Placed s st a
  pub right : Placed s st b

-- trees with this tag stand at x and at y
pub record EarlyPre (s : List ℕ) (x y tag : ℕ) : Type 0 where
  pub left : Rooted s x
  pub right : Rooted s y
  pub of_left : tag ≡ number_at 2 s x
  pub of_right : tag ≡ number_at 2 s y

-- they differ where r says so
pub record EarlyPost (s : List ℕ) (x y : ℕ) (r : Bool) : Type 0 where
  pub differ : r ≡ true → (e d : Sort) (t u : Tree) → Stands s x e t → Stands s y d u → t ≡ u → ⊥

pub record SameAtPost (s st : List ℕ) (a b : ℕ) (r : Bool) : Type 0 where
  pub same : (t : Tree) (n : ℕ) (Γ Δ : Ctx) (v w : Tree) → Framed s t st n → find t [] a ≡ found Γ v → find t [] b ≡ found Δ w → r ≡ same_tree v w
