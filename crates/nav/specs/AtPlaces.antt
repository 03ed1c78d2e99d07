-- What is said of a frame's places with its tables (`PlaceTables.antt`), of a `Places`: each is the one over lists, of its bytes and tables.
use Rattle.std.specs.Prelude.{ℕ, Bool, List}
use Rattle.frame.specs.Trees.{Tree}
use Rattle.nav.specs.declared.Places.{Places}
use Rattle.nav.specs.PlaceTables.{Table, Placed, PlacedIn, TagPost, ArityPost, EndAtPost, SortPost, BothPlaced, SameAtPost, InTree, ChildrenOf, Passing}

-- p has the bytes of t, and the tables of t
abbrev pub PlacesOf : Places → Tree → Type 0
PlacesOf p t = Table p.bytes.now t p.starts.now p.nexts.now p.count

abbrev pub AtPlace : Places → ℕ → Type 0
AtPlace p k = Placed p.bytes.now p.starts.now k

abbrev pub InTables : Places → ℕ → Type 0
InTables p k = PlacedIn p.bytes.now p.count p.starts.now p.nexts.now k

abbrev pub TreeAt : Places → ℕ → Type 0
TreeAt p k = InTree p.bytes.now p.starts.now p.nexts.now k

abbrev pub TagAt : Places → ℕ → ℕ → Type 0
TagAt p k r = TagPost p.bytes.now p.starts.now k r

abbrev pub ArityAt : Places → ℕ → ℕ → Type 0
ArityAt p k r = ArityPost p.bytes.now p.starts.now k r

abbrev pub EndAt : Places → ℕ → ℕ → Type 0
EndAt p k r = EndAtPost p.bytes.now p.count p.starts.now p.nexts.now k r

abbrev pub SortAt : Places → ℕ → Bool → Type 0
SortAt p k r = SortPost p.bytes.now p.starts.now k r

abbrev pub AtBoth : Places → ℕ → ℕ → Type 0
AtBoth p a b = BothPlaced p.bytes.now p.starts.now a b

abbrev pub SameAt : Places → ℕ → ℕ → Bool → Type 0
SameAt p a b r = SameAtPost p.bytes.now p.starts.now a b r

abbrev pub ChildrenAt : Places → ℕ → List ℕ → Type 0
ChildrenAt p k places = ChildrenOf p.bytes.now p.starts.now p.nexts.now k places

-- r of the children of the node at place k pass a test that answers as `gives` says
abbrev pub CountedAt : (ℕ → Bool → Type 0) → Places → ℕ → ℕ → Type 0
CountedAt gives p k r = (places : List ℕ) × ChildrenAt p k places × Passing gives places r
