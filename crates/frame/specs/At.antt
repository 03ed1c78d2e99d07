-- A tree that stands at a position of a frame: it is read there, up to q, with some fuel. What goes over a frame that was
-- read goes by these; heads/proofs/View.antt takes them apart by the head that the code reads.
use Rattle.std.specs.Prelude.{◌≡◌, List, ℕ, ◌+◌}
use Rattle.frame.specs.Trees.{Tree, Forest}
use Rattle.frame.specs.Tags.{Sort, width, form_of}
use Rattle.frame.specs.Reading.{number_at, ok, ok_f, read_many, read_node}

-- where the types of the head at `at` start: behind its tag and its number
abbrev pub types_at : List ℕ → ℕ → ℕ
types_at s at = at + 2 + width (form_of (number_at 2 s at)).layout

abbrev pub IsAt : List ℕ → Sort → ℕ → Tree → ℕ → Type 0
IsAt s e at t q = (f : ℕ) × (read_node f s e at ≡ ok t q)

-- trees of these sorts, one after the other
abbrev pub KidsAt : List ℕ → List Sort → ℕ → Forest → ℕ → Type 0
KidsAt s es at ts q = (f : ℕ) × (read_many es (read_node f s) at ≡ ok_f ts q)
