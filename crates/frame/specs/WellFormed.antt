-- Well formed trees: those that `read_node` gives for some bytes, however many. `frame/proofs` shows both directions: a tree that is read is
-- well formed, and the bytes of a well formed tree are read as that tree.
use Rattle.std.specs.Prelude.{◌≡◌, true, List, [], ◌∷◌, ℕ, ◌≤◌, ◌<◌, ◌^◌, length}
use Rattle.frame.specs.Types.{Ty, bool, int, given, pow, prod}
use Rattle.frame.specs.Trees.{head, Tree, node, Forest, nil, cons, count}
use Rattle.frame.specs.Tags.{Sort, form_of, width, in_range, number_of, payload_of, types_of, sorts_of}
use Rattle.frame.specs.Encoding.{enc_ty}
use Rattle.frame.specs.Reading.{type_limit}

-- a given set has a two-byte number
abbrev pub TyWf : Ty → Type 0
TyWf bool = Unit {0}
TyWf int = Unit {0}
TyWf (given n) = n < 65536
TyWf (pow t) = TyWf t
TyWf (prod t u) = TyWf t × TyWf u

-- "A type has at most 64 bytes"
abbrev pub TysWf : List Ty → Type 0
TysWf [] = Unit {0}
TysWf (t ∷ ts) = TyWf t × (length (enc_ty t) ≤ type_limit) × TysWf ts

-- the number that follows the tag, of a node with k children
abbrev pub number_in : ℕ → ℕ → List Ty → ℕ → ℕ
number_in g n ts k = number_of (form_of g).layout n (length ts) k

-- a head of sort e with k children
pub record HeadWf (e : Sort) (g n : ℕ) (ts : List Ty) (k : ℕ) : Type 0 where
  pub small : g < 65536
  pub listed : (form_of g).listed ≡ true
  pub sort : (form_of g).sort ≡ e
  pub fits : number_in g n ts k < 256 ^ width (form_of g).layout
  pub own : payload_of (form_of g).layout (number_in g n ts k) ≡ n
  pub range : in_range (form_of g).layout (number_in g n ts k) ≡ true
  pub many : length ts ≡ types_of (form_of g).layout (form_of g).carried (number_in g n ts k)
  pub types : TysWf ts

-- trees of a sort, children of these sorts
abbrev mutual
  pub Wf : Tree → Sort → Type 0
  Wf (node (head g n ts) ks) e = HeadWf e g n ts (count ks) × Wfs ks (sorts_of (form_of g).layout (number_in g n ts (count ks)))

  pub Wfs : Forest → List Sort → Type 0
  Wfs nil [] = Unit {0}
  Wfs nil (e ∷ es) = ⊥
  Wfs (cons t ts) [] = ⊥
  Wfs (cons t ts) (e ∷ es) = Wf t e × Wfs ts es
