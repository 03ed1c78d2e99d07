-- The bytes of a tree (document 01, "The frame record": "Nodes stand in prefix order, each a two-byte tag").
use Rattle.std.specs.Prelude.{ℕ, zero, suc, ◌+◌, ◌/◌, ◌%◌, ◌^◌, List, [], ◌∷◌, ◌++◌, length}
use Rattle.frame.specs.Types.{Ty, bool, int, given, pow, prod}
use Rattle.frame.specs.Trees.{Head, head, Tree, node, Forest, nil, cons, count}
use Rattle.frame.specs.Tags.{form_of, width, number_of}

-- "Every number of several bytes stands high byte first": n in w bytes
unfoldable pub enc_number : ℕ → ℕ → List ℕ
enc_number zero n = []
enc_number (suc w) n = n / 256 ^ w ∷ enc_number w (n % 256 ^ w)

-- "Type bytes: 00 BOOL; 01 integers; 02 and a two-byte number, a given set; 03 and a type, its power; 04 and two types"
unfoldable pub enc_ty : Ty → List ℕ
enc_ty bool = 0 ∷ []
enc_ty int = 1 ∷ []
enc_ty (given n) = 2 ∷ enc_number 2 n
enc_ty (pow t) = 3 ∷ enc_ty t
enc_ty (prod t u) = 4 ∷ (enc_ty t ++ enc_ty u)

unfoldable pub enc_tys : List Ty → List ℕ
enc_tys [] = []
enc_tys (t ∷ ts) = enc_ty t ++ enc_tys ts

-- the tag, the number and the types of a node with k children
unfoldable pub enc_head : Head → ℕ → List ℕ
enc_head (head g n ts) k =
    enc_number 2 g ++ (enc_number (width (form_of g).layout) (number_of (form_of g).layout n (length ts) k) ++ enc_tys ts)

unfoldable mutual
  pub enc : Tree → List ℕ
  enc (node h ks) = enc_head h (count ks) ++ encs ks

  pub encs : Forest → List ℕ
  encs nil = []
  encs (cons t ts) = enc t ++ encs ts

-- where the nodes of a tree start that itself starts at p, in prefix order: "Shared pointers (`Arc`) become positions in the frame, with
-- a fixed table of 2,048 node starts, all zero before reading.": what the table is filled with
unfoldable mutual
  pub starts : Tree → ℕ → List ℕ
  starts (node h ks) p = p ∷ starts_in ks (p + length (enc_head h (count ks)))

  pub starts_in : Forest → ℕ → List ℕ
  starts_in nil p = []
  starts_in (cons t ts) p = starts t p ++ starts_in ts (p + length (enc t))
