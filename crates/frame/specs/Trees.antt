-- Trees: what a frame stands for.
use Rattle.std.specs.Prelude.{ℕ, suc, ◌+◌, List, [], ◌∷◌}
use Rattle.frame.specs.Types.{Ty}

-- A node's tag, its payload (an identifier's number, a bound index, a literal's eight bytes as a number; 0 where the
-- tag has none), and the types that it carries: its own, or those of its binders in the order of the list.
-- "The Rust gets form `Explicit`, no spans, binder names b0, b1 .. by position in the list, and for identifier or given set n the
-- name i followed by n in decimal.": so a head has no form, no span and no name.
pub data Head : Type 0 where
  head : ℕ → ℕ → List Ty → Head

mutual
  pub data Tree : Type 0 where
    node : Head → Forest → Tree

  -- the children of a node, from left to right
  pub data Forest : Type 0 where
    nil : Forest
    cons : Tree → Forest → Forest

-- how many children there are
abbrev pub count : Forest → ℕ
count nil = 0
count (cons t ts) = suc (count ts)

abbrev pub tag_of : Tree → ℕ
tag_of (node (head g n ts) ks) = g

-- how many nodes a tree has: "types and binders are no nodes"
unfoldable mutual
  pub nodes : Tree → ℕ
  nodes (node h ks) = suc (nodes_in ks)

  pub nodes_in : Forest → ℕ
  nodes_in nil = 0
  nodes_in (cons t ts) = nodes t + nodes_in ts

-- trees by their tag: with no child, one, two, any number; with a type of their own; with binders. In the source `literal`
-- (document 002), `btrue`, `bfalse` and the closure `bool_atom` (000) build the first of these, `not` the second, `rel` and the
-- closure `flip` the third.
abbrev pub leaf : ℕ → Tree
leaf g = node (head g 0 []) nil

abbrev pub one : ℕ → Tree → Tree
one g a = node (head g 0 []) (cons a nil)

abbrev pub two : ℕ → Tree → Tree → Tree
two g a b = node (head g 0 []) (cons a (cons b nil))

abbrev pub many : ℕ → Forest → Tree
many g ks = node (head g 0 []) ks

abbrev pub typed : ℕ → Ty → Tree
typed g t = node (head g 0 (t ∷ [])) nil

-- lists of children: of one child, of two
abbrev pub sole : Tree → Forest
sole a = cons a nil

abbrev pub pair : Tree → Tree → Forest
pair a b = cons a (cons b nil)

-- binders around a predicate, and around a predicate and an expression
abbrev pub quantified : ℕ → List Ty → Tree → Tree
quantified g ts p = node (head g 0 ts) (cons p nil)

abbrev pub bodied : ℕ → List Ty → Tree → Tree → Tree
bodied g ts p e = node (head g 0 ts) (cons p (cons e nil))

-- lists of children: one list after another; each child by f
abbrev pub append : Forest → Forest → Forest
append nil bs = bs
append (cons a es) bs = cons a (append es bs)

abbrev pub map_f : (Tree → Tree) → Forest → Forest
map_f f nil = nil
map_f f (cons t ts) = cons (f t) (map_f f ts)
