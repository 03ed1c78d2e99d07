-- The step figure (document 01, "Meaning": "The step bound is a formula in docs/ over the first tree's nodes and types. It
-- makes no steps, doesn't use the 4,096 limit, and holds as well if results may be of any length."). A weight: one line
-- for each operator; each equation's right side weighs less than its left side (weight/proofs), so a series makes fewer
-- changing steps than its first tree weighs.
use Rattle.std.specs.Prelude.{ℕ, suc, ◌+◌, ◌*◌, ◌&&◌, List, [], ◌∷◌, length, leb}
use Rattle.frame.specs.Types.{Ty, bool, int, given, pow, prod}
use Rattle.frame.specs.Trees.{head, Tree, node, Forest, nil, cons}
use Rattle.frame.specs.Tags.{pick}
use Rattle.typing.specs.Typing.{carried_ty, source}

-- the weight of a type's expression
unfoldable pub type_weight : Ty → ℕ
type_weight bool = 2
type_weight int = 2
type_weight (given n) = 2
type_weight (pow t) = type_weight t + 1
type_weight (prod t u) = type_weight t * type_weight u + 3

-- how a node's weight comes from its children's: their product Π, their sum Σ, its number of binders n
pub data Scale : Type 0 where
  -- c Π + a
  product : ℕ → ℕ → Scale
  -- Σ + 1
  total : Scale
  -- c (n + 1) Π
  binding : ℕ → Scale
  -- of a type ℙ(s × _): the weight of s times Π, and 1 (Π is 1: these have no operands)
  relating : Scale

pub data ScaleRow : Type 0 where
  row : ℕ → ℕ → Scale → ScaleRow

-- the tags from the first number to the second; every other operator, the expressions', has Π + 1
abbrev pub scales : List ScaleRow
scales =
    -- ⊤ ⊥, relations
    row 610 611 (product 1 0)
    ∷ row 101 101 (product 1 0)
    ∷ row 102 102 (product 1 2)
    ∷ row 103 107 (product 1 0)
    ∷ row 108 108 (product 1 2)
    ∷ row 109 109 (product 1 0)
    ∷ row 110 110 (product 1 2)
    ∷ row 111 111 (product 1 0)
    ∷ row 112 112 (product 1 2)
    -- ⇒ ⇔ ∧ ∨ ¬, ∀ ∃, finite, partition
    ∷ row 251 252 total
    ∷ row 351 352 total
    ∷ row 701 701 total
    ∷ row 851 852 (binding 1)
    ∷ row 620 620 (product 4 0)
    ∷ row 901 901 (product 2 1)
    -- <->> <<->>, ×, ⊗ ∘ ;, ◁ ▷, r[S], union inter
    ∷ row 204 205 (product 1 2)
    ∷ row 214 214 (product 1 3)
    ∷ row 215 215 (product 2 3)
    ∷ row 303 304 (product 2 3)
    ∷ row 217 217 (product 2 0)
    ∷ row 219 219 (product 2 0)
    ∷ row 227 227 (product 2 1)
    ∷ row 754 755 (product 2 0)
    -- prj1 prj2 id, quantified expressions
    ∷ row 410 412 relating
    ∷ row 801 803 (binding 2)
    ∷ []

unfoldable pub scale_in : List ScaleRow → ℕ → Scale
scale_in [] g = product 1 1
scale_in (row from to s ∷ rows) g = let next = scale_in rows g in pick (leb from g && leb g to) s next

unfoldable pub scale_of : ℕ → Scale
scale_of g = scale_in scales g

unfoldable pub weigh : Scale → List Ty → ℕ → ℕ → ℕ
weigh (product c a) ts s p = c * p + a
weigh total ts s p = s + 1
weigh (binding c) ts s p = c * (suc (length ts) * p)
weigh relating ts s p = type_weight (source (carried_ty ts)) * p + 1

unfoldable mutual
  pub weight : Tree → ℕ
  weight (node (head g n ts) ks) = weigh (scale_of g) ts (sum_of ks) (product_of ks)

  pub sum_of : Forest → ℕ
  sum_of nil = 0
  sum_of (cons t ts) = weight t + sum_of ts

  pub product_of : Forest → ℕ
  product_of nil = 1
  product_of (cons t ts) = weight t * product_of ts
