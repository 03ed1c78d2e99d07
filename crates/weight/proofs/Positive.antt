-- Lower bounds of weights.
-- Main results: weight_positive (a tree weighs at least 1), weight_two (an accepted expression at least 2), type_weight_lem
-- (a type's expression has its type's weight), type_two (which is at least 2).
use mathlib.Core.Path.{◌≡◌, refl}
use mathlib.Core.Bool.{Bool, true, false, ◌&&◌, and-false, and-eq-true_iff}
use mathlib.Core.List.{List, [], ◌∷◌}
use Prim.Native.Nat.{ℕ, zero, suc, ◌+◌, ◌*◌, ◌≤◌, ◌<◌}
use native.Mathlib.Nat.{mul-le-mul_left, mul-le-mul}
use native.Mathlib.Omega.{arith}
use native.Mathlib.Decide.{ℕ_discrete, dec_lt}
use lib.Dec.{leb, leb→le}
use lib.ListN.{length}
use Rattle.frame.specs.Types.{Ty, bool, int, given, pow, prod}
use Rattle.frame.specs.Trees.{head, Tree, node, Forest, nil, cons}
use Rattle.frame.specs.Tags.{pick, expression, same_sort, form_of, form_at, class_of, lookup}
use Rattle.frame.specs.Places.{Ctx}
use Rattle.frame.proofs.Inversion.{true_not}
use Rattle.typing.specs.Typing.{carried_ty, source}
use Rattle.typing.specs.Accepted.{Accepted}
use Rattle.typing.specs.TypeExpression.{to_expression}
use Rattle.weight.specs.Weight.{
  type_weight,
  Scale,
  product,
  total,
  binding,
  relating,
  ScaleRow,
  row,
  scales,
  scale_in,
  scale_of,
  weigh,
  weight,
  sum_of,
  product_of,
}

-- ---- products
pub times_one : {a b : ℕ} → 1 ≤ a → 1 ≤ b → 1 ≤ a * b
times_one ha hb = mul-le-mul {n₁ = 1} {m₁ = 1} ha hb

pub times_two : {a b : ℕ} → 2 ≤ a → 1 ≤ b → 2 ≤ a * b
times_two ha hb = mul-le-mul {n₁ = 2} {m₁ = 1} ha hb

-- ---- types
pub type_two : (t : Ty) → 2 ≤ type_weight t
unfolding type_weight
type_two bool = omega arith
type_two int = omega arith
type_two (given n) = omega arith
type_two (pow t) = omega (arith, type_two t)
type_two (prod t u) = omega arith

pub type_weight_lem : (t : Ty) → weight (to_expression t) ≡ type_weight t
unfolding type_weight to_expression weight scale_of scale_in weigh
type_weight_lem bool = refl
type_weight_lem int = refl
type_weight_lem (given n) = refl
type_weight_lem (pow t) = omega (arith, type_weight_lem t)
type_weight_lem (prod t u) = rw (type_weight_lem t, type_weight_lem u) (omega arith)

-- ---- scales: a factor is at least 1
abbrev pub Grows : Scale → Type 0
Grows (product c a) = 1 ≤ c
Grows total = Unit {0}
Grows (binding c) = 1 ≤ c
Grows relating = Unit {0}

abbrev Each : List ScaleRow → Type 0
Each [] = Unit {0}
Each (row from to s ∷ rows) = Grows s × Each rows

picked {ℓ} : {X : Type ℓ} (R : X → Type 0) (b : Bool) (x y : X) → R x → R y → R (pick b x y)
picked R true x y p q = p
picked R false x y p q = q

each_grows : (rows : List ScaleRow) (g : ℕ) → Each rows → Grows (scale_in rows g)
unfolding scale_in
each_grows [] g h = omega arith
each_grows (row from to s ∷ rows) g h = picked Grows (leb from g && leb g to) s (scale_in rows g) h.0 (each_grows rows g h.1)

pub scale_grows : (g : ℕ) → Grows (scale_of g)
unfolding scale_of
scale_grows g = each_grows scales g (omega arith)

weigh_positive : (w : Scale) (ts : List Ty) (s p : ℕ) → Grows w → 1 ≤ p → 1 ≤ weigh w ts s p
unfolding weigh
weigh_positive (product c a) ts s p h hp = omega (arith, times_one h hp)
weigh_positive total ts s p h hp = omega arith
weigh_positive (binding c) ts s p h hp = times_one h (times_one {a = suc (length ts)} (omega arith) hp)
weigh_positive relating ts s p h hp = omega arith

mutual
  unfolding weight

  pub weight_positive : (t : Tree) → 1 ≤ weight t
  weight_positive (node (head g n ts) ks) = weigh_positive (scale_of g) ts (sum_of ks) (product_of ks) (scale_grows g) (product_positive ks)

  pub product_positive : (ks : Forest) → 1 ≤ product_of ks
  product_positive nil = omega arith
  product_positive (cons t ts) = times_one (weight_positive t) (product_positive ts)

pub both_positive : (t u : Tree) → 1 ≤ weight t * weight u
both_positive t u = times_one (weight_positive t) (weight_positive u)

-- ---- an expression weighs at least 2: every tag up to 901 is tried, and those above have Π + 1
abbrev heavy : Scale → Bool
heavy (product c a) = leb 1 c && leb 2 (c + a)
heavy total = false
heavy (binding c) = leb 2 c
heavy relating = true

abbrev heavy_at : ℕ → Bool
heavy_at g = let h = heavy (scale_of g) in pick (same_sort (form_of g).sort expression) h true

abbrev below : ℕ → Bool
below zero = true
below (suc n) = let rest = below n in pick (heavy_at n) rest false

pick_true : (a b : Bool) → pick a b false ≡ true → (a ≡ true) × (b ≡ true)
pick_true true b e = (refl, e)
pick_true false b e = true_not e

below_each : (n g : ℕ) → below n ≡ true → g < n → heavy_at g ≡ true
below_each zero g e h = absurd (omega arith)
below_each (suc n) g e h = go (ℕ_discrete g n) (pick_true (heavy_at n) (below n) e) (below_each n g)
  where
    go : Dec (g ≡ n) → (heavy_at n ≡ true) × (below n ≡ true) → (below n ≡ true → g < n → heavy_at g ≡ true) → heavy_at g ≡ true
    go (yes p) r next = rw p r.0
    go (no p) r next = next r.1 (omega arith)

tried : below 902 ≡ true
unfolding scale_of scale_in class_of lookup form_at
tried = refl

abbrev Ends : List ScaleRow → Type 0
Ends [] = Unit {0}
Ends (row from to s ∷ rows) = (to < 902) × Ends rows

above : (rows : List ScaleRow) (g : ℕ) → Ends rows → 902 ≤ g → scale_in rows g ≡ product 1 1
unfolding scale_in
above [] g e h = refl
above (row from to s ∷ rows) g e h = go (leb g to) refl (above rows g e.1 h)
  where
    go : (b : Bool) → leb g to ≡ b → scale_in rows g ≡ product 1 1 → pick (leb from g && b) s (scale_in rows g) ≡ product 1 1
    go true p r = absurd (omega (arith, leb→le g to (rw p tt), e.0))
    go false p r = rw and-false r

expression_heavy : (g : ℕ) → (form_of g).sort ≡ expression → heavy (scale_of g) ≡ true
unfolding scale_of
expression_heavy g e = go (dec_lt g 902)
  where
    go : Dec (g < 902) → heavy (scale_of g) ≡ true
    go (yes h) = rw e at (below_each 902 g tried h)
    go (no h) = rw (above scales g (omega arith) (omega arith))

weigh_two : (w : Scale) (ts : List Ty) (s p : ℕ) → heavy w ≡ true → 1 ≤ p → 2 ≤ weigh w ts s p
unfolding weigh
weigh_two (product c a) ts s p e hp =
    let h = (and-eq-true_iff (leb 1 c) (leb 2 (c + a))).0 e in omega (arith, leb→le 2 (c + a) (rw h.1 tt), mul-le-mul_left c hp)
weigh_two total ts s p e hp = true_not e
weigh_two (binding c) ts s p e hp = times_two (leb→le 2 c (rw e tt)) (times_one {a = suc (length ts)} (omega arith) hp)
weigh_two relating ts s p e hp = omega (arith, times_two (type_two (source (carried_ty ts))) hp)

pub weight_two : (σ : ℕ → Ty) (t : Tree) (Γ : Ctx) → Accepted σ t Γ expression → 2 ≤ weight t
unfolding Accepted weight
weight_two σ (node (head g n ts) ks) Γ a = weigh_two (scale_of g) ts (sum_of ks) (product_of ks)
    (expression_heavy g a.top.formed.sort) (product_positive ks)
