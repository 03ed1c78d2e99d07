-- Sums and products of the weights of a node's children.
-- Main results: least_kids, pair_two (an accepted node's expression children weigh at least 2), twos_sum (Σ ≤ Π for numbers of at
-- least 2), sum_at, product_at (a child taken out), over_light (an operator over what is left), subtracted_light.
use mathlib.Core.Path.{◌≡◌, refl}
use mathlib.Core.List.{List, [], ◌∷◌}
use Prim.Native.Nat.{ℕ, zero, suc, ◌+◌, ◌*◌, ◌≤◌, ◌<◌}
use native.Mathlib.Nat.{mul-le-mul_left, mul-le-mul_right}
use native.Mathlib.Omega.{arith}
use Rattle.frame.specs.Types.{Ty}
use Rattle.frame.specs.Trees.{head, Tree, node, Forest, nil, cons, count, append, map_f, two, pair}
use Rattle.frame.specs.Tags.{Sort, predicate, expression, repeat, form_of, sorts_of, class_of}
use Rattle.frame.specs.Places.{Ctx, under}
use Rattle.frame.specs.WellFormed.{number_in}
use Rattle.typing.specs.Typing.{wants, types_in}
use Rattle.typing.specs.Accepted.{Accepted, AcceptedAll}
use Rattle.rules.specs.Equations.{over, Subtracted, none, minus, other}
use Rattle.weight.specs.Weight.{product, scale_in, scale_of, weigh, weight, sum_of, product_of}
use Rattle.weight.proofs.Positive.{times_two, weight_positive, product_positive, weight_two}

-- ---- the children of an accepted node
-- those that are expressions weigh at least 2
abbrev pub Least : List Sort → Forest → Type 0
Least [] ks = Unit {0}
Least (e ∷ es) nil = Unit {0}
Least (predicate ∷ es) (cons t ts) = Unit {0} × Least es ts
Least (expression ∷ es) (cons t ts) = (2 ≤ weight t) × Least es ts

-- all of them do
abbrev pub Twos : Forest → Type 0
Twos nil = Unit {0}
Twos (cons t ts) = (2 ≤ weight t) × Twos ts

module _ (σ : ℕ → Ty) where
  least_all : (ks : Forest) (Γ : Ctx) (es : List Sort) → AcceptedAll σ ks Γ es → Least es ks
  unfolding Accepted
  least_all nil Γ [] h = tt
  least_all nil Γ (e ∷ es) h = tt
  least_all (cons t ts) Γ [] h = tt
  least_all (cons t ts) Γ (predicate ∷ es) h = (tt, least_all ts Γ es h.1)
  least_all (cons t ts) Γ (expression ∷ es) h = (weight_two σ t Γ h.0, least_all ts Γ es h.1)

  pub least_kids : (g n : ℕ) (us : List Ty) (ks : Forest) (Γ : Ctx) (e : Sort)
      → Accepted σ (node (head g n us) ks) Γ e → Least (sorts_of (form_of g).layout (number_in g n us (count ks))) ks
  unfolding Accepted
  least_kids g n us ks Γ e a = least_all ks (under g us Γ) (sorts_of (form_of g).layout (number_in g n us (count ks))) a.kids

  -- the operands of a binary operator over expressions
  pub pair_two : (g : ℕ) (s t : Tree) (Γ : Ctx) → Accepted σ (two g s t) Γ expression
      → sorts_of (form_of g).layout (number_in g 0 [] 2) ≡ expression ∷ expression ∷ [] → (2 ≤ weight s) × (2 ≤ weight t)
  pair_two g s t Γ a e =
      let h : Least (expression ∷ expression ∷ []) (pair s t) = rw e at (least_kids g 0 [] (pair s t) Γ expression a) in (h.0, h.1.0)

  -- the operands have the types that the operator wants
  pub fits_kids : (g n : ℕ) (us : List Ty) (ks : Forest) (Γ : Ctx) (e : Sort)
      → Accepted σ (node (head g n us) ks) Γ e → types_in ks (under g us Γ) ≡ wants (class_of g) (types_in ks (under g us Γ))
  unfolding Accepted
  fits_kids g n us ks Γ e a = a.fits

pub least_twos : (ks : Forest) → Least (repeat expression (count ks)) ks → Twos ks
least_twos nil h = tt
least_twos (cons t ts) h = (h.0, least_twos ts h.1)

-- ---- sums
pub sum_map : (f : Tree → Tree) (c : ℕ) → ((t : Tree) → weight (f t) ≡ c * weight t) → (ks : Forest) → sum_of (map_f f ks) ≡ c * sum_of ks
unfolding weight
sum_map f c h nil = omega arith
sum_map f c h (cons t ts) = omega (arith, h t, sum_map f c h ts)

pub sum_at : (left : Forest) (q : Tree) (right : Forest) → sum_of (append left (cons q right)) ≡ weight q + sum_of (append left right)
unfolding weight
sum_at nil q right = refl
sum_at (cons t left) q right = omega (arith, sum_at left q right)

-- ---- products
pub twos_sum : (ks : Forest) → Twos ks → sum_of ks ≤ product_of ks
unfolding weight
twos_sum nil h = omega arith
twos_sum (cons t nil) h = omega arith
twos_sum (cons t (cons u us)) h =
    let two-more = times_two h.1.0 (product_positive us) in
    omega (arith, twos_sum (cons u us) h.1, mul-le-mul_right (product_of (cons u us)) h.0, mul-le-mul_left (weight t) two-more)

pub product_at : (left : Forest) (q : Tree) (right : Forest) → product_of (append left (cons q right)) ≡ weight q * product_of (append left right)
unfolding weight
product_at nil q right = refl
product_at (cons t left) q right = rw (product_at left q right) (omega arith)

-- an operator over the operands that are left
pub over_light : (g : ℕ) (ks : Forest) → scale_of g ≡ product 1 1 → weight (over g ks) ≤ product_of ks + 1
unfolding weight weigh
over_light g nil e = rw e (omega arith)
over_light g (cons a nil) e = omega arith
over_light g (cons a (cons b ks)) e = rw e (omega arith)

-- (A ∖ B), C, (D ∖ E): heavier than A, C, D and B, E, if there is a B
abbrev more : Forest → ℕ
more nil = 0
more (cons b ms) = 1

subtracted_times : {ks ls ms : Forest} → Subtracted ks ls ms → product_of ls * product_of ms + more ms ≤ product_of ks
unfolding weight scale_of scale_in weigh
subtracted_times none = omega arith
subtracted_times (minus a b ks ls ms d) =
    let once : product_of ls * product_of ms ≤ product_of ks = omega (arith, subtracted_times d) in
    omega (arith, mul-le-mul_left (weight a * weight b) once, product_positive ks)
subtracted_times (other k ks ls ms o d) =
    omega (arith, mul-le-mul_left (weight k) (subtracted_times d), mul-le-mul_right (more ms) (weight_positive k))

pub subtracted_light : {ks ls ms : Forest} {b : Tree} → Subtracted ks ls (cons b ms) → product_of ls * product_of (cons b ms) < product_of ks
subtracted_light d = omega (arith, subtracted_times d)

-- a + b ≤ a b + 1
pub sum_product : (a b : ℕ) → 1 ≤ a → 1 ≤ b → a + b ≤ a * b + 1
sum_product zero b ha hb = omega arith
sum_product (suc a) zero ha hb = omega arith
sum_product (suc a) (suc b) ha hb = omega arith
