-- A lighter subtree makes a lighter tree.
-- Main results: node_lighter (at a node), weight_at_place (at a place).
use mathlib.Core.Path.{◌≡◌}
use mathlib.Core.List.{List}
use Prim.Native.Nat.{ℕ, suc, ◌<◌}
use native.Mathlib.Nat.{mul-lt-mul_of_pos_left, mul-lt-mul_of_pos_right}
use native.Mathlib.Omega.{arith}
use lib.ListN.{length}
use Rattle.frame.specs.Types.{Ty}
use Rattle.frame.specs.Trees.{head, Tree, node, Forest, cons}
use Rattle.frame.specs.Places.{Ctx, found, find, replace}
use Rattle.frame.proofs.AtPlace.{at_place}
use Rattle.typing.specs.Typing.{carried_ty, source}
use Rattle.weight.specs.Weight.{type_weight, Scale, product, total, binding, relating, scale_of, weigh, weight, sum_of, product_of}
use Rattle.weight.proofs.Positive.{type_two, Grows, scale_grows, weight_positive, product_positive}

weigh_lighter : (w : Scale) (ts : List Ty) (s s' p p' : ℕ) → Grows w → s' < s → p' < p → weigh w ts s' p' < weigh w ts s p
unfolding weigh
weigh_lighter (product c a) ts s s' p p' h hs hp = omega (arith, mul-lt-mul_of_pos_left {k = c} hp h)
weigh_lighter total ts s s' p p' h hs hp = omega arith
weigh_lighter (binding c) ts s s' p p' h hs hp = mul-lt-mul_of_pos_left {k = c} (mul-lt-mul_of_pos_left {k = suc (length ts)} hp (omega arith)) h
weigh_lighter relating ts s s' p p' h hs hp =
    let v = type_weight (source (carried_ty ts)) in omega (arith, mul-lt-mul_of_pos_left {k = v} hp (omega (arith, type_two (source (carried_ty ts)))))

-- the sum and the product of the children's weights
pub record Lighter (ks ls : Forest) : Type 0 where
  pub sums : sum_of ls < sum_of ks
  pub products : product_of ls < product_of ks

pub node_lighter : (g n : ℕ) (ts : List Ty) (ks ls : Forest) → Lighter ks ls → weight (node (head g n ts) ls) < weight (node (head g n ts) ks)
unfolding weight
node_lighter g n ts ks ls h = weigh_lighter (scale_of g) ts (sum_of ks) (sum_of ls) (product_of ks) (product_of ls) (scale_grows g) h.sums h.products

first_lighter : (t u : Tree) (ks : Forest) → weight u < weight t → Lighter (cons t ks) (cons u ks)
unfolding weight
first_lighter t u ks h = record { sums = omega arith; products = mul-lt-mul_of_pos_right h (product_positive ks) }

rest_lighter : (t : Tree) (ks ls : Forest) → Lighter ks ls → Lighter (cons t ks) (cons t ls)
unfolding weight
rest_lighter t ks ls h = record { sums = omega (arith, h.sums); products = mul-lt-mul_of_pos_left h.products (weight_positive t) }

pub weight_at_place : (t : Tree) (Γ : Ctx) (k : ℕ) (Δ : Ctx) (v u : Tree) → find t Γ k ≡ found Δ v → weight u < weight v
    → weight (replace t k u) < weight t
weight_at_place =
    at_place (λ Γ t u. weight u < weight t) (λ Γ ks ls. Lighter ks ls) (λ g n ts ks ls Γ. node_lighter g n ts ks ls)
    (λ t u ks Γ. first_lighter t u ks) (λ t ks ls Γ. rest_lighter t ks ls)
