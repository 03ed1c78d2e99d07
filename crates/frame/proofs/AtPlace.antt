-- Inductions over places.
-- Main results: at_place, in_place (what holds of an old and a new subtree and goes up from children to nodes holds of
-- the tree with the subtree replaced); down_place, down_in (what goes down from nodes to children holds of a subtree).
use mathlib.Core.Path.{◌≡◌}
use mathlib.Core.Bool.{Bool, true, false}
use mathlib.Core.List.{List}
use Prim.Native.Nat.{ℕ, zero, suc, ◌-◌}
use native.Mathlib.Omega.{arith}
use lib.Dec.{ltb}
use Rattle.frame.specs.Types.{Ty}
use Rattle.frame.specs.Trees.{head, Tree, node, Forest, nil, cons, nodes}
use Rattle.frame.specs.Tags.{pick}
use Rattle.frame.specs.Places.{Ctx, under, Found, found, absent, find, find_in, replace, replace_in}

pub absent_not {ℓ} : {X : Type ℓ} (Δ : Ctx) (v : Tree) → absent ≡ found Δ v → X
absent_not Δ v e = let z : ◌≡◌ {A = ℕ} 0 1 = cc in absurd (omega arith)

-- the two ways to the subtree: in the first tree, or in the others
pub found_either {ℓ} : {X : Type ℓ} (R : X → Type 0) (b : Bool) (x y : Found) (c d : X) (Δ : Ctx) (v : Tree)
    → pick b x y ≡ found Δ v → (x ≡ found Δ v → R c) → (y ≡ found Δ v → R d) → R (pick b c d)
found_either R true x y c d Δ v e p q = p e
found_either R false x y c d Δ v e p q = q e

module _ (P : Ctx → Tree → Tree → Type 0) (Q : Ctx → Forest → Forest → Type 0)
    (at_node : (g n : ℕ) (ts : List Ty) (ks ls : Forest) (Γ : Ctx) → Q (under g ts Γ) ks ls → P Γ (node (head g n ts) ks) (node (head g n ts) ls))
    (at_first : (t u : Tree) (ks : Forest) (Γ : Ctx) → P Γ t u → Q Γ (cons t ks) (cons u ks))
    (at_rest : (t : Tree) (ks ls : Forest) (Γ : Ctx) → Q Γ ks ls → Q Γ (cons t ks) (cons t ls)) where
  at_root : (Γ Δ : Ctx) (t v u : Tree) → found Γ t ≡ found Δ v → P Δ v u → P Γ t u
  at_root Γ Δ t v u e p = let a : Γ ≡ Δ = cc in let b : t ≡ v = cc in rw (a, b) p

  mutual
    unfolding find replace

    pub at_place : (t : Tree) (Γ : Ctx) (k : ℕ) (Δ : Ctx) (v u : Tree) → find t Γ k ≡ found Δ v → P Δ v u → P Γ t (replace t k u)
    at_place (node (head g n ts) ks) Γ zero Δ v u e p = at_root Γ Δ (node (head g n ts) ks) v u e p
    at_place (node (head g n ts) ks) Γ (suc k) Δ v u e p = at_node g n ts ks (replace_in ks k u) Γ (in_place ks (under g ts Γ) k Δ v u e p)

    pub in_place : (ks : Forest) (Γ : Ctx) (k : ℕ) (Δ : Ctx) (v u : Tree) → find_in ks Γ k ≡ found Δ v → P Δ v u → Q Γ ks (replace_in ks k u)
    in_place nil Γ k Δ v u e p = absent_not Δ v e
    in_place (cons t ks) Γ k Δ v u e p =
        found_either (Q Γ (cons t ks)) (ltb k (nodes t)) (find t Γ k) (find_in ks Γ (k - nodes t)) (cons (replace t k u) ks)
        (cons t (replace_in ks (k - nodes t) u)) Δ v e
        (λ h. at_first t (replace t k u) ks Γ (at_place t Γ k Δ v u h p))
        (λ h. at_rest t ks (replace_in ks (k - nodes t) u) Γ (in_place ks Γ (k - nodes t) Δ v u h p))

module _ (R : Ctx → Tree → Type 0) (S : Ctx → Forest → Type 0)
    (down-node : (g n : ℕ) (ts : List Ty) (ks : Forest) (Γ : Ctx) → R Γ (node (head g n ts) ks) → S (under g ts Γ) ks)
    (down-first : (t : Tree) (ks : Forest) (Γ : Ctx) → S Γ (cons t ks) → R Γ t)
    (down-rest : (t : Tree) (ks : Forest) (Γ : Ctx) → S Γ (cons t ks) → S Γ ks) where
  down_root : (Γ Δ : Ctx) (t v : Tree) → found Γ t ≡ found Δ v → R Γ t → R Δ v
  down_root Γ Δ t v e r = let a : Γ ≡ Δ = cc in let b : t ≡ v = cc in rw (← a, ← b) r

  mutual
    unfolding find

    pub down_place : (t : Tree) (Γ : Ctx) (k : ℕ) (Δ : Ctx) (v : Tree) → find t Γ k ≡ found Δ v → R Γ t → R Δ v
    down_place (node (head g n ts) ks) Γ zero Δ v e r = down_root Γ Δ (node (head g n ts) ks) v e r
    down_place (node (head g n ts) ks) Γ (suc k) Δ v e r = down_in ks (under g ts Γ) k Δ v e (down-node g n ts ks Γ r)

    pub down_in : (ks : Forest) (Γ : Ctx) (k : ℕ) (Δ : Ctx) (v : Tree) → find_in ks Γ k ≡ found Δ v → S Γ ks → R Δ v
    down_in nil Γ k Δ v e s = absent_not Δ v e
    down_in (cons t ks) Γ k Δ v e s =
        found_either (λ (x : Unit {0}). R Δ v) (ltb k (nodes t)) (find t Γ k) (find_in ks Γ (k - nodes t)) tt tt Δ v e
        (λ h. down_place t Γ k Δ v h (down-first t ks Γ s)) (λ h. down_in ks Γ (k - nodes t) Δ v h (down-rest t ks Γ s))
