-- Places within a subtree.
-- Main results: find_within (place i of the subtree at place j is place j + i), kid_first, kid_next (the places of a node's
-- children: the first follows the node, the next follows all nodes of the one before).
use mathlib.Core.Path.{◌≡◌, refl, ap, ◌∙◌}
use mathlib.Core.Bool.{Bool, true, false}
use mathlib.Core.List.{List}
use Prim.Native.Nat.{ℕ, zero, suc, ◌+◌, ◌-◌, ◌≤◌, ◌<◌}
use native.Mathlib.Omega.{arith}
use lib.Dec.{ltb}
use borrow.Author.Tests.{ltb-false, lt-ltb, le-ltb}
use Rattle.frame.specs.Types.{Ty}
use Rattle.frame.specs.Trees.{head, Tree, node, Forest, nil, cons, nodes}
use Rattle.frame.specs.Tags.{pick}
use Rattle.frame.specs.Places.{Ctx, under, found, find, find_in}
use Rattle.frame.proofs.AtPlace.{absent_not}
use Rattle.frame.proofs.Splices.{find_lt}
use Rattle.frame.proofs.Extents.{some_node}

-- in the first tree, or past it
first_side : (t : Tree) (ts : Forest) (Γ : Ctx) (k : ℕ) → k < nodes t → find_in (cons t ts) Γ k ≡ find t Γ k
unfolding find
first_side t ts Γ k h = rw (lt-ltb k (nodes t) h)

rest_side : (t : Tree) (ts : Forest) (Γ : Ctx) (k : ℕ) → nodes t ≤ k → find_in (cons t ts) Γ k ≡ find_in ts Γ (k - nodes t)
unfolding find
rest_side t ts Γ k h = rw (le-ltb k (nodes t) h)

module _ (i : ℕ) (Δ Θ : Ctx) (v w : Tree) (e : find v Δ i ≡ found Θ w) where
  at_root : (t : Tree) (Γ : Ctx) → found Γ t ≡ found Δ v → find t Γ (0 + i) ≡ found Θ w
  at_root t Γ f =
      let a : Γ ≡ Δ = cc in
      let b : t ≡ v = cc in
      let z : 0 + i ≡ i = omega arith in
      rw (z, a, b) e

  mutual
    unfolding find

    pub find_within : (t : Tree) (Γ : Ctx) (j : ℕ) → find t Γ j ≡ found Δ v → find t Γ (j + i) ≡ found Θ w
    find_within (node (head g n us) ks) Γ zero f =
        at_root (node (head g n us) ks) Γ f
    find_within (node (head g n us) ks) Γ (suc j) f =
        let z : suc j + i ≡ suc (j + i) = omega arith in
        rw z (find_within_in ks (under g us Γ) j f)

    pub find_within_in : (ks : Forest) (Γ : Ctx) (j : ℕ) → find_in ks Γ j ≡ found Δ v → find_in ks Γ (j + i) ≡ found Θ w
    find_within_in nil Γ j f = absent_not Δ v f
    find_within_in (cons t ts) Γ j f = go (ltb j (nodes t)) refl f (λ x. find_within t Γ j x) (λ x. find_within_in ts Γ (j - nodes t) x)
      where
        go : (b : Bool) → ltb j (nodes t) ≡ b → pick b (find t Γ j) (find_in ts Γ (j - nodes t)) ≡ found Δ v
            → (find t Γ j ≡ found Δ v → find t Γ (j + i) ≡ found Θ w)
            → (find_in ts Γ (j - nodes t) ≡ found Δ v → find_in ts Γ (j - nodes t + i) ≡ found Θ w)
            → find_in (cons t ts) Γ (j + i) ≡ found Θ w
        go true h f x y = let r = x f in first_side t ts Γ (j + i) (find_lt t Γ (j + i) Θ w r) ∙ r
        go false h f x y =
            let l : nodes t ≤ j = ltb-false j (nodes t) h in
            let z : j + i - nodes t ≡ j - nodes t + i = omega arith in
            rest_side t ts Γ (j + i) (omega arith) ∙ ap (find_in ts Γ) z ∙ y f

-- ---- a node's children: those of a list ks that begins at place k, in the context Θ
abbrev pub KidsAtPlace : Tree → Ctx → ℕ → Ctx → Forest → Type 0
KidsAtPlace t Γ k Θ ks = (i : ℕ) (Ξ : Ctx) (w : Tree) → find_in ks Θ i ≡ found Ξ w → find t Γ (k + i) ≡ found Ξ w

pub kids_of_lem : (t : Tree) (Γ : Ctx) (k : ℕ) (Δ : Ctx) (g n : ℕ) (us : List Ty) (ks : Forest)
    → find t Γ k ≡ found Δ (node (head g n us) ks) → KidsAtPlace t Γ (k + 1) (under g us Δ) ks
unfolding find
kids_of_lem t Γ k Δ g n us ks f i Ξ w e =
    let z : k + 1 + i ≡ k + suc i = omega arith in
    rw z (find_within (suc i) Δ Ξ (node (head g n us) ks) w e t Γ k f)

root_found : (w : Tree) (Θ : Ctx) → find w Θ 0 ≡ found Θ w
unfolding find
root_found (node h ks) Θ = refl

pub kid_first : (t : Tree) (Γ : Ctx) (k : ℕ) (Θ : Ctx) (w : Tree) (ks : Forest) → KidsAtPlace t Γ k Θ (cons w ks) → find t Γ k ≡ found Θ w
kid_first t Γ k Θ w ks h =
    let z : k + 0 ≡ k = omega arith in
    rw z at (h 0 Θ w (first_side w ks Θ 0 (some_node w) ∙ root_found w Θ))

pub kid_next : (t : Tree) (Γ : Ctx) (k : ℕ) (Θ : Ctx) (w : Tree) (ks : Forest) → KidsAtPlace t Γ k Θ (cons w ks) → KidsAtPlace t Γ (k + nodes w) Θ ks
kid_next t Γ k Θ w ks h i Ξ x e =
    let z : k + nodes w + i ≡ k + (nodes w + i) = omega arith in
    let y : nodes w + i - nodes w ≡ i = omega arith in
    rw z (h (nodes w + i) Ξ x (rest_side w ks Θ (nodes w + i) (omega arith) ∙ ap (find_in ks Θ) y ∙ e))
