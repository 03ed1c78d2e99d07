-- Acceptance goes down from a tree to the subtree at a place, and up again when that subtree is replaced.
-- Main results: accepted_at (what stands at a place of an accepted tree is accepted there), accepted_replaced (a subtree
-- replaced by an accepted one of the same type leaves the tree accepted).
use mathlib.Core.Path.{◌≡◌, refl, ap₂}
use mathlib.Core.List.{List, [], ◌∷◌}
use Prim.Native.Nat.{ℕ}
use Rattle.frame.specs.Types.{Ty}
use Rattle.frame.specs.Trees.{head, Tree, node, Forest, cons, count}
use Rattle.frame.specs.Tags.{Sort}
use Rattle.frame.specs.Places.{Ctx, under, found, find, replace}
use Rattle.frame.proofs.AtPlace.{at_place, down_place}
use Rattle.typing.specs.Typing.{type_of, types_in}
use Rattle.typing.specs.Accepted.{TysOk, Accepted, AcceptedAll}
use Rattle.typing.proofs.Derived.{push_ok}

module _ (σ : ℕ → Ty) where
  -- ---- down
  abbrev pub AcceptedIn : Ctx → Tree → Type 0
  AcceptedIn Γ t = TysOk σ Γ × ((e : Sort) × Accepted σ t Γ e)

  abbrev AcceptedAllIn : Ctx → Forest → Type 0
  AcceptedAllIn Γ ks = TysOk σ Γ × ((es : List Sort) × AcceptedAll σ ks Γ es)

  to_kids : (g n : ℕ) (us : List Ty) (ks : Forest) (Γ : Ctx) → AcceptedIn Γ (node (head g n us) ks) → AcceptedAllIn (under g us Γ) ks
  unfolding Accepted
  to_kids g n us ks Γ a = (push_ok σ g us Γ a.1.1.top.types a.0, (_, a.1.1.kids))

  first_of : (t : Tree) (ks : Forest) (Γ : Ctx) (es : List Sort) → AcceptedAll σ (cons t ks) Γ es → (e : Sort) × Accepted σ t Γ e
  unfolding Accepted
  first_of t ks Γ [] a = absurd a
  first_of t ks Γ (e ∷ es) a = (e, a.0)

  rest_of : (t : Tree) (ks : Forest) (Γ : Ctx) (es : List Sort) → AcceptedAll σ (cons t ks) Γ es → (fs : List Sort) × AcceptedAll σ ks Γ fs
  unfolding Accepted
  rest_of t ks Γ [] a = absurd a
  rest_of t ks Γ (e ∷ es) a = (es, a.1)

  pub accepted_at : (t : Tree) (Γ : Ctx) (k : ℕ) (Δ : Ctx) (v : Tree) → find t Γ k ≡ found Δ v → AcceptedIn Γ t → AcceptedIn Δ v
  accepted_at = down_place AcceptedIn AcceptedAllIn to_kids (λ t ks Γ a. (a.0, first_of t ks Γ a.1.0 a.1.1))
      (λ t ks Γ a. (a.0, rest_of t ks Γ a.1.0 a.1.1))

  -- ---- up
  pub record Stays (Γ : Ctx) (e : Sort) (t u : Tree) : Type 0 where
    pub accepted : Accepted σ u Γ e
    pub type : type_of t Γ ≡ type_of u Γ

  pub record StaysAll (Γ : Ctx) (es : List Sort) (ks ls : Forest) : Type 0 where
    pub accepted : AcceptedAll σ ls Γ es
    pub types : types_in ks Γ ≡ types_in ls Γ
    pub count : count ks ≡ count ls

  abbrev Keeps : Ctx → Tree → Tree → Type 0
  Keeps Γ t u = (e : Sort) → Accepted σ t Γ e → Stays Γ e t u

  abbrev KeepsAll : Ctx → Forest → Forest → Type 0
  KeepsAll Γ ks ls = (es : List Sort) → AcceptedAll σ ks Γ es → StaysAll Γ es ks ls

  node_keeps : (g n : ℕ) (us : List Ty) (ks ls : Forest) (Γ : Ctx) → KeepsAll (under g us Γ) ks ls
      → Keeps Γ (node (head g n us) ks) (node (head g n us) ls)
  unfolding Accepted type_of
  node_keeps g n us ks ls Γ h e a =
      let s = h _ a.kids in
      let c : count ks ≡ count ls = s.count in
      let y : types_in ks (under g us Γ) ≡ types_in ls (under g us Γ) = s.types in
      record {
        accepted = record { top = rw c at a.top; fits = rw y at a.fits; short = rw y at a.short; kids = rw c at s.accepted };
        type = rw y;
      }

  first_keeps : (t u : Tree) (ks : Forest) (Γ : Ctx) → Keeps Γ t u → KeepsAll Γ (cons t ks) (cons u ks)
  unfolding Accepted type_of
  first_keeps t u ks Γ h [] a = absurd a
  first_keeps t u ks Γ h (e ∷ es) a =
      let s = h e a.0 in record { accepted = (s.accepted, a.1); types = ap₂ ◌∷◌ s.type refl; count = refl }

  rest_keeps : (t : Tree) (ks ls : Forest) (Γ : Ctx) → KeepsAll Γ ks ls → KeepsAll Γ (cons t ks) (cons t ls)
  unfolding Accepted type_of
  rest_keeps t ks ls Γ h [] a = absurd a
  rest_keeps t ks ls Γ h (e ∷ es) a =
      let s = h es a.1 in
      let c : count ks ≡ count ls = s.count in
      record { accepted = (a.0, s.accepted); types = ap₂ ◌∷◌ refl s.types; count = rw c }

  pub accepted_replaced : (t : Tree) (Γ : Ctx) (k : ℕ) (Δ : Ctx) (v u : Tree) → find t Γ k ≡ found Δ v → Keeps Δ v u → Keeps Γ t (replace t k u)
  accepted_replaced = at_place Keeps KeepsAll node_keeps first_keeps rest_keeps
