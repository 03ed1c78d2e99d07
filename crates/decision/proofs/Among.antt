-- A test among the children of a node, by the list of their places: what `places.children(k).any(..)` asks and answers.
-- Main results: row_at (a tree stands at each place of a row), among (the answer says whether the test holds of one of the trees).
use mathlib.Core.Path.{◌≡◌, sym}
use mathlib.Core.Bool.{Bool, true, false, ◌||◌, or-true}
use mathlib.Core.List.{[]}
use Prim.Native.Nat.{ℕ, zero, suc, ◌+◌, ◌<◌}
use native.Mathlib.Omega.{arith}
use lib.ListN.{length, get_or}
use Rattle.std.proofs.Common.{MatchBool}
use Rattle.std.specs.List.{HoldsAt, AllWithin}
use Rattle.frame.specs.Trees.{Tree, Forest, nil, cons, nodes}
use Rattle.frame.specs.Places.{Ctx, found, find}
use Rattle.frame.proofs.Within.{KidsAtPlace, kid_first, kid_next}
use Rattle.nav.specs.PlaceTables.{places_from}

module _ (t : Tree) (Θ : Ctx) where
  pub row_at : (ks : Forest) (c : ℕ) → KidsAtPlace t [] c Θ ks → (i x : ℕ) → i < length (places_from ks c) → x ≡ get_or (places_from ks c) i x
      → (v : Tree) × (find t [] x ≡ found Θ v)
  row_at nil c kids i x h e = absurd (omega arith)
  row_at (cons w ks) c kids zero x h e = (w, rw e (kid_first t [] c Θ w ks kids))
  row_at (cons w ks) c kids (suc i) x h e = row_at ks (c + nodes w) (kid_next t [] c Θ w ks kids) i x (omega arith) e

  -- E x r: the test answers r at place x; it says f of the tree there, and g whether f holds of one of the trees
  module _ (E : ℕ → Bool → Type 0) (f : Tree → Bool) (says : (x : ℕ) (v : Tree) (r : Bool) → find t [] x ≡ found Θ v → E x r → r ≡ f v)
      (g : Forest → Bool) (none : g nil ≡ false) (more : (v : Tree) (ks : Forest) → g (cons v ks) ≡ (f v || g ks)) where
    some_in : (ks : Forest) (c : ℕ) → KidsAtPlace t [] c Θ ks → (i : ℕ) → i < length (places_from ks c)
        → HoldsAt (λ x. E x true) (places_from ks c) i → true ≡ g ks
    some_in nil c kids i h e = absurd (omega arith)
    some_in (cons w ks) c kids zero h e =
        let z = says c w true (kid_first t [] c Θ w ks kids) (e c) in rw (more w ks, ← z)
    some_in (cons w ks) c kids (suc i) h e =
        let z = some_in ks (c + nodes w) (kid_next t [] c Θ w ks kids) i (omega arith) (λ d. e d) in rw (more w ks, ← z) (sym (or-true (f w)))

    none_in : (ks : Forest) (c : ℕ) → KidsAtPlace t [] c Θ ks → AllWithin (λ x. E x false) (places_from ks c) 0 (length (places_from ks c)) → false ≡ g ks
    none_in nil c kids e = sym none
    none_in (cons w ks) c kids e =
        let z = says c w false (kid_first t [] c Θ w ks kids) (e 0 c (omega arith) (omega arith)) in
        rw (more w ks, ← z) (none_in ks (c + nodes w) (kid_next t [] c Θ w ks kids) (λ k d a b. e (suc k) d (omega arith) (omega arith)))

    pub among : (ks : Forest) (c : ℕ) → KidsAtPlace t [] c Θ ks → (r : Bool)
        → MatchBool r ((i : ℕ) × (i < length (places_from ks c)) × HoldsAt (λ x. E x true) (places_from ks c) i)
        (AllWithin (λ x. E x false) (places_from ks c) 0 (length (places_from ks c))) → r ≡ g ks
    among ks c kids true m = some_in ks c kids m.0 m.1 m.2
    among ks c kids false m = none_in ks c kids m
