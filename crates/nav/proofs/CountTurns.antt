-- How many children of a node pass a test.
-- Main results: count_first, count_child, count_next, count_end (count_children); counted_children (what was counted, by the trees).
use mathlib.Core.Path.{◌≡◌, refl, sym, ap, ◌∙◌, subst}
use mathlib.Core.Bool.{Bool, true, false}
use mathlib.Core.List.{List, [], ◌∷◌}
use Prim.Native.Nat.{ℕ, suc, ◌+◌, ◌≤◌, ◌<◌}
use native.Mathlib.Omega.{arith}
use lib.ListN.{length, get_or}
use Rattle.std.specs.Int.{from_bool}
use Rattle.frame.specs.Types.{Ty}
use Rattle.frame.specs.Trees.{head, Tree, node, Forest, nil, cons, nodes}
use Rattle.frame.specs.Places.{Ctx, under, found, find}
use Rattle.frame.proofs.Within.{KidsAtPlace, kid_first, kid_next}
use Rattle.nav.specs.declared.Places.{Places}
use Rattle.nav.specs.PlaceTables.{Table, places_from, Passing}
use Rattle.nav.specs.AtPlaces.{TreeAt, ChildrenAt, CountedAt}
use Rattle.nav.proofs.Hops.{child_first}
use Rattle.nav.proofs.ChildPlaces.{child_tree, child_few}

module _ (gives : ℕ → Bool → Type 0) (p : Places) (k : ℕ) where
  -- m are behind, and the children at these places are left
  pub record Counting (m : ℕ) (left : List ℕ) : Type 0 where
    pub places : List ℕ
    pub are : ChildrenAt p k places
    pub few : m + length left ≤ 2048
    pub within : (i d : ℕ) → i < length left → TreeAt p (get_or left i d)
    pub counts : (n : ℕ) → Passing gives left n → Passing gives places (m + n)

  pub count_first : TreeAt p k → (places : List ℕ) → ChildrenAt p k places → Counting 0 places
  count_first tree places post = record {
    places = places;
    are = post;
    few = let z = child_few p.bytes.now p.starts.now p.nexts.now k tree places post in omega arith;
    within = child_tree p.bytes.now p.starts.now p.nexts.now k tree places post;
    counts = λ n h. (let z : n ≡ 0 + n = omega arith in rw (← z) h);
  }

  module _ (m : ℕ) (left : List ℕ) (i : Counting m left) where
    module _ (c : ℕ) (more : List ℕ) (e : left ≡ c ∷ more) where
      within_next : (j d : ℕ) → j < suc (length more) → TreeAt p (get_or (c ∷ more) j d)
      within_next = subst (λ (xs : List ℕ). (j d : ℕ) → j < length xs → TreeAt p (get_or xs j d)) e i.within

      pub count_child : TreeAt p c
      count_child = within_next 0 0 (omega arith)

      pub count_next : (b : Bool) → gives c b → (a : ℕ) → a ≡ from_bool b → Counting (m + a) more
      unfolding Passing
      count_next b g a ea = record {
        places = i.places;
        are = i.are;
        few = let z : length left ≡ suc (length more) = ap length e in omega (arith, i.few, bit b);
        within = λ j d h. within_next (suc j) d (omega arith);
        counts = λ n h.
            (let z : m + (from_bool b + n) ≡ m + a + n = omega arith in
            let q : Passing gives (c ∷ more) (from_bool b + n) → Passing gives i.places (m + (from_bool b + n)) =
            subst (λ (xs : List ℕ). Passing gives xs (from_bool b + n) → Passing gives i.places (m + (from_bool b + n))) e (i.counts (from_bool b + n)) in
            subst (Passing gives i.places) z (q (b, g, n, refl, h)));
      }
        where
          bit : (b : Bool) → from_bool b ≤ 1
          bit true = omega arith
          bit false = omega arith

    pub count_end : left ≡ [] → CountedAt gives p k m
    unfolding Passing
    count_end e =
        let z : m + 0 ≡ m = omega arith in
        let q : Passing gives [] 0 → Passing gives i.places (m + 0) = subst (λ (xs : List ℕ). Passing gives xs 0 → Passing gives i.places (m + 0)) e (i.counts 0) in
        (i.places, i.are, subst (Passing gives i.places) z (q refl))

-- ---- what was counted, where `sum` says how many trees in a row pass
module _ (gives : ℕ → Bool → Type 0) (t : Tree) (sum : Forest → ℕ) (none : sum nil ≡ 0)
    (one : (c : ℕ) (Θ : Ctx) (w : Tree) → find t [] c ≡ found Θ w → (b : Bool) → gives c b → (ks : Forest) → sum (cons w ks) ≡ from_bool b + sum ks) where
  counted_row : (Θ : Ctx) (ks : Forest) (c : ℕ) → KidsAtPlace t [] c Θ ks → (m : ℕ) → Passing gives (places_from ks c) m → m ≡ sum ks
  unfolding Passing
  counted_row Θ nil c kids m h = h ∙ sym none
  counted_row Θ (cons w ks) c kids m h =
      let y = one c Θ w (kid_first t [] c Θ w ks kids) h.0 h.1 ks in
      let z = counted_row Θ ks (c + nodes w) (kid_next t [] c Θ w ks kids) h.2 h.4 in
      omega (arith, h.3)

  pub counted_children : (p : Places) (n : ℕ) → Table p.bytes.now t p.starts.now p.nexts.now n → (k : ℕ) (Γ : Ctx) (g x : ℕ) (us : List Ty) (ks : Forest)
      → find t [] k ≡ found Γ (node (head g x us) ks) → (m : ℕ) → CountedAt gives p k m → m ≡ sum ks
  counted_children p n tb k Γ g x us ks f m h =
      counted_row (under g us Γ) ks (k + 1) (child_first t k Γ g x us ks f) m
      (subst (λ (xs : List ℕ). Passing gives xs m) (h.1.are t n Γ (node (head g x us) ks) tb f) h.2)
