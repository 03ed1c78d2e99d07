-- Over the children of a node, by the list of their places.
-- Main results: Head, head_of (a step); LeftsIn, first_in, child_in, tree_in, next_in, stop_in, end_in (a loop over all of them); Lefts,
-- walk_first, walk_tree, walk_next, walk_stop, walk_end (the same, where the loop keeps what speaks of the children alone).
use mathlib.Core.Path.{◌≡◌, refl, sym, ap, ◌∙◌}
use mathlib.Core.List.{List, [], ◌∷◌}
use Prim.Native.Nat.{ℕ, ◌+◌}
use Rattle.frame.specs.Types.{Ty}
use Rattle.frame.specs.Trees.{head, Tree, node, Forest, nil, cons, nodes}
use Rattle.frame.specs.Places.{Ctx, under, found, find}
use Rattle.frame.proofs.Splices.{find_lt}
use Rattle.frame.proofs.Within.{KidsAtPlace, kid_first, kid_next}
use Rattle.nav.specs.PlaceTables.{Table, InTree, ChildrenOf, places_from}
use Rattle.nav.proofs.Hops.{child_first}

-- c is the first of the places of trees in a row, and `more` are those of the others
pub record Head (t : Tree) (Θ : Ctx) (rest : Forest) (c : ℕ) (more : List ℕ) : Type 0 where
  pub w : Tree
  pub others : Forest
  pub is : rest ≡ cons w others
  pub there : find t [] c ≡ found Θ w
  pub below : KidsAtPlace t [] (c + nodes w) Θ others
  pub are : more ≡ places_from others (c + nodes w)

pub head_of : (t : Tree) (Θ : Ctx) (rest : Forest) (b : ℕ) → KidsAtPlace t [] b Θ rest → (c : ℕ) (more : List ℕ) → places_from rest b ≡ c ∷ more
    → (b ≡ c) × Head t Θ rest c more
head_of t Θ nil b kids c more e = cc
head_of t Θ (cons w others) b kids c more e =
    let z : b ≡ c = cc in
    let y : places_from others (b + nodes w) ≡ more = cc in
    let k : KidsAtPlace t [] c Θ (cons w others) = rw z at kids in (
      z,
      record {
        w = w;
        others = others;
        is = refl;
        there = kid_first t [] c Θ w others k;
        below = kid_next t [] c Θ w others k;
        are = sym y ∙ ap (λ (x : ℕ). places_from others (x + nodes w)) z;
      },
    )

pub no_places : (rest : Forest) (c : ℕ) → places_from rest c ≡ [] → rest ≡ nil
no_places nil c e = refl
no_places (cons w others) c e = cc

-- ---- a loop over the children of the node at place k
module _ (s st nx : List ℕ) (k : ℕ) where
  -- what is said of each tree with these tables, the context of the node's children, and these
  abbrev pub EachIn : (Tree → Ctx → Forest → Type 0) → Type 0
  EachIn Z = (t : Tree) (n : ℕ) (Γ : Ctx) (g x : ℕ) (us : List Ty) (ks : Forest) → Table s t st nx n
      → find t [] k ≡ found Γ (node (head g x us) ks) → Z t (under g us Γ) ks

  -- the others of the children ks are at these places, from place c on; P is what the loop keeps
  pub record Left (P : Tree → Ctx → Forest → ℕ → Forest → Type 0) (places : List ℕ) (t : Tree) (Θ : Ctx) (ks : Forest) : Type 0 where
    pub rest : Forest
    pub c : ℕ
    pub are : places_from rest c ≡ places
    pub below : KidsAtPlace t [] c Θ rest
    pub keeps : P t Θ ks c rest

  abbrev pub LeftsIn : (Tree → Ctx → Forest → ℕ → Forest → Type 0) → List ℕ → Type 0
  LeftsIn P places = EachIn (Left P places)

  pub first_in : (P : Tree → Ctx → Forest → ℕ → Forest → Type 0) → ((t : Tree) (Θ : Ctx) (ks : Forest) → P t Θ ks (k + 1) ks) → (places : List ℕ)
      → ChildrenOf s st nx k places → LeftsIn P places
  first_in P p places post t n Γ g x us ks tb f = record {
    rest = ks;
    c = k + 1;
    are = sym (post.are t n Γ (node (head g x us) ks) tb f);
    below = child_first t k Γ g x us ks f;
    keeps = p t (under g us Γ) ks;
  }

  module _ (P : Tree → Ctx → Forest → ℕ → Forest → Type 0) (places : List ℕ) (ls : LeftsIn P places) where
    module _ (c : ℕ) (more : List ℕ) (e : places ≡ c ∷ more) where
      -- the child at place c, and what the loop has kept
      pub record Child (t : Tree) (Θ : Ctx) (ks : Forest) : Type 0 where
        pub w : Tree
        pub others : Forest
        pub there : find t [] c ≡ found Θ w
        pub below : KidsAtPlace t [] (c + nodes w) Θ others
        pub are : more ≡ places_from others (c + nodes w)
        pub keeps : P t Θ ks c (cons w others)

      pub child_in : EachIn Child
      child_in t n Γ g x us ks tb f =
          let q = ls t n Γ g x us ks tb f in
          let d = head_of t (under g us Γ) q.rest q.c q.below c more (q.are ∙ e) in
          let d1 = d.1 in
          record { w = d1.w; others = d1.others; there = d1.there; below = d1.below; are = d1.are; keeps = rw (d.0, d1.is) at q.keeps }

      pub tree_in : EachIn (λ t Θ ks. InTree s st nx c)
      tree_in t n Γ g x us ks tb f =
          let v = child_in t n Γ g x us ks tb f in
          record { t = t; n = n; table = tb; below = find_lt t [] c (under g us Γ) v.w v.there }

      -- R is what is known of the child at place c
      module _ (R : Tree → Ctx → Tree → Type 0) (known : (t : Tree) (n : ℕ) (Θ : Ctx) (w : Tree) → Table s t st nx n → find t [] c ≡ found Θ w → R t Θ w) where
        pub next_in : (Q : Tree → Ctx → Forest → ℕ → Forest → Type 0)
            → ((t : Tree) (Θ : Ctx) (ks : Forest) (w : Tree) (others : Forest) → R t Θ w → P t Θ ks c (cons w others) → Q t Θ ks (c + nodes w) others)
            → LeftsIn Q more
        next_in Q step t n Γ g x us ks tb f =
            let Θ : Ctx = under g us Γ in
            let d = child_in t n Γ g x us ks tb f in
            record {
              rest = d.others;
              c = c + nodes d.w;
              are = sym d.are;
              below = d.below;
              keeps = step t Θ ks d.w d.others (known t n Θ d.w tb d.there) d.keeps;
            }

        pub stop_in : (Z : Tree → Ctx → Forest → Type 0)
            → ((t : Tree) (Θ : Ctx) (ks : Forest) (w : Tree) (others : Forest) → R t Θ w → P t Θ ks c (cons w others) → Z t Θ ks) → EachIn Z
        stop_in Z step t n Γ g x us ks tb f =
            let Θ : Ctx = under g us Γ in
            let d = child_in t n Γ g x us ks tb f in
            step t Θ ks d.w d.others (known t n Θ d.w tb d.there) d.keeps

    pub end_in : places ≡ [] → (Z : Tree → Ctx → Forest → Type 0) → ((t : Tree) (Θ : Ctx) (ks : Forest) (c : ℕ) → P t Θ ks c nil → Z t Θ ks) → EachIn Z
    end_in h Z step t n Γ g x us ks tb f =
        let Θ : Ctx = under g us Γ in
        let q = ls t n Γ g x us ks tb f in
        step t Θ ks q.c (rw (no_places q.rest q.c (q.are ∙ h)) at q.keeps)

  -- ---- the same, where what the loop keeps speaks of the children alone
  abbrev pub EachNode : (Forest → Type 0) → Type 0
  EachNode Z = EachIn (λ t Θ. Z)

  abbrev pub Lefts : (Forest → ℕ → Forest → Type 0) → List ℕ → Type 0
  Lefts P = LeftsIn (λ t Θ. P)

  pub walk_first : (P : Forest → ℕ → Forest → Type 0) → ((ks : Forest) → P ks (k + 1) ks) → (places : List ℕ) → ChildrenOf s st nx k places → Lefts P places
  walk_first P p = first_in (λ t Θ. P) (λ t Θ. p)

  module _ (P : Forest → ℕ → Forest → Type 0) (places : List ℕ) (ls : Lefts P places) where
    module _ (c : ℕ) (more : List ℕ) (e : places ≡ c ∷ more) where
      pub walk_tree : EachNode (λ ks. InTree s st nx c)
      walk_tree = tree_in (λ t Θ. P) places ls c more e

      module _ (R : Tree → Type 0) (known : (t : Tree) (n : ℕ) (Γ : Ctx) (v : Tree) → Table s t st nx n → find t [] c ≡ found Γ v → R v) where
        pub walk_next : (Q : Forest → ℕ → Forest → Type 0)
            → ((ks : Forest) (w : Tree) (others : Forest) → R w → P ks c (cons w others) → Q ks (c + nodes w) others) → Lefts Q more
        walk_next Q step = next_in (λ t Θ. P) places ls c more e (λ t Θ. R) known (λ t Θ. Q) (λ t Θ. step)

        pub walk_stop : (Z : Forest → Type 0) → ((ks : Forest) (w : Tree) (others : Forest) → R w → P ks c (cons w others) → Z ks) → EachNode Z
        walk_stop Z step = stop_in (λ t Θ. P) places ls c more e (λ t Θ. R) known (λ t Θ. Z) (λ t Θ. step)

    pub walk_end : places ≡ [] → (Z : Forest → Type 0) → ((ks : Forest) (c : ℕ) → P ks c nil → Z ks) → EachNode Z
    walk_end h Z step = end_in (λ t Θ. P) places ls h (λ t Θ. Z) (λ t Θ. step)
