-- The children of a node, one after the other, by the table and by the tree.
-- Main results: any_child, first_child (a test of each child, made at its place); tree_few, tree_hops, tree_children, child_tree,
-- child_placed, child_few.
use mathlib.Core.Path.{◌≡◌, refl, sym, ap, ◌∙◌, subst}
use mathlib.Core.Bool.{Bool, true, false, ◌||◌}
use mathlib.Core.List.{List, [], ◌∷◌}
use Prim.Native.Nat.{ℕ, zero, suc, ◌+◌, ◌≤◌, ◌<◌}
use native.Mathlib.Omega.{arith}
use lib.ListN.{length, get_or}
use Rattle.std.specs.Bool.{MatchBool}
use Rattle.std.specs.Option.{MatchOption}
use Rattle.std.specs.Prelude.{Option, Some, None}
use Rattle.std.specs.List.{HoldsAt, AllWithin}
use Rattle.frame.specs.Types.{Ty}
use Rattle.frame.specs.Trees.{Tree, head, node, Forest, nil, cons, count, nodes, nodes_in, append}
use Rattle.frame.specs.Places.{Ctx, under, found, find}
use Rattle.frame.proofs.Extents.{some_node}
use Rattle.frame.proofs.Splices.{find_some, find_lt}
use Rattle.frame.proofs.Within.{KidsAtPlace, kid_first, kid_next}
use Rattle.nav.specs.PlaceTables.{NextsFrom, HopsIn, InTree, ArityPost, ChildrenOf, arity, places_from, child_places, walk}
use Rattle.nav.proofs.Hops.{framed_few, place_end, child_first, hops_node}

-- the table leads from each tree in a row to the next
pub walk_row : (t : Tree) (l : List ℕ) (i : ℕ) → NextsFrom t i l → (ks : Forest) (c : ℕ) (Θ : Ctx) → i ≤ c → KidsAtPlace t [] c Θ ks
    → walk l c (count ks) ≡ places_from ks c
unfolding nodes
walk_row t l i nx nil c Θ h kids = refl
walk_row t l i nx (cons w ks) c Θ h kids =
    let z : get_or l c 0 ≡ c + nodes w = nx.next c Θ w h (kid_first t [] c Θ w ks kids) in
    let r = walk_row t l i nx ks (c + nodes w) Θ (omega arith) (kid_next t [] c Θ w ks kids) in
    ap (λ (x : ℕ). c ∷ walk l x (count ks)) z ∙ ap (λ (xs : List ℕ). c ∷ xs) r

walk_node : (t : Tree) (l : List ℕ) (k : ℕ) → NextsFrom t 0 l → (Γ : Ctx) (v : Tree) → find t [] k ≡ found Γ v → walk l (k + 1) (arity v) ≡ child_places v k
walk_node t l k nx Γ (node (head g n us) ks) f =
    walk_row t l 0 nx ks (k + 1) (under g us Γ) (omega arith) (child_first t k Γ g n us ks f)

row_below : (t : Tree) (Θ : Ctx) (ks : Forest) (c : ℕ) → KidsAtPlace t [] c Θ ks → (i d : ℕ) → i < length (places_from ks c)
    → get_or (places_from ks c) i d < nodes t
row_below t Θ nil c kids i d h = absurd (omega arith)
row_below t Θ (cons w ks) c kids zero d h = find_lt t [] c Θ w (kid_first t [] c Θ w ks kids)
row_below t Θ (cons w ks) c kids (suc i) d h = row_below t Θ ks (c + nodes w) (kid_next t [] c Θ w ks kids) i d (omega arith)

kid_below : (t : Tree) (k : ℕ) (Γ : Ctx) (v : Tree) → find t [] k ≡ found Γ v → (i d : ℕ) → i < length (child_places v k)
    → get_or (child_places v k) i d < nodes t
kid_below t k Γ (node (head g n us) ks) f i d h = row_below t (under g us Γ) ks (k + 1) (child_first t k Γ g n us ks f) i d h

places_few : (ks : Forest) (c : ℕ) → length (places_from ks c) ≤ nodes_in ks
unfolding nodes
places_few nil c = omega arith
places_few (cons w ks) c = let r = places_few ks (c + nodes w) in omega (arith, some_node w)

kids_few : (t : Tree) (k : ℕ) (Γ : Ctx) (v : Tree) → find t [] k ≡ found Γ v → nodes t ≤ 2048 → length (child_places v k) ≤ 2048
unfolding nodes
kids_few t k Γ (node h ks) f few = let e = place_end t [] k Γ (node h ks) f in omega (arith, places_few ks (k + 1))

-- the first of the trees in a row of which a test holds, where `any` says that it holds of one: it is at place p
pub record FirstChild (t : Tree) (any : Forest → Bool) (Θ : Ctx) (ks : Forest) (c p : ℕ) : Type 0 where
  pub left : Forest
  pub w : Tree
  pub right : Forest
  pub is : ks ≡ append left (cons w right)
  pub before : any left ≡ false
  pub at : p ≡ c + nodes_in left
  pub there : find t [] p ≡ found Θ w

-- ---- a test of the trees in a row, f, made at one place after the other: at a place it says Yes or No
module _ (t : Tree) (f : Tree → Bool) (any : Forest → Bool) (none : any nil ≡ false)
    (more : (w : Tree) (ks : Forest) → any (cons w ks) ≡ (f w || any ks)) (Yes No : ℕ → Type 0)
    (if_yes : (c : ℕ) (Θ : Ctx) (w : Tree) → find t [] c ≡ found Θ w → Yes c → true ≡ f w)
    (if_no : (c : ℕ) (Θ : Ctx) (w : Tree) → find t [] c ≡ found Θ w → No c → false ≡ f w) where
  or_true : (a b : Bool) → true ≡ b → true ≡ (a || b)
  or_true true b e = refl
  or_true false b e = e

  any_there : (Θ : Ctx) (ks : Forest) (c : ℕ) → KidsAtPlace t [] c Θ ks → (i : ℕ) → i < length (places_from ks c) → HoldsAt Yes (places_from ks c) i
      → true ≡ any ks
  any_there Θ nil c kids i h y = absurd (omega arith)
  any_there Θ (cons w ks) c kids zero h y =
      let e = if_yes c Θ w (kid_first t [] c Θ w ks kids) (y 0) in
      ap (λ (b : Bool). b || any ks) e ∙ sym (more w ks)
  any_there Θ (cons w ks) c kids (suc i) h y =
      let e = any_there Θ ks (c + nodes w) (kid_next t [] c Θ w ks kids) i (omega arith) y in
      or_true (f w) (any ks) e ∙ sym (more w ks)

  none_there : (Θ : Ctx) (ks : Forest) (c : ℕ) → KidsAtPlace t [] c Θ ks → AllWithin No (places_from ks c) 0 (length (places_from ks c))
      → false ≡ any ks
  none_there Θ nil c kids n = sym none
  none_there Θ (cons w ks) c kids n =
      let e = if_no c Θ w (kid_first t [] c Θ w ks kids) (n 0 0 (omega arith) (omega arith)) in
      let r = none_there Θ ks (c + nodes w) (kid_next t [] c Θ w ks kids) (λ i d l h. n (suc i) d (omega arith) (omega arith)) in
      r ∙ ap (λ (b : Bool). b || any ks) e ∙ sym (more w ks)

  -- what `any` answers over the places of the children of a node
  pub any_child : (k : ℕ) (Γ : Ctx) (g n : ℕ) (us : List Ty) (ks : Forest) → find t [] k ≡ found Γ (node (head g n us) ks) → (places : List ℕ)
      → places ≡ places_from ks (k + 1) → (r : Bool)
      → MatchBool r ((i : ℕ) × (i < length places) × HoldsAt Yes places i) (AllWithin No places 0 (length places)) → r ≡ any ks
  any_child k Γ g n us ks fd places e true m =
      let a = subst (λ (ps : List ℕ). (i : ℕ) × (i < length ps) × HoldsAt Yes ps i) e m in
      any_there (under g us Γ) ks (k + 1) (child_first t k Γ g n us ks fd) a.0 a.1 a.2
  any_child k Γ g n us ks fd places e false m =
      none_there (under g us Γ) ks (k + 1) (child_first t k Γ g n us ks fd) (subst (λ (ps : List ℕ). AllWithin No ps 0 (length ps)) e m)

  first_there : (Θ : Ctx) (ks : Forest) (c : ℕ) → KidsAtPlace t [] c Θ ks → (p i : ℕ) → i < length (places_from ks c)
      → HoldsAt (λ y. y ≡ p) (places_from ks c) i → AllWithin No (places_from ks c) 0 i → FirstChild t any Θ ks c p
  unfolding nodes
  first_there Θ nil c kids p i h y n = absurd (omega arith)
  first_there Θ (cons w ks) c kids p zero h y n =
      let z : c ≡ p = y 0 in
      record { left = nil; w = w; right = ks; is = refl; before = none; at = omega arith; there = rw (← z) (kid_first t [] c Θ w ks kids) }
  first_there Θ (cons w ks) c kids p (suc i) h y n =
      let e = if_no c Θ w (kid_first t [] c Θ w ks kids) (n 0 0 (omega arith) (omega arith)) in
      let r = first_there Θ ks (c + nodes w) (kid_next t [] c Θ w ks kids) p i (omega arith) y
      (λ j d l u. n (suc j) d (omega arith) (omega arith)) in
      record {
        left = cons w r.left;
        w = r.w;
        right = r.right;
        is = ap (λ (xs : Forest). cons w xs) r.is;
        before = more w r.left ∙ ap (λ (b : Bool). b || any r.left) (sym e) ∙ r.before;
        at = omega (arith, r.at);
        there = r.there;
      }

  -- what `find` answers over them
  pub first_child : (k : ℕ) (Γ : Ctx) (g n : ℕ) (us : List Ty) (ks : Forest) → find t [] k ≡ found Γ (node (head g n us) ks) → (places : List ℕ)
      → places ≡ places_from ks (k + 1) → (r : Option ℕ)
      → MatchOption r (AllWithin No places 0 (length places))
      (λ x. Yes x × (i : ℕ) × (i < length places) × HoldsAt (λ y. y ≡ x) places i × AllWithin No places 0 i)
      → MatchOption r (any ks ≡ false) (λ p. Yes p × FirstChild t any (under g us Γ) ks (k + 1) p)
  first_child k Γ g n us ks fd places e None m =
      sym
      (none_there (under g us Γ) ks (k + 1) (child_first t k Γ g n us ks fd) (subst (λ (ps : List ℕ). AllWithin No ps 0 (length ps)) e m))
  first_child k Γ g n us ks fd places e (Some p) m =
      let a = subst (λ (ps : List ℕ). Yes p × (i : ℕ) × (i < length ps) × HoldsAt (λ y. y ≡ p) ps i × AllWithin No ps 0 i) e m in
      (a.0, first_there (under g us Γ) ks (k + 1) (child_first t k Γ g n us ks fd) p a.1 a.2 a.3 a.4)

module _ (s st nx : List ℕ) (k : ℕ) where
  pub tree_few : InTree s st nx k → k < 2048
  tree_few p = omega (arith, p.below, framed_few s p.t st p.n p.table.framed)

  pub tree_hops : InTree s st nx k → (m : ℕ) → ArityPost s st k m → HopsIn nx m (k + 1)
  tree_hops p m post =
      let fr = p.table.framed in
      let v = find_some p.t [] k p.below in
      let z : m ≡ arity v.1 = post.many p.t p.n v.0 v.1 fr v.2 in
      let q : NextsFrom p.t (k + 1) nx = record { next = λ j Γ u h f. p.table.follows.next j Γ u (omega arith) f } in
      rw z (hops_node p.t nx k q (framed_few s p.t st p.n fr) v.0 v.1 v.2).0

  pub tree_children : (m : ℕ) → ArityPost s st k m → ChildrenOf s st nx k (walk nx (k + 1) m)
  tree_children m post = record {
    are = λ t n Γ v tb f. ap (walk nx (k + 1)) (post.many t n Γ v tb.framed f) ∙ walk_node t nx k tb.follows Γ v f;
  }

  -- each of the children's places is a place of the tree
  pub child_tree : InTree s st nx k → (places : List ℕ) → ChildrenOf s st nx k places → (i d : ℕ) → i < length places → InTree s st nx (get_or places i d)
  child_tree p places post i d h =
      let v = find_some p.t [] k p.below in
      let z : places ≡ child_places v.1 k = post.are p.t p.n v.0 v.1 p.table v.2 in
      record { t = p.t; n = p.n; table = p.table; below = rw z (kid_below p.t k v.0 v.1 v.2 i d (rw z at h)) }

  pub child_placed : InTree s st nx k → (places : List ℕ) → ChildrenOf s st nx k places → (c i : ℕ) → i < length places → c ≡ get_or places i c
      → InTree s st nx c
  child_placed p places post c i h e = rw e (child_tree p places post i c h)

  -- they are few
  pub child_few : InTree s st nx k → (places : List ℕ) → ChildrenOf s st nx k places → length places ≤ 2048
  child_few p places post =
      let v = find_some p.t [] k p.below in
      let z : places ≡ child_places v.1 k = post.are p.t p.n v.0 v.1 p.table v.2 in
      rw z (kids_few p.t k v.0 v.1 v.2 (framed_few s p.t st p.n p.table.framed))
