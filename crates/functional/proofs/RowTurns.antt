-- The ways out of named_at and functional_check of src/lib.rt: what a tree names, and the two masks.
-- Main results: named_own, Naming, naming_first, naming_next, naming_end (over the children); children_first, children_next, children_below
-- (their places); left_tree, right_tree, check_done.
use mathlib.Core.Path.{◌≡◌, refl, sym, ap, ◌∙◌}
use mathlib.Core.Bool.{Bool, true, false, not, ◌&&◌, ◌||◌, or-false}
use mathlib.Core.List.{List, [], ◌∷◌}
use Prim.Native.Nat.{ℕ, zero, suc, ◌+◌, ◌-◌, ◌≤◌, ◌<◌}
use native.Mathlib.Omega.{arith}
use lib.ListN.{length}
use lib.Dec.{eqb, ltb}
use lib.Bits.{bit_and, bit_or}
use borrow.Author.Tests.{eqb-true, lt-ltb, le-ltb}
use Rattle.frame.specs.Types.{Ty}
use Rattle.frame.specs.Trees.{head, Tree, node, Forest, nil, cons}
use Rattle.frame.specs.Tags.{lookup, class_of, form_at, form_of, binders_of}
use Rattle.frame.specs.Places.{Ctx, found, find}
use Rattle.frame.proofs.Splices.{find_some, find_lt}
use Rattle.frame.proofs.Tables.{all_below}
use Rattle.nav.specs.PlaceTables.{Table, InTree, TagPost, ChildrenOf}
use Rattle.nav.proofs.Hops.{framed_few}
use Rattle.rules.specs.Finite.{uses, uses_in, recovers, recovers_in, functional_check}
use Rattle.decision.proofs.ChildWalks.{Lefts, walk_first, walk_tree, walk_next, walk_stop, walk_end}
use Rattle.functional.specs.Functional.{bit, BindersPost, OwnPost, goes_on, names, NamedPost, Both, FunctionalPost}
use Rattle.functional.proofs.Bits.{bit_or_lem, below_more, covered}

-- ---- what a tree names, and what trees in a row do
pub names_in : Bool → Forest → ℕ → Bool
names_in true ks i = uses_in ks i
names_in false ks i = recovers_in ks i

-- a maplet has no binders
maplet_recovers : (g : ℕ) (us : List Ty) (ks : Forest) (i : ℕ) (b : Bool) → eqb g 201 ≡ b
    → (b && recovers_in ks i) ≡ (b && recovers_in ks (i + length (binders_of (form_of g).layout us)))
unfolding lookup class_of form_at
maplet_recovers g us ks i true e =
    let z : g ≡ 201 = eqb-true g 201 e in
    let y : i + 0 ≡ i = omega arith in
    rw z (ap (recovers_in ks) (sym y))
maplet_recovers g us ks i false e = refl

names_node : (all : Bool) (g x : ℕ) (us : List Ty) (ks : Forest) (i : ℕ)
    → names all (node (head g x us) ks) i
    ≡ ((eqb g 3 && eqb x i) || (goes_on all g && names_in all ks (i + length (binders_of (form_of g).layout us))))
unfolding uses recovers names_in
names_node true g x us ks i = refl
names_node false g x us ks i = ap (λ (b : Bool). (eqb g 3 && eqb x i) || b) (maplet_recovers g us ks i (eqb g 201) refl)

names_cons : (all : Bool) (v : Tree) (ks : Forest) (i : ℕ) → names_in all (cons v ks) i ≡ (names all v i || names_in all ks i)
unfolding uses recovers names_in
names_cons true v ks i = refl
names_cons false v ks i = refl

names_nil : (all : Bool) (i : ℕ) → names_in all nil i ≡ false
unfolding uses recovers names_in
names_nil true i = refl
names_nil false i = refl

-- ---- over the children, by their places; they are behind the node's
module _ (s st nx : List ℕ) (k : ℕ) where
  abbrev pub Behind : List ℕ → Type 0
  Behind = Lefts s st nx k (λ ks c rest. k < c)

  pub children_first : (places : List ℕ) → ChildrenOf s st nx k places → Behind places
  children_first = walk_first s st nx k (λ ks c rest. k < c) (λ ks. omega arith)

  pub children_next : (places : List ℕ) → Behind places → (c : ℕ) (more : List ℕ) → places ≡ c ∷ more → Behind more
  children_next places ls c more e =
      walk_next s st nx k (λ ks c rest. k < c) places ls c more e (λ w. Unit {0}) (λ t n Γ v tb f. tt) (λ ks c rest. k < c) (λ ks w others r p. omega arith)

  pub children_below : (places : List ℕ) → Behind places → (c : ℕ) (more : List ℕ) → places ≡ c ∷ more → InTree s st nx k
      → InTree s st nx c × (k < c) × (c < 2048)
  children_below places ls c more e h = let f = find_some h.t [] k h.below in go f.0 f.1 f.2
    where
      go : (Γ : Ctx) (v : Tree) → find h.t [] k ≡ found Γ v → InTree s st nx c × (k < c) × (c < 2048)
      go Γ (node (head g x us) ks) f =
          let o = walk_tree s st nx k (λ ks c rest. k < c) places ls c more e h.t h.n Γ g x us ks h.table f in
          let b = walk_stop s st nx k (λ ks c rest. k < c) places ls c more e (λ w. Unit {0}) (λ t n Γ v tb f. tt) (λ ks. k < c)
          (λ ks w others r p. p) h.t h.n Γ g x us ks h.table f in
          (o, b, omega (arith, o.below, framed_few s o.t st o.n o.table.framed))

-- ---- what the mask has after some of them: with what the others name, it is what the node and its children name
module _ (gives : ℕ → Bool → Type 0) (s st nx : List ℕ) (k n own inner : ℕ) where
  abbrev With : Bool → ℕ → Forest → ℕ → Forest → Type 0
  With all mask ks c rest = (i : ℕ) → (bit mask i || (ltb i n && names_in all rest (i + inner))) ≡ (bit own i || (ltb i n && names_in all ks (i + inner)))

  abbrev pub Naming : ℕ → List ℕ → Type 0
  Naming mask places = (all : Bool) → ((g : ℕ) (e : Bool) → gives g e → e ≡ goes_on all g) → Lefts s st nx k (With all mask) places

  pub naming_first : (places : List ℕ) → ChildrenOf s st nx k places → Naming own places
  naming_first places pc all h = walk_first s st nx k (With all own) (λ ks i. refl) places pc

  joined : (m l x y : Bool) → ((m || (l && x)) || (l && y)) ≡ (m || (l && (x || y)))
  joined true l x y = refl
  joined false true x y = refl
  joined false false x y = refl

  pub naming_next : (mask : ℕ) (places : List ℕ) → Naming mask places → (c : ℕ) (more : List ℕ) → places ≡ c ∷ more
      → (below : ℕ) → NamedPost gives s st nx c inner n below → Naming (bit_or mask below) more
  naming_next mask places nm c more e below pn all h =
      walk_next s st nx k (With all mask) places (nm all h) c more e (λ w. (i : ℕ) → bit below i ≡ (ltb i n && names all w (i + inner)))
      (λ t N Γ v tb f. pn.bits all h t N Γ v tb f) (With all (bit_or mask below)) (λ ks w others r p i. step ks w others i (r i) (p i))
    where
      step : (ks : Forest) (w : Tree) (others : Forest) (i : ℕ) → bit below i ≡ (ltb i n && names all w (i + inner))
          → (bit mask i || (ltb i n && names_in all (cons w others) (i + inner))) ≡ (bit own i || (ltb i n && names_in all ks (i + inner)))
          → (bit (bit_or mask below) i || (ltb i n && names_in all others (i + inner))) ≡ (bit own i || (ltb i n && names_in all ks (i + inner)))
      step ks w others i r p =
          rw (bit_or_lem mask below i, r)
          (joined (bit mask i) (ltb i n) (names all w (i + inner)) (names_in all others (i + inner))
          ∙ ap (λ (b : Bool). bit mask i || (ltb i n && b)) (sym (names_cons all w others (i + inner)))
          ∙ p)

-- ---- the ways out of named_at
module _ (gives : ℕ → Bool → Type 0) (s st nx : List ℕ) (k d n own : ℕ) (po : OwnPost s st k d n own) (tag : ℕ) (pt : TagPost s st k tag) (e : Bool)
    (pe : gives tag e) where
  -- whether it goes on to the children
  told : (all : Bool) → ((g : ℕ) (e : Bool) → gives g e → e ≡ goes_on all g) → (t : Tree) (N : ℕ) (Γ : Ctx) (g x : ℕ) (us : List Ty) (ks : Forest)
      → Table s t st nx N → find t [] k ≡ found Γ (node (head g x us) ks) → goes_on all g ≡ e
  told all h t N Γ g x us ks tb f = let z : tag ≡ g = pt.tag t N Γ (node (head g x us) ks) tb.framed f in sym (h tag e pe ∙ ap (goes_on all) z)

  pub named_own : e ≡ false → NamedPost gives s st nx k d n own
  named_own z = record { bits = λ all h t N Γ v tb f. go all h t N Γ v tb f }
    where
      go : (all : Bool) → ((g : ℕ) (e : Bool) → gives g e → e ≡ goes_on all g) → (t : Tree) (N : ℕ) (Γ : Ctx) (v : Tree) → Table s t st nx N
          → find t [] k ≡ found Γ v → (i : ℕ) → bit own i ≡ (ltb i n && names all v (i + d))
      go all h t N Γ (node (head g x us) ks) tb f i =
          let y : goes_on all g ≡ false = told all h t N Γ g x us ks tb f ∙ z in
          rw (names_node all g x us ks (i + d), y) (po.own t N Γ g x us ks tb.framed f i ∙ ap (λ (b : Bool). ltb i n && b) (sym (or-false (eqb g 3 && eqb x (i + d)))))

  module _ (z : e ≡ true) (b : ℕ) (pb : BindersPost s st k b) (inner : ℕ) (ei : inner ≡ d + b) where
    shared : (l a c : Bool) → ((l && a) || (l && c)) ≡ (l && (a || c))
    shared true a c = refl
    shared false a c = refl

    last : (m l c : Bool) → c ≡ false → m ≡ (m || (l && c))
    last m true c e = rw e (sym (or-false m))
    last m false c e = sym (or-false m)

    pub naming_end : (mask : ℕ) (places : List ℕ) → Naming gives s st nx k n own inner mask places → places ≡ [] → NamedPost gives s st nx k d n mask
    naming_end mask places nm empty = record { bits = λ all h t N Γ v tb f. go all h t N Γ v tb f }
      where
        go : (all : Bool) → ((g : ℕ) (e : Bool) → gives g e → e ≡ goes_on all g) → (t : Tree) (N : ℕ) (Γ : Ctx) (v : Tree) → Table s t st nx N
            → find t [] k ≡ found Γ v → (i : ℕ) → bit mask i ≡ (ltb i n && names all v (i + d))
        go all h t N Γ (node (head g x us) ks) tb f i =
            let y : goes_on all g ≡ true = told all h t N Γ g x us ks tb f ∙ z in
            let r = walk_end s st nx k (With gives s st nx k n own inner all mask) places (nm all h) empty
            (λ ks. (i : ℕ) → bit mask i ≡ (bit own i || (ltb i n && names_in all ks (i + inner))))
            (λ ks c p i. last (bit mask i) (ltb i n) (names_in all nil (i + inner)) (names_nil all (i + inner)) ∙ p i) t N Γ g x us ks tb f in
            let o = po.own t N Γ g x us ks tb.framed f i in
            let m : i + inner ≡ i + d + length (binders_of (form_of g).layout us) = omega (arith, pb.binders t N Γ g x us ks tb.framed f, ei) in
            rw (names_node all g x us ks (i + d), y) (r i ∙ rw (o, m) (shared (ltb i n) (eqb g 3 && eqb x (i + d)) (names_in all ks (i + d + length (binders_of (form_of g).layout us)))))

-- ---- the two masks
check_below : (v w : Tree) (n : ℕ) → functional_check v w n ≡ all_below n (λ i. not (uses w i) || recovers v i)
unfolding functional_check
check_below v w zero = refl
check_below v w (suc n) = ap (λ (b : Bool). (not (uses w n) || recovers v n) && b) (check_below v w n)

-- the two masks say what the check says
module _ (n u v : ℕ) (f h : ℕ → Bool) (used : (i : ℕ) → bit u i ≡ (ltb i n && f (i + 0)))
    (back : (i : ℕ) → bit v i ≡ (ltb i n && h (i + 0))) where
  at_zero : (i : ℕ) → i + 0 ≡ i
  at_zero i = omega arith

  same_there : (i : ℕ) → i < n → (not (bit u i) || bit v i) ≡ (not (f i) || h i)
  same_there i l = rw (used i, back i, lt-ltb i n l, at_zero i) refl

  more_there : (i : ℕ) → n ≤ i → (not (bit u i) || bit v i) ≡ true
  more_there i l = rw (used i, le-ltb i n l) refl

  masks_say : n ≤ 32 → u < 4294967296 → v < 4294967296 → eqb (bit_and u (4294967295 - v)) 0 ≡ all_below n (λ i. not (f i) || h i)
  masks_say few hu hv = covered 32 u v hu hv ∙ below_more _ _ n same_there more_there 32 few

module _ (s st nx : List ℕ) (left right : ℕ) where
  pub right_tree : Both s st nx left right → InTree s st nx right
  right_tree h = record { t = h.t; n = h.N; table = h.table; below = find_lt h.t [] right h.Γ h.w h.at_right }

  pub left_tree : Both s st nx left right → InTree s st nx left
  left_tree h = record { t = h.t; n = h.N; table = h.table; below = find_lt h.t [] left h.Γ h.v h.at_left }

  module _ (gives told : ℕ → Bool → Type 0) (all : (g : ℕ) (e : Bool) → gives g e → e ≡ goes_on true g)
      (some : (g : ℕ) (e : Bool) → told g e → e ≡ goes_on false g) (n u v : ℕ)
      (pu : NamedPost gives s st nx right 0 n u) (pv : NamedPost told s st nx left 0 n v) where
    pub check_done : n ≤ 32 → u < 4294967296 → v < 4294967296 → FunctionalPost s st nx left right n (eqb (bit_and u (4294967295 - v)) 0)
    check_done few hu hv = record {
      says = λ t N Γ a b tb fa fb.
          masks_say n u v (uses b) (recovers a) (pu.bits true all t N Γ b tb fb) (pv.bits false some t N Γ a tb fa) few hu hv ∙ sym (check_below a b n);
    }
