-- The ways out of is_binder, binders_at and own_at of src/lib.rt: what one node says.
-- Main results: room_binders, room_own; binders_none, binders_some; own_other, own_inner, own_outer, own_bit.
use mathlib.Core.Path.{◌≡◌, refl, sym, ap, ◌∙◌, subst}
use mathlib.Core.Bool.{Bool, true, false, ◌&&◌, and-false}
use mathlib.Core.List.{List, []}
use Prim.Native.Nat.{ℕ, ◌+◌, ◌-◌, ◌*◌, ◌%◌, ◌^◌, ◌≤◌, ◌<◌}
use native.Mathlib.Omega.{arith}
use lib.ListN.{length, get_or}
use lib.Dec.{eqb, ltb, leb}
use lib.Pow.{shl_exact}
use borrow.Author.Tests.{eqb-true, eqb-false, eq-eqb, ne_eqb, ltb-true, ltb-false, lt-ltb, le-ltb, leb-true}
use Rattle.frame.specs.Types.{Ty}
use Rattle.frame.specs.Trees.{head, Tree, node, Forest, count}
use Rattle.frame.specs.Tags.{Layout, these, payload, counted, binding, Form, lookup, class_of, form_at, form_of, width, in_range, number_of, binders_of}
use Rattle.tags.specs.TagCodes.{meant}
use Rattle.tags.specs.declared.forms.Form.TheVariants.{Unlisted}
use Rattle.frame.specs.Reading.{number_at}
use Rattle.frame.specs.WellFormed.{number_in}
use Rattle.frame.specs.Places.{Ctx, found, find}
use Rattle.frame.proofs.Booleans.{both_true}
use Rattle.frame.proofs.Inversion.{true_not}
use Rattle.frame.proofs.Splices.{find_some}
use Rattle.frame.proofs.Tables.{all_below, below, same_bool, flag}
use Rattle.tags.proofs.TagTables.{form_code_lem, beyond}
use Rattle.nav.specs.PlaceTables.{Framed, Placed, TagPost}
use Rattle.nav.proofs.Hops.{place_sorted, place_stands}
use Rattle.nav.proofs.PlaceTurns.{Numbers, numbers}
use Rattle.functional.specs.Functional.{bit, is_binder, BindersPost, OwnPost}
use Rattle.functional.proofs.Bits.{bit_none, bit_one}

-- ---- the tags with binders
pub has_binders : Layout → Bool
has_binders (these es) = false
has_binders (payload w) = false
has_binders (counted lo hi e) = false
has_binders (binding lo hi es) = true

-- "binder count 1 to 32"
few : Layout → Bool
few (these es) = true
few (payload w) = true
few (counted lo hi e) = true
few (binding lo hi es) = leb hi 32

-- every tag below 950, by one evaluation each
kinds_below : all_below 950 (λ g. same_bool (has_binders (form_of g).layout) (is_binder g)) ≡ true
unfolding lookup class_of form_at has_binders
kinds_below = refl

few_below : all_below 950 (λ g. few (form_of g).layout) ≡ true
unfolding lookup class_of form_at few
few_below = refl

past : (g : ℕ) → 950 ≤ g → form_of g ≡ meant Unlisted
past g h = sym (form_code_lem (class_of g)) ∙ ap meant (beyond g (omega arith))

kind_past : (g : ℕ) → 950 ≤ g → has_binders (form_of g).layout ≡ is_binder g
unfolding has_binders
kind_past g h =
    ap (λ (f : Form). has_binders f.layout) (past g h)
    ∙ sym (simp (
      ne_eqb g 801 (λ e. omega arith),
      ne_eqb g 802 (λ e. omega arith),
      ne_eqb g 803 (λ e. omega arith),
      ne_eqb g 851
          (λ e. omega arith),
      ne_eqb g 852 (λ e. omega arith),
    ))

pub binder_kind : (g : ℕ) → has_binders (form_of g).layout ≡ is_binder g
binder_kind g = go (ltb g 950) refl
  where
    go : (b : Bool) → ltb g 950 ≡ b → has_binders (form_of g).layout ≡ is_binder g
    go true e = flag (λ g. has_binders (form_of g).layout) is_binder 950 kinds_below g (ltb-true g 950 e)
    go false e = kind_past g (ltb-false g 950 e)

few_binders : (g : ℕ) → few (form_of g).layout ≡ true
unfolding few
few_binders g = go (ltb g 950) refl
  where
    go : (b : Bool) → ltb g 950 ≡ b → few (form_of g).layout ≡ true
    go true e = below 950 (λ g. few (form_of g).layout) few_below g (ltb-true g 950 e)
    go false e = ap (λ (f : Form). few f.layout) (past g (ltb-false g 950 e))

-- a layout with few binders: its number says how many
record Binding (l : Layout) : Type 0 where
  wide : width l ≡ 1
  number : (n m k : ℕ) → number_of l n m k ≡ m
  all : (us : List Ty) → binders_of l us ≡ us
  range : (x : ℕ) → in_range l x ≡ true → x ≤ 32

is_binding : (l : Layout) → has_binders l ≡ true → few l ≡ true → Binding l
unfolding has_binders few
is_binding (these es) h w = true_not h
is_binding (payload n) h w = true_not h
is_binding (counted lo hi e) h w = true_not h
is_binding (binding lo hi es) h w =
    record {
      wide = refl;
      number = λ n m k. refl;
      all = λ us. refl;
      range = λ x e. omega (arith, leb-true hi 32 w, leb-true x hi (both_true (leb lo x) (leb x hi) e).1);
    }

no_binding : (l : Layout) (us : List Ty) → has_binders l ≡ false → binders_of l us ≡ []
unfolding has_binders
no_binding (these es) us h = refl
no_binding (payload w) us h = refl
no_binding (counted lo hi e) us h = refl
no_binding (binding lo hi es) us h = true_not (sym h)

-- ---- the number of a node
module _ (s st : List ℕ) (k : ℕ) where
  -- some node is at a place
  record Somewhere : Type 0 where
    t : Tree
    N : ℕ
    Γ : Ctx
    g : ℕ
    x : ℕ
    us : List Ty
    ks : Forest
    framed : Framed s t st N
    there : find t [] k ≡ found Γ (node (head g x us) ks)

  somewhere : Placed s st k → Somewhere
  somewhere p = let f = find_some p.t [] k p.below in go f.0 f.1 f.2
    where
      go : (Γ : Ctx) (v : Tree) → find p.t [] k ≡ found Γ v → Somewhere
      go Γ (node (head g x us) ks) f = record { t = p.t; N = p.n; Γ = Γ; g = g; x = x; us = us; ks = ks; framed = p.framed; there = f }

  module _ (t : Tree) (N : ℕ) (Γ : Ctx) (g x : ℕ) (us : List Ty) (ks : Forest) (fr : Framed s t st N)
      (f : find t [] k ≡ found Γ (node (head g x us) ks)) where
    numbers_at : Numbers s (get_or st k 0) g x us (count ks)
    numbers_at =
        let o = place_sorted s t st N fr k Γ (node (head g x us) ks) f in
        numbers s (get_or st k 0) o.0 g x us ks (place_stands s t st N fr k Γ (node (head g x us) ks) f o.0 o.1)

    range_at : in_range (form_of g).layout (number_in g x us (count ks)) ≡ true
    range_at = (place_sorted s t st N fr k Γ (node (head g x us) ks) f).1.0.range

  module _ (tag : ℕ) (pt : TagPost s st k tag) (at : ℕ) (ea : at ≡ get_or st k 0) where
    -- its number is one byte, where the tag says so
    room : width (form_of tag).layout ≡ 1 → Placed s st k → at + 2 + 1 ≤ length s
    room w p =
        let h = somewhere p in
        let z : tag ≡ h.g = pt.tag h.t h.N h.Γ (node (head h.g h.x h.us) h.ks) h.framed h.there in
        let y : width (form_of h.g).layout ≡ 1 = subst (λ (i : ℕ). width (form_of i).layout ≡ 1) z w in
        omega (arith, (numbers_at h.t h.N h.Γ h.g h.x h.us h.ks h.framed h.there).within, ea, y)

    read : (t : Tree) (N : ℕ) (Γ : Ctx) (g x : ℕ) (us : List Ty) (ks : Forest) → Framed s t st N → find t [] k ≡ found Γ (node (head g x us) ks)
        → width (form_of g).layout ≡ 1 → (r : ℕ) → r ≡ number_at 1 s (at + 2) → r ≡ number_in g x us (count ks)
    read t N Γ g x us ks fr f w r er =
        er ∙ sym (ap (λ (i : ℕ). number_at i s (at + 2)) w) ∙ ap (λ (i : ℕ). number_at (width (form_of g).layout) s (i + 2)) ea
        ∙ (numbers_at t N Γ g x us ks fr f).number

  -- ---- binders
  module _ (tag : ℕ) (pt : TagPost s st k tag) where
    pub binders_none : is_binder tag ≡ false → BindersPost s st k 0 × (0 ≤ 32)
    binders_none e = (record { binders = λ t N Γ g x us ks fr f. go t N Γ g x us ks fr f }, omega arith)
      where
        go : (t : Tree) (N : ℕ) (Γ : Ctx) (g x : ℕ) (us : List Ty) (ks : Forest) → Framed s t st N → find t [] k ≡ found Γ (node (head g x us) ks)
            → 0 ≡ length (binders_of (form_of g).layout us)
        go t N Γ g x us ks fr f =
            let z : tag ≡ g = pt.tag t N Γ (node (head g x us) ks) fr f in
            rw (no_binding (form_of g).layout us (binder_kind g ∙ (sym (ap is_binder z) ∙ e)))

    module _ (e : is_binder tag ≡ true) (at : ℕ) (ea : at ≡ get_or st k 0) where
      binding_of : (g : ℕ) → tag ≡ g → Binding (form_of g).layout
      binding_of g z = is_binding (form_of g).layout (binder_kind g ∙ (sym (ap is_binder z) ∙ e)) (few_binders g)

      pub room_binders : Placed s st k → at + 2 + 1 ≤ length s
      room_binders p = room tag pt at ea (binding_of tag refl).wide p

      pub binders_some : Placed s st k → (r : ℕ) → r ≡ number_at 1 s (at + 2) → BindersPost s st k r × (r ≤ 32)
      binders_some p r er = (record { binders = λ t N Γ g x us ks fr f. (go t N Γ g x us ks fr f).0 }, few)
        where
          go : (t : Tree) (N : ℕ) (Γ : Ctx) (g x : ℕ) (us : List Ty) (ks : Forest) → Framed s t st N → find t [] k ≡ found Γ (node (head g x us) ks)
              → (r ≡ length (binders_of (form_of g).layout us)) × (r ≤ 32)
          go t N Γ g x us ks fr f =
              let z : tag ≡ g = pt.tag t N Γ (node (head g x us) ks) fr f in
              let b = binding_of g z in
              let y = read tag pt at ea t N Γ g x us ks fr f b.wide r er in (
                y ∙ b.number x (length us) (count ks) ∙ sym (ap (λ (l : List Ty). length l) (b.all us)),
                omega (arith, y, b.range (number_in g x us (count ks)) (range_at t N Γ g x us ks fr f)),
              )

          few : r ≤ 32
          few = let h = somewhere p in (go h.t h.N h.Γ h.g h.x h.us h.ks h.framed h.there).1

  -- ---- an index
  module _ (d n tag : ℕ) (pt : TagPost s st k tag) where
    pub own_other : (tag ≡ 3 → ⊥) → OwnPost s st k d n 0
    own_other h = record {
      own = λ t N Γ g x us ks fr f i.
          let z = ne_eqb g 3 (λ e. h (pt.tag t N Γ (node (head g x us) ks) fr f ∙ e)) in
          rw z (bit_none i ∙ sym (and-false (ltb i n)));
    }

    module _ (key : tag ≡ 3) (at : ℕ) (ea : at ≡ get_or st k 0) where
      pub room_own : Placed s st k → at + 2 + 1 ≤ length s
      unfolding lookup class_of form_at
      room_own p = room tag pt at ea (rw key refl) p

      module _ (x : ℕ) (ex : x ≡ number_at 1 s (at + 2)) where
        index : (t : Tree) (N : ℕ) (Γ : Ctx) (g y : ℕ) (us : List Ty) (ks : Forest) → Framed s t st N → find t [] k ≡ found Γ (node (head g y us) ks)
            → (g ≡ 3) × (x ≡ y)
        unfolding lookup class_of form_at
        index t N Γ g y us ks fr f =
            let z : g ≡ 3 = sym (pt.tag t N Γ (node (head g y us) ks) fr f) ∙ key in
            let w : width (form_of g).layout ≡ 1 = rw z refl in
            let i : number_in g y us (count ks) ≡ y = rw z refl in
            (z, read tag pt at ea t N Γ g y us ks fr f w x ex ∙ i)

        -- a mask of which this is known
        own_of : (r : ℕ) → ((i : ℕ) → bit r i ≡ (ltb i n && eqb x (i + d))) → OwnPost s st k d n r
        own_of r h = record {
          own = λ t N Γ g y us ks fr f i.
              let o = index t N Γ g y us ks fr f in
              rw (o.0, ← o.1) (h i);
        }

        pub own_inner : x < d → OwnPost s st k d n 0
        own_inner l = own_of 0 (λ i. rw (ne_eqb x (i + d) (λ e. omega arith)) (bit_none i ∙ sym (and-false (ltb i n))))

        module _ (l : d ≤ x) where
          pub own_outer : n ≤ x - d → OwnPost s st k d n 0
          own_outer m = own_of 0 (λ i. bit_none i ∙ go i (eqb x (i + d)) refl)
            where
              go : (i : ℕ) (b : Bool) → eqb x (i + d) ≡ b → false ≡ (ltb i n && b)
              go i true e = let z = eqb-true x (i + d) e in rw (le-ltb i n (omega arith))
              go i false e = sym (and-false (ltb i n))

          pub own_bit : n ≤ 32 → x - d < n → OwnPost s st k d n ((1 * 2 ^ (x - d)) % 4294967296)
          own_bit few m =
              let z : (1 * 2 ^ (x - d)) % 4294967296 ≡ 1 * 2 ^ (x - d) = shl_exact 1 (x - d) 32 (omega arith) (omega arith) in
              let y : 1 * 2 ^ (x - d) ≡ 2 ^ (x - d) = omega arith in
              own_of _ (λ i. rw (z ∙ y) (bit_one (x - d) i ∙ go i (eqb i (x - d)) refl))
            where
              go : (i : ℕ) (b : Bool) → eqb i (x - d) ≡ b → b ≡ (ltb i n && eqb x (i + d))
              go i true e = let z = eqb-true i (x - d) e in rw (lt-ltb i n (omega arith), eq-eqb x (i + d) (omega arith)) refl
              go i false e = let z = eqb-false i (x - d) e in rw (ne_eqb x (i + d) (λ q. z (omega arith))) (sym (and-false (ltb i n)))
