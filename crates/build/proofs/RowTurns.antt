-- The ways out of the functions of src/rows.rt.
-- Main results: copied; the shares (besides_share .. subtrahend_none); row_tree, row_child, row_first .. row_place; minus_done; kept_first ..
-- kept_end.
use mathlib.Core.Path.{◌≡◌, refl, sym, ap, ◌∙◌}
use mathlib.Core.Bool.{Bool, true, false, not}
use mathlib.Core.List.{List, [], ◌∷◌, append-nil}
use Prim.Native.Nat.{ℕ, zero, suc, ◌+◌, ◌≤◌, ◌<◌}
use native.Mathlib.Omega.{arith}
use lib.ListN.{length, get_or, drop, drop_of_length-le}
use lib.Dec.{eqb}
use borrow.Author.Tests.{eq-eqb, ne_eqb, eqb-true}
use Rattle.std.proofs.Common.{Option, Some, None, slice_index_or}
use Rattle.std.specs.Bool.{then_some}
use Rattle.std.specs.Int.{from_bool}
use Rattle.frame.specs.Trees.{head, Tree, node, Forest, nil, cons, count, nodes, tag_of}
use Rattle.frame.specs.Tags.{pick, predicate, expression, lookup, class_of, form_at}
use Rattle.frame.specs.Encoding.{enc, encs}
use Rattle.frame.specs.Places.{Ctx, under, found, find}
use Rattle.frame.proofs.Frames.{enc_injective}
use Rattle.frame.proofs.Splices.{find_some, find_lt}
use Rattle.nav.specs.declared.Places.{Places}
use Rattle.nav.specs.PlaceTables.{Table}
use Rattle.nav.specs.AtPlaces.{PlacesOf, AtPlace, InTables, TreeAt, TagAt, ChildrenAt, CountedAt}
use Rattle.nav.proofs.Hops.{place_sorted, framed_few, place_end}
use Rattle.nav.proofs.CountTurns.{counted_children}
use Rattle.nav.proofs.SamePlaces.{two_children}
use Rattle.rules.specs.EqualsEmptySet.{minus_of, minuend, with_subtrahend, subtrahends}
use Rattle.put.specs.Out.{Puts, behind}
use Rattle.put.proofs.Puts.{puts_nil, puts_then, puts_as}
use Rattle.decision.specs.Decision.{At, places_of}
use Rattle.decision.specs.declared.kept.KeptChild.{KeptChild}
use Rattle.decision.proofs.Shapes.{Double, double}
use Rattle.decision.proofs.ChildWalks.{Lefts, walk_first, walk_next, walk_end, walk_tree}
use Rattle.filling.specs.Operands.{SubtreePost}
use Rattle.build.specs.Rows.{CopyPost, row_of, minuend_bytes, subtrahend_bytes, BytesAt, ShareAt, Shares, Sharing, RowPre, RowPost, MinusRowPost, KeptPre, KeptPost}

-- ---- places of one frame
module _ (pl : Places) where
  pub copied : (k : ℕ) (r : List ℕ) → SubtreePost pl k r → (o q : Option (List ℕ)) → Puts o q r → CopyPost pl k o q
  copied k r h o q z = record { puts = λ t Γ v tb f. puts_as o q _ _ (h.is t Γ v tb f) z }

  pub in_placed : (k : ℕ) → InTables pl k → AtPlace pl k
  in_placed k p = record { t = p.t; n = pl.count; framed = p.table.framed; below = p.below }

  pub in_few : (k : ℕ) → InTables pl k → k < 2048
  in_few k p = omega (arith, p.below, framed_few pl.bytes.now p.t pl.starts.now pl.count p.table.framed)

  -- its bytes say how many places it has
  pub same_count : (t u : Tree) (n : ℕ) → PlacesOf pl t → Table pl.bytes.now u pl.starts.now pl.nexts.now n → n ≡ pl.count
  same_count t u n a b =
      let e : t ≡ u = enc_injective t u predicate a.framed.formed b.framed.formed (sym a.framed.bytes ∙ b.framed.bytes) in
      b.framed.size ∙ ap nodes (sym e) ∙ sym a.framed.size

  -- what stands where the closure says
  pub row_place : (gives : ℕ → Option ℕ → Type 0) → Sharing gives pl → (c : ℕ) → InTables pl c → (j : ℕ) → gives c (Some j) → InTables pl j
  row_place gives s c p j g =
      let v = find_some p.t [] c p.below in
      let x = (s.1 c (Some j) g).bytes p.t v.0 v.1 p.table v.2 in
      record { t = p.t; table = p.table; below = find_lt p.t [] j x.0 x.1 x.2 }

-- ---- shares
-- a difference has two operands
minus_double : (v : Tree) → Rattle.nav.proofs.Hops.Sorted v → tag_of v ≡ 213 → Double 213 v
unfolding lookup class_of form_at
minus_double v o z = double 213 expression expression (λ x. refl) v o z

not_minus : (v : Tree) → (tag_of v ≡ 213 → ⊥) → (minuend (minus_of v) ≡ v) × ((ks : Forest) → with_subtrahend (minus_of v) ks ≡ ks)
not_minus (node (head g n us) ks) d = let z = ne_eqb g 213 d in (rw z refl, λ ls. rw z refl)

-- the bytes of a child that is not at place k
abbrev pub besides : ℕ → ℕ → Tree → List ℕ
besides k c w = pick (eqb c k) [] (enc w)

pub besides_share : (pl : Places) (k c : ℕ) (o : Option ℕ) → o ≡ then_some (not (eqb c k)) c → ShareAt (besides k) pl c o
besides_share pl k c o e = record { bytes = λ t Γ w tb f. go t Γ w f (eqb c k) o e }
  where
    go : (t : Tree) (Γ : Ctx) (w : Tree) → find t [] c ≡ found Γ w → (b : Bool) (o : Option ℕ) → o ≡ then_some (not b) c → BytesAt t o (pick b [] (enc w))
    go t Γ w f true o e = rw e refl
    go t Γ w f false o e = rw e (Γ, w, f, refl)

module _ (pl : Places) (c tag : ℕ) (pt : TagAt pl c tag) where
  -- the operands of a difference, and their places
  parts : tag ≡ 213 → (t : Tree) (Γ : Ctx) (w : Tree) → PlacesOf pl t → find t [] c ≡ found Γ w
      → (d : Double 213 w) × ((find t [] (c + 1) ≡ found (under 213 d.us Γ) d.a)
      × (find t [] (get_or pl.nexts.now (c + 1) 0) ≡ found (under 213 d.us Γ) d.b))
  parts key t Γ w tb f =
      let d = minus_double w (place_sorted pl.bytes.now t pl.starts.now pl.count tb.framed c Γ w f) (sym (pt.tag t pl.count Γ w tb.framed f) ∙ key) in
      (d, two_children t pl.nexts.now tb.follows c Γ 213 d.n d.us d.a d.b (f ∙ ap (found Γ) d.is))

  pub minuend_left : tag ≡ 213 → ShareAt minuend_bytes pl c (Some (c + 1))
  minuend_left key = record {
    bytes = λ t Γ w tb f.
        (let d = parts key t Γ w tb f in
        (_, d.0.a, d.1.0, ap (λ (u : Tree). enc (minuend (minus_of u))) d.0.is));
  }

  pub minuend_whole : (tag ≡ 213 → ⊥) → ShareAt minuend_bytes pl c (Some c)
  minuend_whole h = record {
    bytes = λ t Γ w tb f. (Γ, w, f, ap enc (not_minus w (λ z. h (pt.tag t pl.count Γ w tb.framed f ∙ z))).0);
  }

  pub subtrahend_right : tag ≡ 213 → (b : ℕ) → b ≡ get_or pl.nexts.now (c + 1) 0 → ShareAt subtrahend_bytes pl c (Some b)
  unfolding enc
  subtrahend_right key b eb = record {
    bytes = λ t Γ w tb f.
        (let d = parts key t Γ w tb f in (
          _,
          d.0.b,
          ap (find t []) eb ∙ d.1.1,
          ap (λ (u : Tree). encs (with_subtrahend (minus_of u) nil)) d.0.is ∙ append-nil (enc d.0.b),
        ));
  }

  pub subtrahend_none : (tag ≡ 213 → ⊥) → ShareAt subtrahend_bytes pl c None
  unfolding enc
  subtrahend_none h = record {
    bytes = λ t Γ w tb f. ap encs ((not_minus w (λ z. h (pt.tag t pl.count Γ w tb.framed f ∙ z))).1 nil);
  }

-- a child counts as one where its tag is that of a difference
module _ (pl : Places) (c tag : ℕ) (pt : TagAt pl c tag) (t : Tree) (Γ : Ctx) (v : Tree) (tb : PlacesOf pl t) (f : find t [] c ≡ found Γ v) where
  minus_one : (b : Bool) → b ≡ eqb tag 213 → (ls : Forest) → count (with_subtrahend (minus_of v) ls) ≡ from_bool b + count ls
  minus_one true e ls =
      let key : tag ≡ 213 = eqb-true tag 213 (sym e) in
      let d = minus_double v (place_sorted pl.bytes.now t pl.starts.now pl.count tb.framed c Γ v f) (sym (pt.tag t pl.count Γ v tb.framed f) ∙ key) in
      let y : count (with_subtrahend (minus_of v) ls) ≡ count (cons d.b ls) = ap (λ (u : Tree). count (with_subtrahend (minus_of u) ls)) d.is in
      omega arith
  minus_one false e ls =
      let y = ap count ((not_minus v (λ i. other (pt.tag t pl.count Γ v tb.framed f ∙ i))).1 ls) in
      omega arith
    where
      other : tag ≡ 213 → ⊥
      other i = let h : ◌≡◌ {A = Bool} true false = sym (eq-eqb tag 213 i) ∙ sym e in cc

-- ---- the children of the node at place k
-- what has been written, from o₀ to o, is the row of ks but for that of the others
abbrev pub Rowing : (ℕ → Tree → List ℕ) → ℕ → Option (List ℕ) → Option (List ℕ) → Forest → ℕ → Forest → Type 0
Rowing f k o₀ o ks c rest = behind o (row_of f c rest) ≡ behind o₀ (row_of f (k + 1) ks)

module _ (pl : Places) (k : ℕ) where
  pub row_tree : RowPre pl k → TreeAt pl k
  row_tree p = record { t = p.t; n = pl.count; table = p.table; below = find_lt p.t [] k _ _ p.there }

  -- a place that is one of the children's is a place of the frame
  module _ (P : Forest → ℕ → Forest → Type 0) (places : List ℕ) (ls : Lefts pl.bytes.now pl.starts.now pl.nexts.now k P places) (c : ℕ) (more : List ℕ)
      (e : places ≡ c ∷ more) where
    pub row_child : RowPre pl k → InTables pl c
    row_child p =
        let i = walk_tree pl.bytes.now pl.starts.now pl.nexts.now k P places ls c more e p.t pl.count p.Γ p.g p.x p.us p.ks p.table p.there in
        let z = same_count pl p.t i.t i.n p.table i.table in
        record { t = i.t; table = rw z at i.table; below = i.below }

    -- R is what is known of the child there
    pub row_walk : RowPre pl k → (R : Tree → Type 0) → ((t : Tree) (Γ : Ctx) (v : Tree) → PlacesOf pl t → find t [] c ≡ found Γ v → R v)
        → (Q : Forest → ℕ → Forest → Type 0) → ((ks : Forest) (w : Tree) (others : Forest) → R w → P ks c (cons w others) → Q ks (c + nodes w) others)
        → Lefts pl.bytes.now pl.starts.now pl.nexts.now k Q more
    row_walk p R known Q step =
        walk_next pl.bytes.now pl.starts.now pl.nexts.now k P places ls c more e R
        (λ t n Γ v tb f. let z = same_count pl p.t t n p.table tb in known t Γ v (rw z at tb) f) Q step

  -- ---- put_row
  -- the same of whichever bytes the closure's answers have, which are as `gives` says
  module _ (gives : ℕ → Option ℕ → Type 0) (o₀ : Option (List ℕ)) where
    abbrev pub Rows : Option (List ℕ) → List ℕ → Type 0
    Rows o places = (f : ℕ → Tree → List ℕ) → Shares gives pl f → Lefts pl.bytes.now pl.starts.now pl.nexts.now k (Rowing f k o₀ o) places

    pub row_first : (places : List ℕ) → ChildrenAt pl k places → Rows o₀ places
    row_first places post f h = walk_first pl.bytes.now pl.starts.now pl.nexts.now k (Rowing f k o₀ o₀) (λ ks. refl) places post

    module _ (o : Option (List ℕ)) (places : List ℕ) (ls : Rows o places) where
      module _ (p : RowPre pl k) (c : ℕ) (more : List ℕ) (e : places ≡ c ∷ more) where
        row_next : (q : Option (List ℕ))
            → ((f : ℕ → Tree → List ℕ) → Shares gives pl f → (t : Tree) (Γ : Ctx) (w : Tree) → PlacesOf pl t → find t [] c ≡ found Γ w → Puts o q (f c w))
            → Rows q more
        unfolding row_of
        row_next q put f h =
            row_walk (Rowing f k o₀ o) places (ls f h) c more e p (λ w. Puts o q (f c w)) (λ t Γ w tb at. put f h t Γ w tb at) (Rowing f k o₀ q)
            (λ ks w others r x. puts_then o q (behind q (row_of f (c + nodes w) others)) (f c w) (row_of f (c + nodes w) others) r refl ∙ x)

        pub row_passed : gives c None → Rows o more
        row_passed g = row_next o (λ f h t Γ w tb at. puts_as o o _ _ (sym ((h c None g).bytes t Γ w tb at)) (puts_nil o))

        pub row_taken : (j : ℕ) → gives c (Some j) → (q : Option (List ℕ)) → CopyPost pl j o q → Rows q more
        row_taken j g q post = row_next q (λ f h t Γ w tb at.
            (let x = (h c (Some j) g).bytes t Γ w tb at in puts_as o q _ _ (sym x.3) (post.puts t x.0 x.1 tb x.2)))

      pub row_end : places ≡ [] → RowPost gives pl k o₀ o
      unfolding row_of
      row_end e = record {
        puts = λ f h t Γ g i us ks tb at.
            walk_end pl.bytes.now pl.starts.now pl.nexts.now k (Rowing f k o₀ o) places (ls f h) e (λ ks. Puts o₀ o (row_of f (k + 1) ks))
            (λ ks c z. puts_nil o ∙ z) t pl.count Γ g i us ks tb at;
      }

  -- ---- count_minus
  pub minus_done : (gives : ℕ → Bool → Type 0) → ((c : ℕ) (b : Bool) → gives c b → (tag : ℕ) × TagAt pl c tag × (b ≡ eqb tag 213)) → (m : ℕ)
      → CountedAt gives pl k m → MinusRowPost pl k m
  unfolding subtrahends
  minus_done gives known m h = record {
    counts = λ t Γ g i us ks tb f.
        counted_children gives t (λ ls. count (subtrahends ls)) refl
        (λ c Θ w fw b a ls. (let z = known c b a in minus_one pl c z.0 z.1 t Θ w tb fw b z.2 (subtrahends ls)))
        pl pl.count tb k Γ g i us ks f m h;
  }

-- ---- put_kept
drop_next : (items : List KeptChild) (i : ℕ) → i < length items → drop i items ≡ slice_index_or items i (record { place = 0; key = 0 }) ∷ drop (i + 1) items
drop_next [] i h = absurd (omega arith)
drop_next (x ∷ xs) zero h = refl
drop_next (x ∷ xs) (suc i) h = let z : suc i + 1 ≡ suc (i + 1) = omega arith in rw z (drop_next xs i (omega arith))

-- what has been written, from o₀ to o, are the trees of the list, but for those of its rest
module _ (pl : Places) (kept : List KeptChild) (o₀ : Option (List ℕ)) where
  pub record KeptLeft (t : Tree) (Γ : Ctx) (ks : Forest) (left : List KeptChild) (o : Option (List ℕ)) : Type 0 where
    pub rest : Forest
    pub listed : At t Γ (places_of left) rest
    pub keeps : behind o (encs rest) ≡ behind o₀ (encs ks)

  abbrev pub KeptLefts : List KeptChild → Option (List ℕ) → Type 0
  KeptLefts left o = (t : Tree) (Γ : Ctx) (ks : Forest) → PlacesOf pl t → At t Γ (places_of kept) ks → KeptLeft t Γ ks left o

  pub kept_first : KeptLefts kept o₀
  kept_first t Γ ks tb l = record { rest = ks; listed = l; keeps = refl }

  -- the same of a list that is lent as a slice, by how many of its items are behind
  pub kept_all : (items : List KeptChild) → items ≡ kept → KeptLefts (drop 0 items) o₀
  kept_all items e = let z : drop 0 items ≡ kept = e in rw z kept_first

  pub kept_step : (items : List KeptChild) (i : ℕ) (o : Option (List ℕ)) → i < length items → KeptLefts (drop i items) o
      → KeptLefts (slice_index_or items i (record { place = 0; key = 0 }) ∷ drop (i + 1) items) o
  kept_step items i o h ls = let z : drop i items ≡ slice_index_or items i (record { place = 0; key = 0 }) ∷ drop (i + 1) items = drop_next items i h in rw z at ls

  pub kept_rest : (items : List KeptChild) (i : ℕ) (o : Option (List ℕ)) → length items ≤ i → KeptLefts (drop i items) o → KeptLefts [] o
  kept_rest items i o h ls = let z : drop i items ≡ [] = drop_of_length-le items h in rw z at ls

  split_kept : (t : Tree) (Γ : Ctx) (p : ℕ) (ps : List ℕ) (ks : Forest) → At t Γ (p ∷ ps) ks
      → (w : Tree) × ((ls : Forest) × ((ks ≡ cons w ls) × ((find t [] p ≡ found Γ w) × At t Γ ps ls)))
  unfolding At
  split_kept t Γ p ps nil l = absurd l
  split_kept t Γ p ps (cons w ls) l = (w, (ls, (refl, l)))

  no_more : (t : Tree) (Γ : Ctx) (ks : Forest) → At t Γ [] ks → ks ≡ nil
  unfolding At
  no_more t Γ nil l = refl
  no_more t Γ (cons w ks) l = absurd l

  module _ (child : KeptChild) (left : List KeptChild) (o : Option (List ℕ)) (h : KeptLefts (child ∷ left) o) where
    pub kept_child : KeptPre pl kept → InTables pl child.place
    kept_child p =
        let r = h p.t p.Γ p.ks p.table p.listed in
        let x = split_kept p.t p.Γ child.place (places_of left) r.rest r.listed in
        record { t = p.t; table = p.table; below = find_lt p.t [] child.place p.Γ x.0 x.1.1.1.0 }

    pub kept_next : (q : Option (List ℕ)) → CopyPost pl child.place o q → KeptLefts left q
    unfolding enc
    kept_next q post t Γ ks tb l =
        let r = h t Γ ks tb l in
        let x = split_kept t Γ child.place (places_of left) r.rest r.listed in
        let w = x.0 in
        let ls = x.1.0 in
        record {
          rest = ls;
          listed = x.1.1.1.1;
          keeps = puts_then o q (behind q (encs ls)) (enc w) (encs ls) (post.puts t Γ w tb x.1.1.1.0) refl
              ∙ ap (λ (z : Forest). behind o (encs z)) (sym x.1.1.0) ∙ r.keeps;
        }

  pub kept_end : (o : Option (List ℕ)) → KeptLefts [] o → KeptPost pl kept o₀ o
  unfolding enc
  kept_end o h = record {
    puts = λ t Γ ks tb l.
        (let r = h t Γ ks tb l in
        puts_nil o ∙ ap (λ (z : Forest). behind o (encs z)) (sym (no_more t Γ r.rest r.listed)) ∙ r.keeps);
  }
