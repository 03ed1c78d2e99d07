-- The ways out of the functions of src/lib.rt.
-- Main results: fill_row_tree .. fill_row_end; many_byte, joined_one; and for each kind of decision what the code asks on its way
-- and what it has written at the end.
use mathlib.Core.Path.{◌≡◌, refl, sym, ap, ap₂, ◌∙◌}
use mathlib.Core.Bool.{Bool, true, false}
use mathlib.Core.List.{List, [], ◌∷◌, ◌++◌, append_assoc}
use Prim.Native.Nat.{ℕ, suc, ◌+◌, ◌≤◌, ◌<◌}
use native.Mathlib.Omega.{arith}
use lib.ListN.{length}
use lib.Dec.{eqb, leb}
use borrow.Author.Tests.{eq-eqb, leb-true}
use Rattle.frame.specs.Types.{Ty}
use Rattle.frame.specs.Trees.{head, Tree, node, Forest, nil, cons, count, nodes, tag_of, many}
use Rattle.frame.specs.Tags.{pick, Sort, predicate, Layout, counted, form_of, number_of, in_range}
use Rattle.frame.specs.Encoding.{enc_number, enc, encs}
use Rattle.frame.specs.WellFormed.{Wf}
use Rattle.frame.specs.Places.{Ctx, under, found, find}
use Rattle.frame.proofs.Booleans.{both_true}
use Rattle.frame.proofs.Splices.{find_lt}
use Rattle.frame.proofs.Within.{KidsAtPlace}
use Rattle.std.proofs.Common.{Option}
use Rattle.nav.specs.declared.Places.{Places}
use Rattle.nav.specs.AtPlaces.{PlacesOf, AtPlace, TagAt, ArityAt, TreeAt, ChildrenAt}
use Rattle.nav.specs.PlaceTables.{places_from}
use Rattle.nav.proofs.Hops.{child_first}
use Rattle.nav.proofs.Hops.{place_sorted}
use Rattle.rules.specs.Change.{Change, to}
use Rattle.put.specs.Out.{Puts, behind}
use Rattle.put.proofs.Puts.{puts_nil, puts_then, puts_as}
use Rattle.templates.proofs.Joins.{counted_bytes}
use Rattle.decision.specs.Decision.{At, places_of, joint, each_filled, EachMeans}
use Rattle.decision.specs.declared.kept.KeptChild.{KeptChild}
use Rattle.decision.proofs.ChildWalks.{head_of}
use Rattle.filling.specs.Operands.{HeldIn, FillAt, FillPre, FillPost}
use Rattle.build.specs.Rows.{KeptPre, KeptPost}
use Rattle.build.specs.Subtree.{many_bytes, joined_bytes, BinderAt, FillRowPre, FillRowPost, BuildPre, BuildPost, OfEach, OfKept}

-- ---- a pattern for each child of the node at place k
module _ (pl : Places) (pattern k binder : ℕ) (o₀ : Option (List ℕ)) where
  -- the others of the children ks, in their context, are at these places; what has been written, from o₀ to o, is what the pattern makes of
  -- ks but for that of the others
  pub record FillLeft (t : Tree) (Δ : Ctx) (ks : Forest) (us : List Ty) (places : List ℕ) (o : Option (List ℕ)) : Type 0 where
    pub rest : Forest
    pub c : ℕ
    pub are : places_from rest c ≡ places
    pub below : KidsAtPlace t [] c Δ rest
    pub keeps : behind o (each_filled pattern Δ us rest) ≡ behind o₀ (each_filled pattern Δ us ks)

  abbrev pub FillLefts : List ℕ → Option (List ℕ) → Type 0
  FillLefts places o = (t : Tree) (Γ : Ctx) (g x : ℕ) (vs : List Ty) (ks : Forest) (us : List Ty) → PlacesOf pl t → HeldIn pl t
      → find t [] k ≡ found Γ (node (head g x vs) ks) → BinderAt t pattern binder us → FillLeft t (under g vs Γ) ks us places o

  pub fill_row_tree : FillRowPre pl pattern k binder → TreeAt pl k
  fill_row_tree p = record { t = p.t; n = pl.count; table = p.table; below = find_lt p.t [] k _ _ p.there }

  pub fill_row_begins : (places : List ℕ) → ChildrenAt pl k places → FillLefts places o₀
  fill_row_begins places post t Γ g x vs ks us tb h f b = record {
    rest = ks;
    c = k + 1;
    are = sym (post.are t pl.count Γ (node (head g x vs) ks) tb f);
    below = child_first t k Γ g x vs ks f;
    keeps = refl;
  }

  child_fill : (t : Tree) (c : ℕ) (Δ : Ctx) (w : Tree) (us : List Ty) → find t [] c ≡ found Δ w → BinderAt t pattern binder us
      → FillAt t pattern c c binder Δ w w us
  child_fill t c Δ w us f b = record { at_first = f; at_second = f; Θ = b.Θ; g = b.g; x = b.x; ks = b.ls; at_binder = b.there; bound = b.bound }

  module _ (c : ℕ) (more : List ℕ) (places : List ℕ) (e : places ≡ c ∷ more) (o : Option (List ℕ)) (ls : FillLefts places o) where
    pub fill_row_child : FillRowPre pl pattern k binder → FillPre pl pattern c c binder
    fill_row_child p =
        let Δ = under p.g p.vs p.Γ in
        let l = ls p.t p.Γ p.g p.x p.vs p.ks p.us p.table p.held p.there p.binders in
        let d = (head_of p.t Δ l.rest l.c l.below c more (l.are ∙ e)).1 in
        record {
          t = p.t;
          table = p.table;
          held = p.held;
          Δ = Δ;
          a = d.w;
          b = d.w;
          us = p.us;
          places = child_fill p.t c Δ d.w p.us d.there p.binders;
        }

    pub fill_row_next : (q : Option (List ℕ)) → FillPost pl pattern c c binder o q → FillLefts more q
    unfolding each_filled
    fill_row_next q post t Γ g x vs ks us tb h f b =
        let Δ = under g vs Γ in
        let l = ls t Γ g x vs ks us tb h f b in
        let d = (head_of t Δ l.rest l.c l.below c more (l.are ∙ e)).1 in
        let r = post.puts t Δ d.w d.w us tb h (child_fill t c Δ d.w us d.there b) in
        record {
          rest = d.others;
          c = c + nodes d.w;
          are = sym d.are;
          below = d.below;
          keeps = puts_then o q (behind q (each_filled pattern Δ us d.others)) _ (each_filled pattern Δ us d.others) r refl
              ∙ ap (λ (z : Forest). behind o (each_filled pattern Δ us z)) (sym d.is) ∙ l.keeps;
        }

  pub fill_row_end : (o : Option (List ℕ)) (places : List ℕ) → places ≡ [] → FillLefts places o → FillRowPost pl pattern k binder o₀ o
  unfolding each_filled
  fill_row_end o places e ls = record {
    puts = λ t Γ g x vs ks us tb h f b.
        (let Δ = under g vs Γ in
        let l = ls t Γ g x vs ks us tb h f b in
        puts_nil o ∙ ap (λ (z : Forest). behind o (each_filled pattern Δ us z)) (sym (none l.rest l.c (l.are ∙ e))) ∙ l.keeps);
  }
    where
      none : (rest : Forest) (c : ℕ) → places_from rest c ≡ [] → rest ≡ nil
      none nil c z = refl
      none (cons w others) c z = cc

-- ---- heads
module _ (g m : ℕ) (o : Option (List ℕ)) where
  pub many_byte : (q : Option (List ℕ)) → Puts o q (enc_number 2 g) → (z : Option (List ℕ)) (b : ℕ) → b ≡ m → Puts q z (b ∷ [])
      → Puts o z (many_bytes g m)
  many_byte q a z b e c = puts_as o z _ _ (ap (λ (x : ℕ). enc_number 2 g ++ (x ∷ [])) e) (puts_then o q z _ _ a c)

  pub joined_one : m ≡ 1 → Puts o o (joined_bytes g m)
  joined_one e = puts_as o o _ _ (sym (rw (eq-eqb m 1 e) refl)) (puts_nil o)

pub joint_small : (p g : ℕ) → g ≡ joint p → g < 65536
joint_small p g e = go (eqb p 86) e
  where
    go : (b : Bool) → g ≡ pick b 352 351 → g < 65536
    go true e = omega arith
    go false e = omega arith

-- a head and what follows
pub many_then : (g m : ℕ) (xs : List ℕ) → many_bytes g m ++ xs ≡ enc_number 2 g ++ (m ∷ xs)
many_then g m xs = append_assoc (enc_number 2 g) (m ∷ []) xs

pub new_is : (u v : Tree) (x y : ℕ) → to x u ≡ to y v → u ≡ v
new_is u v x y e = cc

-- ---- ∧ or ∨ over a pattern
module _ (place at binder : ℕ) (pl : Places) where
  binder_of : (t : Tree) (c : Change) (e : EachMeans t place at binder c) → BinderAt t place binder e.us
  binder_of t c e = record { Θ = e.Θ; g = e.h; x = e.m; ls = e.ls; there = e.at_binder; bound = e.bound }

  pub each_placed : BuildPre (OfEach place at binder) pl → AtPlace pl at
  each_placed p = record { t = p.t; n = pl.count; framed = p.table.framed; below = find_lt p.t [] at _ _ p.means.at_node }

  module _ (m : ℕ) (pm : ArityAt pl at m) where
    count_is : (t : Tree) (c : Change) → PlacesOf pl t → (e : EachMeans t place at binder c) → m ≡ count e.ks
    count_is t c tb e = pm.many t pl.count e.Ξ (node (head e.g e.n e.vs) e.ks) tb.framed e.at_node

    pub each_count : BuildPre (OfEach place at binder) pl → m ≤ 255
    each_count p = omega (arith, count_is p.t p.c p.table p.means, p.means.few)

    pub each_row : BuildPre (OfEach place at binder) pl → FillRowPre pl place at binder
    each_row p =
        let e = p.means in
        record {
          t = p.t;
          table = p.table;
          held = p.held;
          Γ = e.Ξ;
          g = e.g;
          x = e.n;
          vs = e.vs;
          ks = e.ks;
          there = e.at_node;
          us = e.us;
          binders = binder_of p.t p.c e;
        }

    pub each_built : (o : Option (List ℕ)) (g : ℕ) → g ≡ joint place → (q : Option (List ℕ)) → Puts o q (many_bytes g m) → (z : Option (List ℕ))
        → FillRowPost pl place at binder q z → BuildPost (OfEach place at binder) pl o z
    each_built o g eg q a z b =
        record {
          puts = λ t c p new tb h e ans.
              (let Δ = under e.g e.vs e.Ξ in
              let w = b.puts t e.Ξ e.g e.n e.vs e.ks e.us tb h e.at_node (binder_of t c e) in
              let y = ap enc (new_is e.new new place p (sym e.answer ∙ ans)) in
              let x = many_then g m (each_filled place Δ e.us e.ks) ∙ ap₂
              (λ (u v : ℕ). enc_number 2 u ++ (v ∷ each_filled place Δ e.us e.ks)) eg (count_is t c tb e) in
              puts_as o z _ _ (x ∙ sym e.bytes ∙ y) (puts_then o q z _ _ a w));
        }

-- ---- the children that stay
at_count : (t : Tree) (Θ : Ctx) (ps : List ℕ) (ks : Forest) → At t Θ ps ks → count ks ≡ length ps
unfolding At
at_count t Θ [] nil h = refl
at_count t Θ [] (cons w ks) h = absurd h
at_count t Θ (p ∷ ps) nil h = absurd h
at_count t Θ (p ∷ ps) (cons w ks) h = ap suc (at_count t Θ ps ks h.1)

as_many : (kept : List KeptChild) → length (places_of kept) ≡ length kept
as_many [] = refl
as_many (x ∷ xs) = ap suc (as_many xs)

module _ (k : ℕ) (kept : List KeptChild) (pl : Places) where
  -- the count is that of a node that is well formed
  module _ (t : Tree) (c : Change) (w : OfKept k kept t c) where
    kept_small : count w.means.ks ≤ 255
    kept_small =
        let f = w.formed 65 (many (tag_of w.v) w.means.ks) w.means.answer in
        let r = f.1.0.range in
        let l = w.means.operator in
        go (form_of (tag_of w.v)).layout l r
      where
        go : (y : Layout) → y ≡ counted 2 255 predicate → in_range y (number_of y 0 0 (count w.means.ks)) ≡ true → count w.means.ks ≤ 255
        go y e r = leb-true (count w.means.ks) 255 (both_true (leb 2 (count w.means.ks)) (leb (count w.means.ks) 255) (rw e at r)).1

    pub kept_count : (length kept ≡ count w.means.ks) × (length kept ≤ 255)
    kept_count =
        let a = at_count t w.Γ (places_of kept) w.means.ks w.means.listed in
        let b = as_many kept in
        (omega arith, omega (arith, kept_small))

  pub kept_placed : BuildPre (OfKept k kept) pl → AtPlace pl k
  kept_placed p = record { t = p.t; n = pl.count; framed = p.table.framed; below = find_lt p.t [] k _ _ p.means.there }

  pub kept_tag : BuildPre (OfKept k kept) pl → (g : ℕ) → TagAt pl k g → (m : ℕ) → m ≡ length kept → (g < 65536) × (m ≤ 255)
  kept_tag p g pg m em =
      let v = p.means.v in
      let o = place_sorted pl.bytes.now p.t pl.starts.now pl.count p.table.framed k p.means.Γ v p.means.there in
      let e = pg.tag p.t pl.count p.means.Γ v p.table.framed p.means.there in
      let z = (kept_count p.t p.c p.means).1 in
      (rw e (tag_small v o.0 o.1), omega arith)
    where
      tag_small : (v : Tree) (e : Sort) → Wf v e → tag_of v < 65536
      tag_small (node (head g i us) ls) e w = w.0.small

  pub kept_list : BuildPre (OfKept k kept) pl → KeptPre pl kept
  kept_list p =
      let w = p.means in
      record { t = p.t; table = p.table; Γ = w.Γ; ks = w.means.ks; listed = w.means.listed }

  pub kept_built : (g : ℕ) → TagAt pl k g → (m : ℕ) → m ≡ length kept → (o q : Option (List ℕ)) → Puts o q (many_bytes g m) → (z : Option (List ℕ))
      → KeptPost pl kept q z → BuildPost (OfKept k kept) pl o z
  kept_built g pg m em o q a z b =
      record {
        puts = λ t c p new tb h w ans.
            (let y = ap enc (new_is (many (tag_of w.v) w.means.ks) new 65 p (sym w.means.answer ∙ ans)) in
            let x = b.puts t w.Γ w.means.ks tb w.means.listed in
            let eg = pg.tag t pl.count w.Γ w.v tb.framed w.there in
            let ec : m ≡ count w.means.ks = em ∙ (kept_count t c w).0 in
            puts_as o z _ _
            (many_then g m (encs w.means.ks) ∙ ap₂ (λ (u v : ℕ). enc_number 2 u ++ (v ∷ encs w.means.ks)) eg ec
            ∙ sym (counted_bytes (tag_of w.v) w.means.ks 2 255 predicate w.means.operator) ∙ y)
            (puts_then o q z _ _ a x));
      }
