-- The shape that a tag gives to a tree that stands at a place, where its children are, and decisions with a fixed pattern.
-- Main results: here_few, here_placed, tree_placed, first_tree, first_placed, second_placed; bare, single, double, any (the shape by the tag);
-- fixed_at, each_means (what a decision stands for); by_node, by_single, by_double, by_each, by_pair, by_two (decisions by the tag).
use Rattle.std.proofs.Common.{Option, Some, None}
use mathlib.Core.Path.{◌≡◌, refl, sym, ap, ap₂, ◌∙◌}
use mathlib.Core.Bool.{Bool, true, false, not, ◌&&◌, ◌||◌}
use mathlib.Core.List.{List, [], ◌∷◌, ◌++◌}
use Prim.Native.Nat.{ℕ, ◌+◌, ◌≤◌, ◌<◌}
use native.Mathlib.Omega.{arith}
use lib.ListN.{get_or}
use lib.Dec.{eqb, leb, ltb}
use borrow.Author.Tests.{leb-true, ne_eqb}
use Rattle.frame.specs.Types.{Ty}
use Rattle.frame.specs.Trees.{head, Tree, node, Forest, nil, cons, count, tag_of, many, map_f}
use Rattle.frame.specs.Tags.{Sort, form_of, sorts_of, pick, in_range}
use Rattle.frame.specs.Encoding.{enc_number, enc, encs}
use Rattle.frame.specs.WellFormed.{Wfs, number_in}
use Rattle.frame.specs.Places.{Ctx, under, found, find}
use Rattle.frame.proofs.Splices.{find_lt}
use Rattle.frame.proofs.Booleans.{both_true}
use Rattle.frame.proofs.Inversion.{true_not}
use Rattle.rules.proofs.Operands.{count_map}
use Rattle.nav.specs.PlaceTables.{Table, Placed, InTree, TagPost, ArityPost}
use Rattle.nav.proofs.Hops.{framed_few, Sorted, place_sorted}
use Rattle.nav.proofs.SamePlaces.{only_child, two_children}
use Rattle.rules.specs.Change.{Change, to, same, ◌or_else◌, on_tag, with2}
use Rattle.templates.specs.Template.{filled}
use Rattle.templates.specs.Programs.{template}
use Rattle.templates.proofs.RightSides.{sides, is_in, side, right_side}
use Rattle.decision.specs.Decision.{filling, takes_binders, has_binders, Bound, joint, FixedMeans, each_filled, EachMeans, Means}
use Rattle.decision.specs.Decides.{Here, HereTwo, Decides, DecidesPair, DecidesTwo}
use Rattle.decision.specs.declared.Decision.{Decision}
use Rattle.decision.specs.declared.Decision.TheVariants as D

-- ---- places
module _ {s : List ℕ} {t : Tree} {st nx : List ℕ} {n k : ℕ} {Γ : Ctx} {v : Tree} (tb : Table s t st nx n) (f : find t [] k ≡ found Γ v) where
  pub place_few : k < 2048
  place_few = omega (arith, find_lt t [] k Γ v f, framed_few s t st n tb.framed)

  pub placed : Placed s st k
  placed = record { t = t; n = n; framed = tb.framed; below = find_lt t [] k Γ v f }

pub here_few : {s st nx : List ℕ} {k : ℕ} → Here s st nx k → k < 2048
here_few h = place_few h.table h.there

pub here_placed : {s st nx : List ℕ} {k : ℕ} → Here s st nx k → Placed s st k
here_placed h = placed h.table h.there

pub tree_placed : {s st nx : List ℕ} {k : ℕ} → InTree s st nx k → Placed s st k
tree_placed h = record { t = h.t; n = h.n; framed = h.table.framed; below = h.below }

pub first_tree : {s st nx : List ℕ} {a b : ℕ} → HereTwo s st nx a b → InTree s st nx a
first_tree {s} {st} {nx} {a} h = record { t = h.t; n = h.n; table = h.table; below = find_lt h.t [] a h.Γ h.v h.first }

pub first_placed : {s st nx : List ℕ} {a b : ℕ} → HereTwo s st nx a b → Placed s st a
first_placed h = placed h.table h.first

pub second_placed : {s st nx : List ℕ} {a b : ℕ} → HereTwo s st nx a b → Placed s st b
second_placed h = placed h.table h.second

-- ---- shapes
pub record Bare (g : ℕ) (v : Tree) : Type 0 where
  pub n : ℕ
  pub us : List Ty
  pub is : v ≡ node (head g n us) nil

pub record Single (g : ℕ) (v : Tree) : Type 0 where
  pub n : ℕ
  pub us : List Ty
  pub a : Tree
  pub is : v ≡ node (head g n us) (cons a nil)

pub record Double (g : ℕ) (v : Tree) : Type 0 where
  pub n : ℕ
  pub us : List Ty
  pub a : Tree
  pub b : Tree
  pub is : v ≡ node (head g n us) (cons a (cons b nil))

pub record Any (g : ℕ) (v : Tree) : Type 0 where
  pub n : ℕ
  pub us : List Ty
  pub ks : Forest
  pub is : v ≡ node (head g n us) ks

pub any : (g : ℕ) (v : Tree) → tag_of v ≡ g → Any g v
any g (node (head h n us) ks) z = record { n = n; us = us; ks = ks; is = ap (λ (x : ℕ). node (head x n us) ks) z }

bare_in : (g n : ℕ) (us : List Ty) (ks : Forest) (es : List Sort) → es ≡ [] → Wfs ks es → Bare g (node (head g n us) ks)
bare_in g n us nil es z w = record { n = n; us = us; is = refl }
bare_in g n us (cons a ks) [] z w = absurd w
bare_in g n us (cons a ks) (e ∷ es) z w = cc

single_in : (g n : ℕ) (us : List Ty) (ks : Forest) (e : Sort) → Wfs ks (e ∷ []) → Single g (node (head g n us) ks)
single_in g n us nil e w = absurd w
single_in g n us (cons a nil) e w = record { n = n; us = us; a = a; is = refl }
single_in g n us (cons a (cons b ks)) e w = absurd w.1

double_in : (g n : ℕ) (us : List Ty) (ks : Forest) (e f : Sort) → Wfs ks (e ∷ f ∷ []) → Double g (node (head g n us) ks)
double_in g n us nil e f w = absurd w
double_in g n us (cons a nil) e f w = absurd w.1
double_in g n us (cons a (cons b nil)) e f w = record { n = n; us = us; a = a; b = b; is = refl }
double_in g n us (cons a (cons b (cons c ks))) e f w = absurd w.1.1

-- the sorts of the children, whatever number follows the tag
abbrev pub Takes : ℕ → List Sort → Type 0
Takes g es = (x : ℕ) → sorts_of (form_of g).layout x ≡ es

sorts_in_lem : (h g n : ℕ) (us : List Ty) (ks : Forest) (es : List Sort) → h ≡ g → Takes g es → Sorted (node (head h n us) ks) → Wfs ks es
sorts_in_lem h g n us ks es z tk (e, w) = rw (← tk (number_in g n us (count ks)), ← z) w.1

pub bare : (g : ℕ) → Takes g [] → (v : Tree) → Sorted v → tag_of v ≡ g → Bare g v
bare g tk (node (head h n us) ks) o z = rw z (bare_in g n us ks [] refl (sorts_in_lem h g n us ks [] z tk o))

pub single : (g : ℕ) (e : Sort) → Takes g (e ∷ []) → (v : Tree) → Sorted v → tag_of v ≡ g → Single g v
single g e tk (node (head h n us) ks) o z = rw z (single_in g n us ks e (sorts_in_lem h g n us ks (e ∷ []) z tk o))

pub double : (g : ℕ) (e f : Sort) → Takes g (e ∷ f ∷ []) → (v : Tree) → Sorted v → tag_of v ≡ g → Double g v
double g e f tk (node (head h n us) ks) o z = rw z (double_in g n us ks e f (sorts_in_lem h g n us ks (e ∷ f ∷ []) z tk o))

-- ---- decisions with a fixed pattern
abbrev pub own_types : Tree → List Ty
own_types (node (head g n us) ks) = us

-- operands anywhere, in one context
pub fixed_at : (t : Tree) (place pattern : ℕ) (c : Change) (new : Tree) → c ≡ to place new
    → (i j k : ℕ) (Δ Θ : Ctx) (a b v : Tree) → find t [] i ≡ found Δ a → find t [] j ≡ found Δ b → find t [] k ≡ found Θ v
    → Bound pattern (tag_of v) → enc new ≡ filled (template pattern) (filling Δ a b (own_types v)) → FixedMeans t place pattern i j k c
fixed_at t place pattern c new ans i j k Δ Θ a b (node (head g n us) ks) fi fj fk bd e =
    record {
      new = new;
      answer = ans;
      Δ = Δ;
      a = a;
      b = b;
      at_first = fi;
      at_second = fj;
      Θ = Θ;
      g = g;
      n = n;
      us = us;
      ks = ks;
      at_binder = fk;
      bound = bd;
      bytes = e;
    }

-- a pattern that takes no binders goes with any node
pub unbound : (p g : ℕ) → (ltb p 88 && not (takes_binders p)) ≡ true → Bound p g
unbound p g h = go (ltb p 88) (not (takes_binders p)) h
  where
    go : (x y : Bool) → (x && y) ≡ true → (x && (y || has_binders (form_of g).layout)) ≡ true
    go true true z = refl
    go true false z = true_not z
    go false y z = z

-- Where the tag at place k is g, the function decides the place of the source: by a right side of the node, of its child, of its
-- two children, of each child, and of its two children if there are no more.
module _ (rule : Ctx → Tree → Change) (s st nx : List ℕ) (k tag g place : ℕ) where
  abbrev Decided : Option Decision → Type 0
  Decided d = (r : Option Decision) → r ≡ d → Decides rule s st nx k r

  abbrev pub OfNode : Type 0
  OfNode = tag ≡ g → Decided (Some (D.Fixed place place k k k))

  abbrev pub OfChild : Type 0
  OfChild = tag ≡ g → Decided (Some (D.Fixed place place (k + 1) (k + 1) k))

  abbrev pub OfTwo : Type 0
  OfTwo = tag ≡ g → (j : ℕ) → j ≡ get_or nx (k + 1) 0 → Decided (Some (D.Fixed place place (k + 1) j k))

  abbrev pub OfEach : Type 0
  OfEach = tag ≡ g → Decided (Some (D.Each place k k))

  abbrev pub OfPair : Type 0
  OfPair = tag ≡ g → (j : ℕ) → j ≡ get_or nx (k + 1) 0 → (m : ℕ) → ArityPost s st k m
      → Decided (pick (eqb m 2) (Some (D.Fixed place place (k + 1) j k)) None)

-- what a function decides by the tag at place k alone
module _ (rule : Ctx → Tree → Change) (s st nx : List ℕ) (k tag : ℕ) (pt : TagPost s st k tag) where
  -- no place answers
  pub by_rest : ((Γ : Ctx) (v : Tree) → tag_of v ≡ tag → rule Γ v ≡ same) → (r : Option Decision) → r ≡ None → Decides rule s st nx k r
  by_rest ans r er =
      record { means = λ t n Γ v tb f w Ξ kept. rw er (ans Γ v (sym (pt.tag t n Γ v tb.framed f))) }

  -- the rule is one of another tag
  pub by_other : (g : ℕ) (on : Ctx → List Ty → Forest → Change) → ((Γ : Ctx) (v : Tree) → rule Γ v ≡ on_tag g v (on Γ)) → (tag ≡ g → ⊥)
      → Decides rule s st nx k None
  unfolding on_tag
  by_other g on is h = by_rest (λ Γ v z. is Γ v ∙ go (on Γ) v z) None refl
    where
      go : (f : List Ty → Forest → Change) (v : Tree) → tag_of v ≡ tag → on_tag g v f ≡ same
      go f (node (head o n us) ks) z = rw z (rw (ne_eqb tag g h))

  module _ (g place : ℕ) (bd : Bound place g) (has : is_in sides place ≡ true) where
    tag_is : tag ≡ g → {t : Tree} {n : ℕ} {Γ : Ctx} {v : Tree} → Table s t st nx n → find t [] k ≡ found Γ v → tag_of v ≡ g
    tag_is key {t} {n} {Γ} {v} tb f = sym (pt.tag t n Γ v tb.framed f) ∙ key

    -- the right side has no operand, or the node itself is its operand
    pub by_node : ((Γ : Ctx) (n : ℕ) (us : List Ty) (ks : Forest)
        → rule Γ (node (head g n us) ks) ≡ to place (side place Γ (node (head g n us) ks) (node (head g n us) ks) us))
        → OfNode rule s st nx k tag g place
    by_node ans key r er =
        record {
          means = λ t n Γ v tb f w Ξ kept.
              let o = any g v (tag_is key tb f) in
              let x : Tree = node (head g o.n o.us) o.ks in
              let fx : find t [] k ≡ found Γ x = f ∙ ap (found Γ) o.is in
              rw (er, o.is)
              (fixed_at t place place (rule Γ x) (side place Γ x x o.us) (ans Γ o.n o.us o.ks) k k k Γ Γ x x x fx fx fx bd
              (sym (right_side place has Γ x x o.us)));
        }

    -- its operand is the child
    pub by_single : (e : Sort) → Takes g (e ∷ [])
        → ((Γ : Ctx) (n : ℕ) (us : List Ty) (a : Tree) → rule Γ (node (head g n us) (cons a nil)) ≡ to place (side place (under g us Γ) a a us))
        → OfChild rule s st nx k tag g place
    by_single e tk ans key r er =
        record {
          means = λ t n Γ v tb f w Ξ kept.
              let o = single g e tk v (place_sorted s t st n tb.framed k Γ v f) (tag_is key tb f) in
              let x : Tree = node (head g o.n o.us) (cons o.a nil) in
              let fx : find t [] k ≡ found Γ x = f ∙ ap (found Γ) o.is in
              let fa = only_child t nx tb.follows k Γ g o.n o.us o.a fx in
              let Δ : Ctx = under g o.us Γ in
              rw (er, o.is)
              (fixed_at t place place (rule Γ x) (side place Δ o.a o.a o.us) (ans Γ o.n o.us o.a) (k + 1) (k + 1) k Δ Γ
              o.a o.a x fa fa fx bd (sym (right_side place has Δ o.a o.a o.us)));
        }

    -- its operands are the two children
    pub by_double : (e d : Sort) → Takes g (e ∷ d ∷ [])
        → ((Γ : Ctx) (n : ℕ) (us : List Ty) (a b : Tree) → rule Γ (node (head g n us) (cons a (cons b nil))) ≡ to place
        (side place (under g us Γ) a b us))
        → OfTwo rule s st nx k tag g place
    by_double e d tk ans key j ej r er =
        record {
          means = λ t n Γ v tb f w Ξ kept.
              let o = double g e d tk v (place_sorted s t st n tb.framed k Γ v f) (tag_is key tb f) in
              let x : Tree = node (head g o.n o.us) (cons o.a (cons o.b nil)) in
              let fx : find t [] k ≡ found Γ x = f ∙ ap (found Γ) o.is in
              let fs = two_children t nx tb.follows k Γ g o.n o.us o.a o.b fx in
              let Δ : Ctx = under g o.us Γ in
              rw (er, o.is, ej)
              (fixed_at t place place (rule Γ x) (side place Δ o.a o.b o.us) (ans Γ o.n o.us o.a o.b) (k + 1)
              (get_or nx (k + 1) 0) k Δ Γ o.a o.b x fs.0 fs.1 fx bd (sym (right_side place has Δ o.a o.b o.us)));
        }

-- ---- a pattern for each child
each_bytes : (place : ℕ) (Δ : Ctx) (us : List Ty) (f : Tree → Tree) → ((a : Tree) → enc (f a) ≡ filled (template place) (filling Δ a a us))
    → (ks : Forest) → encs (map_f f ks) ≡ each_filled place Δ us ks
unfolding enc each_filled
each_bytes place Δ us f h nil = refl
each_bytes place Δ us f h (cons a ks) = ap₂ (λ (x y : List ℕ). x ++ y) (h a) (each_bytes place Δ us f h ks)

-- the bytes of an operator over a list
abbrev pub Joins : ℕ → Type 0
Joins o = (ls : Forest) → enc (many o ls) ≡ enc_number 2 o ++ (count ls ∷ encs ls)

pub each_means : (t : Tree) (place at binder : ℕ) (c : Change) → Joins (joint place) → (f : Tree → Tree) (ks : Forest)
    → c ≡ to place (many (joint place) (map_f f ks)) → (Ξ : Ctx) (g n : ℕ) (vs : List Ty) → find t [] at ≡ found Ξ (node (head g n vs) ks)
    → count ks ≤ 255 → (Θ : Ctx) (b : Tree) → find t [] binder ≡ found Θ b → Bound place (tag_of b)
    → ((a : Tree) → enc (f a) ≡ filled (template place) (filling (under g vs Ξ) a a (own_types b))) → EachMeans t place at binder c
each_means t place at binder c j f ks ans Ξ g n vs fa few Θ (node (head h m us) ls) fb bd bytes =
    record {
      new = many (joint place) (map_f f ks);
      answer = ans;
      Ξ = Ξ;
      g = g;
      n = n;
      vs = vs;
      ks = ks;
      at_node = fa;
      few = few;
      Θ = Θ;
      h = h;
      m = m;
      us = us;
      ls = ls;
      at_binder = fb;
      bound = bd;
      bytes = j (map_f f ks) ∙ ap₂ (λ (x : ℕ) (y : List ℕ). enc_number 2 (joint place) ++ (x ∷ y)) (count_map f ks)
          (each_bytes place (under g vs Ξ) us f bytes ks);
    }

-- the children of a tag that is followed by a count from 2 on
abbrev pub Counts : ℕ → Type 0
Counts g = (n : ℕ) (us : List Ty) (m : ℕ) → in_range (form_of g).layout (number_in g n us m) ≡ (leb 2 m && leb m 255)

both_counts : (g : ℕ) → Counts g → (n : ℕ) (us : List Ty) (ks : Forest) → Sorted (node (head g n us) ks)
    → (leb 2 (count ks) ≡ true) × (leb (count ks) 255 ≡ true)
both_counts g h n us ks (e, w) = both_true (leb 2 (count ks)) (leb (count ks) 255) (sym (h n us (count ks)) ∙ w.0.range)

pub few_of : (g : ℕ) → Counts g → (n : ℕ) (us : List Ty) (ks : Forest) → Sorted (node (head g n us) ks) → count ks ≤ 255
few_of g h n us ks o = leb-true (count ks) 255 (both_counts g h n us ks o).1

pub some_two : (g : ℕ) → Counts g → (n : ℕ) (us : List Ty) (ks : Forest) → Sorted (node (head g n us) ks) → 2 ≤ count ks
some_two g h n us ks o = leb-true 2 (count ks) (both_counts g h n us ks o).0

pub sorted_is : (v w : Tree) → v ≡ w → Sorted v → Sorted w
sorted_is v w z o = rw z at o

module _ (rule : Ctx → Tree → Change) (s st nx : List ℕ) (k tag : ℕ) (pt : TagPost s st k tag) (g place : ℕ)
    (bd : Bound place g) (has : is_in sides place ≡ true) where
  pub by_each : Counts g → Joins (joint place)
      → ((Γ : Ctx) (n : ℕ) (us : List Ty) (ks : Forest) → 2 ≤ count ks
      → rule Γ (node (head g n us) ks) ≡ to place (many (joint place) (map_f (λ a. side place (under g us Γ) a a us) ks)))
      → OfEach rule s st nx k tag g place
  by_each cs jo ans key r er =
      record {
        means = λ t n Γ v tb q w Ξ kept.
            let y = any g v (sym (pt.tag t n Γ v tb.framed q) ∙ key) in
            let x : Tree = node (head g y.n y.us) y.ks in
            let fx : find t [] k ≡ found Γ x = q ∙ ap (found Γ) y.is in
            let sx = sorted_is v x y.is (place_sorted s t st n tb.framed k Γ v q) in
            let l = some_two g cs y.n y.us y.ks sx in
            let Δ : Ctx = under g y.us Γ in
            rw (er, y.is)
            (each_means t place k k (rule Γ x) jo (λ a. side place Δ a a y.us) y.ks (ans Γ y.n y.us y.ks l) Γ g y.n
            y.us fx (few_of g cs y.n y.us y.ks sx) Γ x fx bd (λ a. sym (right_side place has Δ a a y.us)));
      }

  -- an operator over a list, where it has just two operands
  pub by_pair : ((Γ : Ctx) (n : ℕ) (us : List Ty) (ks : Forest)
      → rule Γ (node (head g n us) ks) ≡ with2 ks (λ a b. to place (side place (under g us Γ) a b us)))
      → OfPair rule s st nx k tag g place
  by_pair ans key j ej m pm r er =
      record {
        means = λ t n Γ v tb q w Ξ kept.
            let y = any g v (sym (pt.tag t n Γ v tb.framed q) ∙ key) in
            let x : Tree = node (head g y.n y.us) y.ks in
            let fx : find t [] k ≡ found Γ x = q ∙ ap (found Γ) y.is in
            let em : m ≡ count y.ks = pm.many t n Γ x tb.framed fx in
            rw (er, y.is, em) (go t n Γ y.n y.us y.ks tb fx w Ξ kept);
      }
    where
      go : (t : Tree) (n : ℕ) (Γ : Ctx) (i : ℕ) (us : List Ty) (ks : Forest) → Table s t st nx n → find t [] k ≡ found Γ (node (head g i us) ks)
          → (w : Tree) (Ξ : Ctx) (kept : List ℕ)
          → Means t w Ξ kept (pick (eqb (count ks) 2) (Some (D.Fixed place place (k + 1) j k)) None) (rule Γ (node (head g i us) ks))
      go t n Γ i us nil tb fx w Ξ kept = ans Γ i us nil
      go t n Γ i us (cons a nil) tb fx w Ξ kept = ans Γ i us (cons a nil)
      go t n Γ i us (cons a (cons b nil)) tb fx w Ξ kept =
          let fs = two_children t nx tb.follows k Γ g i us a b fx in
          let x : Tree = node (head g i us) (cons a (cons b nil)) in
          let Δ : Ctx = under g us Γ in
          rw ej
          (fixed_at t place place (rule Γ x) (side place Δ a b us) (ans Γ i us (cons a (cons b nil))) (k + 1)
          (get_or nx (k + 1) 0) k Δ Γ a b x fs.0 fs.1 fx bd (sym (right_side place has Δ a b us)))
      go t n Γ i us (cons a (cons b (cons d ks))) tb fx w Ξ kept =
          let z : eqb (count (cons a (cons b (cons d ks)))) 2 ≡ false = ne_eqb (count (cons a (cons b (cons d ks)))) 2 (λ h. omega arith) in
          rw z (ans Γ i us (cons a (cons b (cons d ks))))

-- answers of which nothing comes after
pub or_same : (c : Change) → c or_else same ≡ c
or_same (to p u) = refl
or_same same = refl

-- a rule on two operands, where no later place answers
pub two_or_none : (ks : Forest) (k : Tree → Tree → Change) → with2 ks k or_else same ≡ with2 ks k
two_or_none ks k = or_same (with2 ks k)

-- a rule that goes on to a node's two children
module _ (s st nx : List ℕ) (k tag : ℕ) (pt : TagPost s st k tag) (g : ℕ) (key : tag ≡ g) (e d : Sort) (tk : Takes g (e ∷ d ∷ [])) (j : ℕ)
    (ej : j ≡ get_or nx (k + 1) 0) where
  pub two_here : Here s st nx k → HereTwo s st nx (k + 1) j
  two_here h =
      let o = double g e d tk h.v (place_sorted s h.t st h.n h.table.framed k h.Γ h.v h.there)
      (sym (pt.tag h.t h.n h.Γ h.v h.table.framed h.there) ∙ key) in
      let fs = two_children h.t nx h.table.follows k h.Γ g o.n o.us o.a o.b (h.there ∙ ap (found h.Γ) o.is) in
      record {
        t = h.t;
        n = h.n;
        table = h.table;
        Γ = under g o.us h.Γ;
        v = o.a;
        w = o.b;
        first = fs.0;
        second = rw ej fs.1;
      }

  pub by_both : (rule : Ctx → Tree → Change) (on : Ctx → Tree → Tree → Change)
      → ((Γ : Ctx) (n : ℕ) (us : List Ty) (a b : Tree) → rule Γ (node (head g n us) (cons a (cons b nil))) ≡ on (under g us Γ) a b)
      → (r : Option Decision) → DecidesPair on s st nx (k + 1) j r → Decides rule s st nx k r
  by_both rule on ans r de =
      record {
        means = λ t n Γ v tb f w Ξ kept.
            let o = double g e d tk v (place_sorted s t st n tb.framed k Γ v f) (sym (pt.tag t n Γ v tb.framed f) ∙ key) in
            let fs = two_children t nx tb.follows k Γ g o.n o.us o.a o.b (f ∙ ap (found Γ) o.is) in
            rw (o.is, ans Γ o.n o.us o.a o.b)
            (de.means t n (under g o.us Γ) o.a o.b tb fs.0 (rw ej fs.1) w Ξ kept);
      }

  -- where the rule does not ask for the context
  pub by_two : (rule : Ctx → Tree → Change) (on : Tree → Tree → Change)
      → ((Γ : Ctx) (n : ℕ) (us : List Ty) (a b : Tree) → rule Γ (node (head g n us) (cons a (cons b nil))) ≡ on a b)
      → (r : Option Decision) → DecidesTwo on s st nx (k + 1) j r → Decides rule s st nx k r
  by_two rule on ans r de = by_both rule (λ Γ. on) ans r de
