-- The ways out of differs, is_new and absorb of src/lib.rt: one child beside another, beside those kept, and all children.
-- Main results: differ_both, differ_keys, differ_opposite, differ_same; scanned_pre, scanned_none, scanned_next, scanned_end
-- (a child beside those kept); children_few, states_first, turn_here, turn_new, turn_decides, turn_drops, turn_keeps, turn_end (all children);
-- says_determinant, says_neutral, says_pending (the verdict on a child); one_less, keyed_more.
use mathlib.Core.Path.{◌≡◌, refl, sym, ap, ◌∙◌}
use mathlib.Core.Bool.{Bool, true, false, not, ◌&&◌, ◌||◌, and-true}
use mathlib.Core.List.{List, [], ◌∷◌, ◌++◌, map-append}
use mathlib.Core.Logic.{◌⊎◌, ⊎_elim}
use Prim.Native.Nat.{ℕ, ◌+◌, ◌≤◌}
use native.Mathlib.Omega.{arith}
use lib.ListN.{length}
use borrow.Author.Tests.{eq-eqb, ne_eqb}
use Rattle.std.proofs.Common.{Option, Some, None}
use Rattle.frame.specs.Types.{Ty}
use Rattle.frame.specs.Trees.{head, Tree, node, Forest, nil, cons, count, tag_of, append, nodes}
use Rattle.frame.specs.Tags.{pick, lookup, class_of, form_at}
use Rattle.frame.specs.Places.{Ctx, under, found, find}
use Rattle.frame.specs.Sameness.{same_tree}
use Rattle.frame.proofs.Splices.{find_lt}
use Rattle.nav.specs.PlaceTables.{Table, InTree, BothPlaced, TagPost, SameAtPost, ChildrenOf, places_from}
use Rattle.nav.proofs.Hops.{Sorted, place_sorted}
use Rattle.rules.specs.Change.{contains}
use Rattle.rules.specs.Simplify.{make_neg, Verdict, drops, keeps, decides, verdict, after_verdict, scan}
use Rattle.decision.specs.Decision.{At, places_of}
use Rattle.decision.specs.Decides.{Compared}
use Rattle.decision.specs.declared.kept.KeptChild.{KeptChild}
use Rattle.decision.proofs.Shapes.{Counts, few_of}
use Rattle.decision.proofs.ChildWalks.{LeftsIn, first_in, child_in, tree_in, next_in, stop_in, end_in}
use Rattle.junction.specs.Keys.{KeyPost}
use Rattle.junction.specs.Junction.{JunctionPre, differ, pending, Keyed, DifferPre, DifferPost, NewPre, NewPost, Absorbed, AbsorbPost}
use Rattle.junction.proofs.KeyTurns.{unlike_by_keys}

-- ---- an ∧ or an ∨ has at most 255 children
and_counts : Counts 351
unfolding lookup class_of form_at
and_counts n us m = refl

or_counts : Counts 352
unfolding lookup class_of form_at
or_counts n us m = refl

few_in : (g n : ℕ) (us : List Ty) (ks : Forest) → (g ≡ 351) ⊎ (g ≡ 352) → Sorted (node (head g n us) ks) → count ks ≤ 255
few_in g n us ks o w = ⊎_elim (λ z. few_of 351 and_counts n us ks (rw z at w)) (λ z. few_of 352 or_counts n us ks (rw z at w)) o

length_places : (ks : Forest) (c : ℕ) → length (places_from ks c) ≡ count ks
length_places nil c = refl
length_places (cons w ks) c = let z = length_places ks (c + nodes w) in omega arith

pub children_few : {s st nx : List ℕ} {k : ℕ} → JunctionPre s st nx k → (places : List ℕ) → ChildrenOf s st nx k places → length places ≤ 255
children_few {s} {st} {nx} {k} pre places post =
    let v : Tree = node (head pre.g pre.x pre.us) pre.ks in
    let o = place_sorted s pre.t st pre.n pre.table.framed k pre.Γ v pre.there in
    let few = few_in pre.g pre.x pre.us pre.ks pre.operator o in
    omega (arith, ap (λ (l : List ℕ). length l) (post.are pre.t pre.n pre.Γ v pre.table pre.there), length_places pre.ks (k + 1), few)

pub pre_tree : {s st nx : List ℕ} {k : ℕ} → JunctionPre s st nx k → InTree s st nx k
pre_tree {s} {st} {nx} {k} pre =
    record { t = pre.t; n = pre.n; table = pre.table; below = find_lt pre.t [] k pre.Γ (node (head pre.g pre.x pre.us) pre.ks) pre.there }

-- ---- lists of places
-- one place more
at_more : (t : Tree) (Θ : Ctx) (ps : List ℕ) (ks : Forest) (p : ℕ) (w : Tree) → At t Θ ps ks → find t [] p ≡ found Θ w
    → At t Θ (ps ++ (p ∷ [])) (append ks (cons w nil))
unfolding At
at_more t Θ [] nil p w a f = (f, tt)
at_more t Θ [] (cons v ks) p w a f = absurd a
at_more t Θ (q ∷ ps) nil p w a f = absurd a
at_more t Θ (q ∷ ps) (cons v ks) p w a f = (a.0, at_more t Θ ps ks p w a.1 f)

-- the first of the places, and the others
pub record First (t : Tree) (Θ : Ctx) (p : ℕ) (ps : List ℕ) (ks : Forest) : Type 0 where
  pub w : Tree
  pub rest : Forest
  pub is : ks ≡ cons w rest
  pub there : find t [] p ≡ found Θ w
  pub others : At t Θ ps rest

pub at_first : (t : Tree) (Θ : Ctx) (p : ℕ) (ps : List ℕ) (ks : Forest) → At t Θ (p ∷ ps) ks → First t Θ p ps ks
unfolding At
at_first t Θ p ps nil a = absurd a
at_first t Θ p ps (cons w ks) a = record { w = w; rest = ks; is = refl; there = a.0; others = a.1 }

at_none : (t : Tree) (Θ : Ctx) (ks : Forest) → At t Θ [] ks → ks ≡ nil
unfolding At
at_none t Θ nil a = refl
at_none t Θ (cons w ks) a = absurd a

-- ---- one child beside another, at the places p and q
module _ {s st nx : List ℕ} {one child : KeptChild} where
  pub differ_keys : DifferPre s st nx one child → (one.key ≡ child.key → ⊥) → DifferPost s st nx one child (Some true)
  differ_keys h d = record {
    says = λ t n Θ v w tb f g.
        let x = h.keyed.0.key t n Θ v tb f in
        let y = h.keyed.1.0.key t n Θ w tb g in
        let u = unlike_by_keys v w (place_sorted s t st n tb.framed child.place Θ w g) (λ z. d (x ∙ z ∙ sym y)) in
        rw (u.opposite, u.same) refl;
  }

  module _ {p q : ℕ} (ep : p ≡ one.place) (eq : q ≡ child.place) where
    pub differ_both : DifferPre s st nx one child → BothPlaced s st p q
    differ_both h = rw (ep, eq) (record {
      left = record { t = h.t; n = h.n; framed = h.table.framed; below = find_lt h.t [] one.place h.Θ h.v h.first };
      right = record { t = h.t; n = h.n; framed = h.table.framed; below = find_lt h.t [] child.place h.Θ h.w h.second };
    })

    module _ {o : Bool} (opp : Compared make_neg s st p q o) where
      pub differ_opposite : o ≡ true → DifferPost s st nx one child None
      differ_opposite e = record { says = λ t n Θ v w tb f g. rw (sym (opp.says t n Θ Θ v w tb.framed (rw ep f) (rw eq g)) ∙ e) refl }

      pub differ_same : o ≡ false → {r : Bool} → SameAtPost s st p q r → DifferPost s st nx one child (Some (not r))
      differ_same e {r} same = record {
        says = λ t n Θ v w tb f g.
            let z = same.same t n Θ Θ v w tb.framed (rw ep f) (rw eq g) in
            rw (sym (opp.says t n Θ Θ v w tb.framed (rw ep f) (rw eq g)) ∙ e, z) refl;
      }

-- ---- a child beside those kept
abbrev after : Bool → Forest → Tree → Option Bool → Option Bool
after new ks w None = None
after new ks w (Some r) = pending (new && r) ks w

pending_next : (new : Bool) (k : Tree) (ks : Forest) (w : Tree) → pending new (cons k ks) w ≡ after new ks w (differ k w)
unfolding contains
pending_next new k ks w = go (same_tree k (make_neg w)) (same_tree k w) new
  where
    go : (b d a : Bool) → pick (b || contains (make_neg w) ks) None (Some (a && not (d || contains w ks))) ≡ after a ks w (pick b None (Some (not d)))
    go true d a = refl
    go false true true = refl
    go false false true = refl
    go false d false = refl

pending_end : (new : Bool) (w : Tree) → pending new nil w ≡ Some new
unfolding contains
pending_end new w = ap (λ (b : Bool). Some b) (and-true new)

-- `rest` are those still to come, and new is what came of the others
pub record Pending (t : Tree) (Θ : Ctx) (rest : List KeptChild) (out : Forest) (w : Tree) (new : Bool) : Type 0 where
  pub left : Forest
  pub listed : At t Θ (places_of rest) left
  pub says : pending true out w ≡ pending new left w

pub record Scanned (s st nx : List ℕ) (lent : List KeptChild) (child : KeptChild) (new : Bool) (rest : List KeptChild) : Type 0 where
  pub pends : (t : Tree) (n : ℕ) (Θ : Ctx) (out : Forest) (w : Tree) → Table s t st nx n → At t Θ (places_of lent) out
      → find t [] child.place ≡ found Θ w → Pending t Θ rest out w new
  pub keyed : Keyed s st nx rest

module _ {s st nx : List ℕ} {lent : List KeptChild} {child : KeptChild} where
  module _ {new : Bool} {rest : List KeptChild} (sc : Scanned s st nx lent child new rest) where
    module _ {one : KeptChild} {more : List KeptChild} (e : rest ≡ one ∷ more) where
      first : (t : Tree) (n : ℕ) (Θ : Ctx) (out : Forest) (w : Tree) (tb : Table s t st nx n) (a : At t Θ (places_of lent) out)
          (f : find t [] child.place ≡ found Θ w) → First t Θ one.place (places_of more) (sc.pends t n Θ out w tb a f).left
      first t n Θ out w tb a f =
          let q = sc.pends t n Θ out w tb a f in at_first t Θ one.place (places_of more) q.left (rw e at q.listed)

      goes_on : (r : Option Bool) → DifferPost s st nx one child r → (t : Tree) (n : ℕ) (Θ : Ctx) (out : Forest) (w : Tree) (tb : Table s t st nx n)
          (a : At t Θ (places_of lent) out) (f : find t [] child.place ≡ found Θ w) → pending true out w ≡ after new (first t n Θ out w tb a f).rest w r
      goes_on r p t n Θ out w tb a f =
          let v = first t n Θ out w tb a f in
          (sc.pends t n Θ out w tb a f).says
          ∙ ap (λ (l : Forest). pending new l w) v.is
          ∙ pending_next new v.w v.rest w
          ∙ ap (after new v.rest w) (sym (p.says t n Θ v.w w tb v.there f))

      keys : Keyed s st nx (one ∷ more)
      keys = rw e at sc.keyed

      pub scanned_pre : NewPre s st nx lent child → DifferPre s st nx one child
      scanned_pre h =
          let v = first h.t h.n h.Θ h.out h.w h.table h.listed h.there in
          record { t = h.t; n = h.n; Θ = h.Θ; v = v.w; w = h.w; table = h.table; first = v.there; second = h.there; keyed = (keys.0, (h.keyed.0, tt)) }

      pub scanned_none : DifferPost s st nx one child None → NewPost s st nx lent child None
      scanned_none p = record { says = λ t n Θ out w tb a f. sym (goes_on None p t n Θ out w tb a f) }

      pub scanned_next : {r : Bool} → DifferPost s st nx one child (Some r) → Scanned s st nx lent child (new && r) more
      scanned_next {r} p = record {
        pends = λ t n Θ out w tb a f.
            let v = first t n Θ out w tb a f in record { left = v.rest; listed = v.others; says = goes_on (Some r) p t n Θ out w tb a f };
        keyed = keys.1;
      }

    pub scanned_end : rest ≡ [] → NewPost s st nx lent child (Some new)
    scanned_end e = record {
      says = λ t n Θ out w tb a f.
          let q = sc.pends t n Θ out w tb a f in
          let l = at_none t Θ q.left (rw e at q.listed) in
          sym (q.says ∙ ap (λ (ks : Forest). pending new ks w) l ∙ pending_end new w);
    }

-- ---- what becomes of a child at place c
pub record Says (s st nx : List ℕ) (neutral determinant : ℕ) (lent : List KeptChild) (c : ℕ) (v : Verdict) : Type 0 where
  pub judges : (t : Tree) (n : ℕ) (Θ : Ctx) (out : Forest) (w : Tree) → Table s t st nx n → At t Θ (places_of lent) out
      → find t [] c ≡ found Θ w → verdict neutral determinant out w ≡ v

-- what it is beside those kept
abbrev pub of_pending : Option Bool → Verdict
of_pending None = decides
of_pending (Some r) = pick r keeps drops

judged_pending : (b x : Bool) → pick b decides (pick x drops keeps) ≡ of_pending (pick b None (Some (true && not x)))
judged_pending true x = refl
judged_pending false true = refl
judged_pending false false = refl

module _ {s st nx : List ℕ} {neutral determinant : ℕ} {lent : List KeptChild} {c tag : ℕ} (post : TagPost s st c tag) where
  pub says_determinant : tag ≡ determinant → (neutral ≡ determinant → ⊥) → Says s st nx neutral determinant lent c decides
  unfolding verdict
  says_determinant e d = record {
    judges = λ t n Θ out w tb a f.
        let z : tag_of w ≡ determinant = sym (post.tag t n Θ w tb.framed f) ∙ e in
        rw (z, ne_eqb determinant neutral (λ q. d (sym q)), eq-eqb determinant determinant refl) refl;
  }

  pub says_neutral : tag ≡ neutral → Says s st nx neutral determinant lent c drops
  unfolding verdict
  says_neutral e = record {
    judges = λ t n Θ out w tb a f.
        let z : tag_of w ≡ neutral = sym (post.tag t n Θ w tb.framed f) ∙ e in rw (z, eq-eqb neutral neutral refl) refl;
  }

  pub says_pending : (tag ≡ determinant → ⊥) → (tag ≡ neutral → ⊥) → (child : KeptChild) → child.place ≡ c → {r : Option Bool} → NewPost s st nx lent child r
      → Says s st nx neutral determinant lent c (of_pending r)
  unfolding verdict
  says_pending d e child ec {r} p = record {
    judges = λ t n Θ out w tb a f.
        let z : tag_of w ≡ tag = sym (post.tag t n Θ w tb.framed f) in
        rw (z, ne_eqb tag neutral e, ne_eqb tag determinant d, p.says t n Θ out w tb a (rw ec f))
        (judged_pending (contains (make_neg w) out) (contains w out));
  }

-- ---- all children: those at these places are left
scan_by : (neutral determinant : ℕ) (v : Verdict) (all rest out : Forest) (w : Tree) → scan neutral determinant all nil ≡ scan neutral determinant (cons w rest) out
    → verdict neutral determinant out w ≡ v
    → scan neutral determinant all nil ≡ after_verdict v w out (λ o. scan neutral determinant rest o)
unfolding scan
scan_by neutral determinant v all rest out w goes e = goes ∙ ap (λ (y : Verdict). after_verdict y w out (λ o. scan neutral determinant rest o)) e

-- the lent list has what the scan has kept
pub record Scan (neutral determinant : ℕ) (lent : List KeptChild) (t : Tree) (Θ : Ctx) (ks : Forest) (c : ℕ) (rest : Forest) : Type 0 where
  pub out : Forest
  pub listed : At t Θ (places_of lent) out
  pub goes : scan neutral determinant ks nil ≡ scan neutral determinant rest out

abbrev pub States : List ℕ → List ℕ → List ℕ → ℕ → ℕ → ℕ → List KeptChild → List ℕ → Type 0
States s st nx k neutral determinant lent = LeftsIn s st nx k (Scan neutral determinant lent)

module _ {s st nx : List ℕ} {k neutral determinant : ℕ} where
  pub states_first : (places : List ℕ) → ChildrenOf s st nx k places → States s st nx k neutral determinant [] places
  unfolding At
  states_first = first_in s st nx k (Scan neutral determinant []) (λ t Θ ks. record { out = nil; listed = tt; goes = refl })

  module _ {lent : List KeptChild} {places : List ℕ} (sts : States s st nx k neutral determinant lent places) where
    module _ {c : ℕ} {more : List ℕ} (e : places ≡ c ∷ more) where
      pub turn_here : JunctionPre s st nx k → InTree s st nx c
      turn_here pre = tree_in s st nx k (Scan neutral determinant lent) places sts c more e pre.t pre.n pre.Γ pre.g pre.x pre.us pre.ks pre.table pre.there

      pub turn_new : JunctionPre s st nx k → (one : KeptChild) → one.place ≡ c → Keyed s st nx (one ∷ lent) → NewPre s st nx lent one
      turn_new pre one ec keyed =
          let v = child_in s st nx k (Scan neutral determinant lent) places sts c more e pre.t pre.n pre.Γ pre.g pre.x pre.us pre.ks pre.table pre.there in
          record {
            t = pre.t;
            n = pre.n;
            Θ = under pre.g pre.us pre.Γ;
            out = v.keeps.out;
            w = v.w;
            table = pre.table;
            listed = v.keeps.listed;
            there = rw ec v.there;
            keyed = keyed;
          }

      -- what is known of the child, by the verdict on it
      abbrev Judged : Verdict → Tree → Ctx → Tree → Type 0
      Judged v t Θ w = (find t [] c ≡ found Θ w) × ((out : Forest) → At t Θ (places_of lent) out → verdict neutral determinant out w ≡ v)

      judged : (v : Verdict) → Says s st nx neutral determinant lent c v → (t : Tree) (n : ℕ) (Θ : Ctx) (w : Tree) → Table s t st nx n
          → find t [] c ≡ found Θ w → Judged v t Θ w
      judged v says t n Θ w tb f = (f, λ out a. says.judges t n Θ out w tb a f)

      pub turn_decides : (list : List KeptChild) → ((neutral ≡ determinant → ⊥) → Says s st nx neutral determinant lent c decides)
          → AbsorbPost s st nx k neutral determinant list None
      turn_decides list says = record {
        scanned = λ d. stop_in s st nx k (Scan neutral determinant lent) places sts c more e (Judged decides) (judged decides (says d))
            (λ t Θ ks. Absorbed t Θ list None (scan neutral determinant ks nil))
            (λ t Θ ks w others r p. scan_by neutral determinant decides ks others p.out w p.goes (r.1 p.out p.listed));
      }

      pub turn_drops : Says s st nx neutral determinant lent c drops → States s st nx k neutral determinant lent more
      turn_drops says =
          next_in s st nx k (Scan neutral determinant lent) places sts c more e (Judged drops) (judged drops says) (Scan neutral determinant lent)
          (λ t Θ ks w others r p. record {
            out = p.out;
            listed = p.listed;
            goes = scan_by neutral determinant drops ks others p.out w p.goes (r.1 p.out p.listed);
          })

      pub turn_keeps : Says s st nx neutral determinant lent c keeps → (one : KeptChild) → one.place ≡ c → States s st nx k neutral determinant (lent ++ (one ∷ [])) more
      turn_keeps says one ec =
          next_in s st nx k (Scan neutral determinant lent) places sts c more e (Judged keeps) (judged keeps says) (Scan neutral determinant (lent ++ (one ∷ [])))
          (λ t Θ ks w others r p. record {
            out = append p.out (cons w nil);
            listed = rw (map-append (λ (y : KeptChild). y.place) lent (one ∷ [])) (at_more t Θ (places_of lent) p.out one.place w p.listed (rw ec r.0));
            goes = scan_by neutral determinant keeps ks others p.out w p.goes (r.1 p.out p.listed);
          })

    pub turn_end : places ≡ [] → AbsorbPost s st nx k neutral determinant lent (Some tt)
    unfolding scan
    turn_end e = record {
      scanned = λ d. end_in s st nx k (Scan neutral determinant lent) places sts e (λ t Θ ks. Absorbed t Θ lent (Some tt) (scan neutral determinant ks nil))
          (λ t Θ ks c p. (p.out, p.goes, p.listed));
    }

-- one place less
pub one_less : {places more : List ℕ} {c : ℕ} → places ≡ c ∷ more → length places ≡ 1 + length more
one_less e = let z = ap (λ (l : List ℕ). length l) e in omega arith

-- the keys of those kept, and of one more
pub keyed_more : {s st nx : List ℕ} (lent : List KeptChild) (one : KeptChild) → Keyed s st nx lent → KeyPost s st nx one.place one.key
    → Keyed s st nx (lent ++ (one ∷ []))
keyed_more [] one ks p = (p, tt)
keyed_more (child ∷ others) one ks p = (ks.0, keyed_more others one ks.1 p)
