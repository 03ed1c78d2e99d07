-- The ways out of the functions of src/inter.rt.
-- Main results: minus_tag; inter_tree, inter_placed, inter_child; any_done (any_minus); apart_none, apart_some, apart_other (apart_at);
-- inter_apart, inter_within, inter_rests (decide_inter).
use mathlib.Core.Path.{◌≡◌, refl, sym, ap, ◌∙◌}
use mathlib.Core.Bool.{Bool, true, false, not, ◌||◌}
use mathlib.Core.List.{List, []}
use Prim.Native.Nat.{ℕ, suc, ◌+◌, ◌<◌}
use native.Mathlib.Omega.{arith}
use lib.Dec.{eqb, eqb-suc-suc}
use lib.ListN.{length, get_or}
use borrow.Author.Tests.{ne_eqb, eqb-true}
use Rattle.frame.specs.Types.{Ty}
use Rattle.frame.specs.Trees.{head, Tree, node, Forest, nil, cons, count, tag_of, two, many, sole, append}
use Rattle.frame.specs.Tags.{pick, Sort, lookup, class_of, form_at}
use Rattle.frame.specs.Operators.{#SetExt, #BInter, #BUnion, #SubsetEq}
use Rattle.frame.specs.WellFormed.{Wf}
use Rattle.frame.specs.Places.{Ctx, found, find}
use Rattle.frame.proofs.Splices.{find_lt}
use Rattle.std.specs.Prelude.{Some, None}
use Rattle.std.specs.Bool.{MatchBool}
use Rattle.std.specs.List.{HoldsAt, AllWithin}
use Rattle.nav.specs.PlaceTables.{Table, Placed, InTree, TagPost, ArityPost, ChildrenOf}
use Rattle.nav.proofs.ChildPlaces.{any_child, child_placed}
use Rattle.decision.proofs.Shapes.{tree_placed}
use Rattle.nav.proofs.Hops.{Sorted, place_sorted}
use Rattle.rules.specs.Change.{to, same, when, joined}
use Rattle.rules.specs.EqualsEmptySet.{
  Single,
  single,
  none,
  is_single,
  single_of,
  any_single,
  Singled,
  singled,
  none_singled,
  besides,
  or_next,
  first_single,
  inter_single,
  is_minus,
  minus_of,
  any_minus,
  minuends,
  subtrahends,
  inter_empty,
}
use Rattle.decision.specs.Decision.{ApartMeans}
use Rattle.rewriter.specs.Inter.{MinusPost, InterPre, AnyMinusPost, count_singles, CountPost, SingleAt, FirstPost, ApartPost, apart_when, InterPost}
use Rattle.decision.specs.declared.Decision.TheVariants as D

-- ---- a difference has two operands
minus_of_lem : (n : ℕ) (us : List Ty) (ks : Forest) (e : Sort) → Wf (node (head 213 n us) ks) e → true ≡ is_minus (minus_of (node (head 213 n us) ks))
unfolding lookup class_of form_at
minus_of_lem n us nil e w = absurd w.1
minus_of_lem n us (cons a nil) e w = absurd w.1.1
minus_of_lem n us (cons a (cons b nil)) e w = refl
minus_of_lem n us (cons a (cons b (cons c ks))) e w = absurd w.1.1.1

minus_is : (v : Tree) → Sorted v → (b : Bool) → eqb (tag_of v) 213 ≡ b → b ≡ is_minus (minus_of v)
minus_is (node (head g n us) ks) o true e =
    let z : g ≡ 213 = eqb-true g 213 e in
    rw z (minus_of_lem n us ks o.0 (rw z at o.1))
minus_is (node (head g n us) ks) o false e = simp e

pub minus_tag : (s st : List ℕ) (k tag : ℕ) → TagPost s st k tag → MinusPost s st k (eqb tag 213)
minus_tag s st k tag post = record {
  minus = λ t n Γ v fr f.
      minus_is v (place_sorted s t st n fr k Γ v f) (eqb tag 213) (ap (λ (i : ℕ). eqb i 213) (sym (post.tag t n Γ v fr f)));
}

-- ---- the children of an ∩
module _ (s st nx : List ℕ) (k : ℕ) where
  pub inter_tree : InterPre s st nx k → InTree s st nx k
  inter_tree pre = record {
    t = pre.t;
    n = pre.n;
    table = pre.table;
    below = find_lt pre.t [] k pre.Γ (node (head 302 pre.x pre.us) pre.ks) pre.there;
  }

  pub inter_placed : InterPre s st nx k → Placed s st k
  inter_placed pre = tree_placed (inter_tree pre)

  -- a child that a test comes to
  pub inter_child : InterPre s st nx k → (places : List ℕ) → ChildrenOf s st nx k places → (c i : ℕ) → i < length places → c ≡ get_or places i c
      → Placed s st c
  inter_child pre places post c i h e = tree_placed (child_placed s st nx k (inter_tree pre) places post c i h e)

  pub any_done : (places : List ℕ) → ChildrenOf s st nx k places → (r : Bool)
      → MatchBool r ((i : ℕ) × (i < length places) × HoldsAt (λ c. MinusPost s st c true) places i)
      (AllWithin (λ c. MinusPost s st c false) places 0 (length places))
      → AnyMinusPost s st nx k r
  unfolding any_minus
  any_done places post r m = record {
    any = λ t n Γ g x us ks tb f.
        any_child t (λ w. is_minus (minus_of w)) any_minus refl (λ w ws. refl) (λ c. MinusPost s st c true) (λ c. MinusPost s st c false)
        (λ c Θ w fw p. p.minus t n Θ w tb.framed fw) (λ c Θ w fw p. p.minus t n Θ w tb.framed fw) k Γ g x us ks f places
        (post.are t n Γ (node (head g x us) ks) tb f) r m;
  }

-- ---- the first set of one member, and how many there are
abbrev Counted : Singled → Forest → Type 0
Counted (singled a rest) ks = (count ks ≡ suc (count rest)) × (count_singles ks ≡ suc (count_singles rest))
Counted none_singled ks = count_singles ks ≡ 0

counted_next : (x : Single) (k : Tree) (ks : Forest) (f : Singled) → single_of k ≡ x → Counted f ks → Counted (or_next x k ks f) (cons k ks)
unfolding count_singles
counted_next (single a) k ks f e h = (refl, rw e (omega arith))
counted_next none k ks (singled a rest) e h = (ap suc h.0, rw e (omega (arith, h.1)))
counted_next none k ks none_singled e h = rw e (omega arith)

counted : (ks : Forest) → Counted (first_single ks) ks
unfolding first_single count_singles
counted nil = refl
counted (cons k ks) = counted_next (single_of k) k ks (first_single ks) refl (counted ks)

none_counted : (ks : Forest) → not (any_single ks) ≡ eqb (count_singles ks) 0
unfolding any_single count_singles
none_counted nil = refl
none_counted (cons k ks) = go (is_single (single_of k)) (none_counted ks)
  where
    go : (b : Bool) → not (any_single ks) ≡ eqb (count_singles ks) 0 → not (b || any_single ks) ≡ eqb (pick b 1 0 + count_singles ks) 0
    go true h = sym (ne_eqb (1 + count_singles ks) 0 (λ q. omega arith))
    go false h = let z : 0 + count_singles ks ≡ count_singles ks = omega arith in rw z h

-- the test of the code is that of the definition
apart_others : (n m : ℕ) → apart_when (suc n) (suc m) ≡ (eqb n 1 || eqb m 0)
apart_others n m =
    rw (ne_eqb (suc m) 0 (λ q. omega arith), eqb-suc-suc n 1, eqb-suc-suc m 0) (go (eqb n 1))
  where
    go : (b : Bool) → pick b true (eqb m 0) ≡ (b || eqb m 0)
    go true = refl
    go false = refl

apart_when_lem : (a : Tree) (rest ks : Forest) → Counted (singled a rest) ks
    → (eqb (count rest) 1 || not (any_single rest)) ≡ apart_when (count ks) (count_singles ks)
apart_when_lem a rest ks h = rw (none_counted rest, h.0, h.1) (sym (apart_others (count rest) (count_singles rest)))

apart_not : (f : Singled) (ks : Forest) → Counted f ks → apart_when (count ks) (count_singles ks) ≡ false → inter_single f ≡ same
apart_not (singled a rest) ks h e = rw (apart_when_lem a rest ks h ∙ e)
apart_not none_singled ks h e = refl

first_at : (a : Tree) (left right : Forest) → any_single left ≡ false
    → first_single (append left (cons (many #SetExt (sole a)) right)) ≡ singled a (append left right)
unfolding any_single first_single
first_at a nil right h = refl
first_at a (cons k left) right h = go (single_of k) h (first_at a left right)
  where
    go : (x : Single) → (is_single x || any_single left) ≡ false
        → (any_single left ≡ false → first_single (append left (cons (many #SetExt (sole a)) right)) ≡ singled a (append left right))
        → or_next x k (append left (cons (many #SetExt (sole a)) right))
        (first_single (append left (cons (many #SetExt (sole a)) right))) ≡ singled a (cons k (append left right))
    go (single b) e ih = let z : ◌≡◌ {A = ℕ} 0 1 = cc in absurd (omega arith)
    go none e ih = ap (besides k) (ih e)

-- ---- the ways out of apart_at
module _ (s st nx : List ℕ) (k : ℕ) where
  pub apart_none : FirstPost s st nx k None → ApartPost s st nx k None
  apart_none first = record {
    apart = λ t n Γ g x us ks tb f.
        let z : eqb (count_singles ks) 0 ≡ true = sym (none_counted ks) ∙ ap not (first.first t n Γ g x us ks tb f) in
        rw z;
  }

  module _ (p r m : ℕ) (first : FirstPost s st nx k (Some p)) (many : ArityPost s st k r) (singles : CountPost s st nx k m) where
    apart_is : (t : Tree) (n : ℕ) (Γ : Ctx) (g x : ℕ) (us : List Ty) (ks : Forest) → Table s t st nx n → find t [] k ≡ found Γ (node (head g x us) ks)
        → apart_when (count ks) (count_singles ks) ≡ apart_when r m
    apart_is t n Γ g x us ks tb f =
        let z : r ≡ count ks = many.many t n Γ (node (head g x us) ks) tb.framed f in
        let y : m ≡ count_singles ks = singles.counted t n Γ g x us ks tb f in
        rw (z, y)

    pub apart_some : apart_when r m ≡ true → ApartPost s st nx k (Some p)
    apart_some e = record {
      apart = λ t n Γ g x us ks tb f. (apart_is t n Γ g x us ks tb f ∙ e, first.first t n Γ g x us ks tb f);
    }

    pub apart_other : apart_when r m ≡ false → ApartPost s st nx k None
    apart_other e = record { apart = λ t n Γ g x us ks tb f. apart_is t n Γ g x us ks tb f ∙ e }

-- ---- the ways out of decide_inter
module _ (s st nx : List ℕ) (k : ℕ) where
  pub inter_apart : (p : ℕ) → ApartPost s st nx k (Some p) → InterPost s st nx k (Some (D.Apart k p))
  unfolding inter_empty
  inter_apart p apart = record {
    means = λ t n Γ x us ks tb f w Ξ kept. (let q = apart.apart t n Γ 302 x us ks tb f in go t n Γ x us ks tb f q.0 q.1);
  }
    where
      go : (t : Tree) (n : ℕ) (Γ : Ctx) (x : ℕ) (us : List Ty) (ks : Forest) → Table s t st nx n → find t [] k ≡ found Γ (node (head 302 x us) ks)
          → apart_when (count ks) (count_singles ks) ≡ true → SingleAt (k + 1) p ks → ApartMeans t k p (inter_empty ks)
      go t n Γ x us ks tb f h q =
          let rest : Forest = append q.left q.right in
          let z : first_single ks ≡ singled q.a rest = ap first_single q.is ∙ first_at q.a q.left q.right q.none in
          let c : Counted (singled q.a rest) ks = rw z at (counted ks) in
          let b : (eqb (count rest) 1 || not (any_single rest)) ≡ true = apart_when_lem q.a rest ks c ∙ h in
          record {
            a = q.a;
            left = q.left;
            right = q.right;
            Ξ = Γ;
            n = x;
            vs = us;
            at_node = rw q.is at f;
            there = q.there;
            answer = rw (z, b);
          }

  module _ (apart : ApartPost s st nx k None) where
    inter_is : (t : Tree) (n : ℕ) (Γ : Ctx) (x : ℕ) (us : List Ty) (ks : Forest) → Table s t st nx n → find t [] k ≡ found Γ (node (head 302 x us) ks)
        → inter_empty ks ≡ when (any_minus ks) (to 38 (two #SubsetEq (joined #BInter (minuends ks)) (joined #BUnion (subtrahends ks))))
    unfolding inter_empty
    inter_is t n Γ x us ks tb f = rw (apart_not (first_single ks) ks (counted ks) (apart.apart t n Γ 302 x us ks tb f))

    pub inter_within : (o : Bool) → AnyMinusPost s st nx k o → o ≡ true → InterPost s st nx k (Some (D.Within k))
    inter_within o post eo = record {
      means = λ t n Γ x us ks tb f w Ξ kept.
          let z : any_minus ks ≡ true = sym (post.any t n Γ 302 x us ks tb f) ∙ eo in
          record { ks = ks; Ξ = Γ; n = x; vs = us; at_node = f; answer = inter_is t n Γ x us ks tb f ∙ rw z };
    }

    pub inter_rests : (o : Bool) → AnyMinusPost s st nx k o → o ≡ false → InterPost s st nx k None
    inter_rests o post eo = record {
      means = λ t n Γ x us ks tb f w Ξ kept.
          let z : any_minus ks ≡ false = sym (post.any t n Γ 302 x us ks tb f) ∙ eo in
          inter_is t n Γ x us ks tb f ∙ rw z;
    }
