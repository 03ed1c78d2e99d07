-- The ways out of the functions of src/inter/singles.rt.
-- Main results: single_no, single_arity; count_done (count_singles); first_done (first_single).
use mathlib.Core.Path.{◌≡◌, refl, sym, ap, ◌∙◌}
use mathlib.Core.Bool.{Bool, true, false}
use mathlib.Core.List.{List, [], ◌∷◌}
use Prim.Native.Nat.{ℕ, suc, ◌+◌, ◌<◌}
use native.Mathlib.Omega.{arith}
use lib.Dec.{eqb}
use lib.ListN.{length}
use borrow.Author.Tests.{eq-eqb, ne_eqb, eqb-true}
use Rattle.frame.specs.Types.{Ty}
use Rattle.frame.specs.Trees.{head, Tree, node, Forest, nil, cons, count, tag_of, many, sole, append}
use Rattle.frame.specs.Tags.{pick, Sort, lookup, class_of, form_at}
use Rattle.frame.specs.WellFormed.{Wf}
use Rattle.std.specs.Prelude.{Option, Some, None, MatchOption}
use Rattle.std.specs.Int.{from_bool}
use Rattle.std.specs.List.{HoldsAt, AllWithin}
use Rattle.frame.specs.Places.{Ctx, under, found, find}
use Rattle.nav.specs.declared.Places.{Places}
use Rattle.nav.specs.PlaceTables.{arity, Table, TagPost, ArityPost, ChildrenOf}
use Rattle.nav.specs.AtPlaces.{CountedAt}
use Rattle.nav.proofs.Hops.{Sorted, place_sorted}
use Rattle.rules.specs.EqualsEmptySet.{none, is_single, single_of, sole_of, any_single}
use Rattle.nav.proofs.ChildPlaces.{FirstChild, first_child}
use Rattle.nav.proofs.CountTurns.{counted_children}
use Rattle.rewriter.specs.Inter.{SinglePost, count_singles, CountPost, SingleAt, FirstPost}

-- ---- a set of one member
not_single : (v : Tree) → (tag_of v ≡ 5 → ⊥) → false ≡ is_single (single_of v)
not_single (node (head g n us) ks) d = simp (ne_eqb g 5 d)

sole_count : (ks : Forest) → eqb (count ks) 1 ≡ is_single (sole_of ks)
sole_count nil = refl
sole_count (cons a nil) = refl
sole_count (cons a (cons b ks)) = ne_eqb (suc (suc (count ks))) 1 (λ q. omega arith)

is_single_lem : (v : Tree) → tag_of v ≡ 5 → eqb (arity v) 1 ≡ is_single (single_of v)
is_single_lem (node (head g n us) ks) e = simp (eq-eqb g 5 e) (sole_count ks)

module _ (s st : List ℕ) (k tag : ℕ) (post : TagPost s st k tag) where
  pub single_no : (tag ≡ 5 → ⊥) → SinglePost s st k false
  single_no d = record { single = λ t n Γ v fr f. not_single v (λ z. d (post.tag t n Γ v fr f ∙ z)) }

  pub single_arity : tag ≡ 5 → (r : ℕ) → ArityPost s st k r → SinglePost s st k (eqb r 1)
  single_arity e r many = record {
    single = λ t n Γ v fr f.
        ap (λ (i : ℕ). eqb i 1) (many.many t n Γ v fr f) ∙ is_single_lem v (sym (post.tag t n Γ v fr f) ∙ e);
  }

-- it has no payload and no types
single_of_lem : (n : ℕ) (us : List Ty) (ks : Forest) (e : Sort) → Wf (node (head 5 n us) ks) e → true ≡ is_single (sole_of ks)
    → (a : Tree) × (node (head 5 n us) ks ≡ many 5 (sole a))
unfolding lookup class_of form_at
single_of_lem n us nil e w q = let z : ◌≡◌ {A = ℕ} 0 1 = cc in absurd (omega arith)
single_of_lem n [] (cons a nil) e w q = let z : 0 ≡ n = w.0.own in (a, ap (λ (i : ℕ). node (head 5 i []) (cons a nil)) (sym z))
single_of_lem n (u ∷ us) (cons a nil) e w q = let z : suc (length us) ≡ 0 = w.0.many in absurd (omega arith)
single_of_lem n us (cons a (cons b ks)) e w q = let z : ◌≡◌ {A = ℕ} 0 1 = cc in absurd (omega arith)

single_shape : (v : Tree) → Sorted v → true ≡ is_single (single_of v) → (a : Tree) × (v ≡ many 5 (sole a))
single_shape (node (head g n us) ks) o q = go (eqb g 5) refl q
  where
    go : (b : Bool) → eqb g 5 ≡ b → true ≡ is_single (pick b (sole_of ks) none) → (a : Tree) × (node (head g n us) ks ≡ many 5 (sole a))
    go true h p =
        let z : g ≡ 5 = eqb-true g 5 h in
        let r = single_of_lem n us ks o.0 (rw z at o.1) p in
        (r.0, ap (λ (i : ℕ). node (head i n us) ks) z ∙ r.1)
    go false h p = let z : ◌≡◌ {A = ℕ} 0 1 = cc in absurd (omega arith)

-- ---- how many there are
as_number : (b : Bool) → from_bool b ≡ pick b 1 0
as_number true = refl
as_number false = refl

pub count_done : (p : Places) (k : ℕ) (gives : ℕ → Bool → Type 0) → ((c : ℕ) (b : Bool) → gives c b → SinglePost p.bytes.now p.starts.now c b) → (m : ℕ)
    → CountedAt gives p k m → CountPost p.bytes.now p.starts.now p.nexts.now k m
unfolding count_singles
count_done p k gives known m h = record {
  counted = λ t n Γ g x us ks tb f.
      counted_children gives t count_singles refl
      (λ c Θ w fw b a ls. ap (λ (i : ℕ). i + count_singles ls) (sym (as_number b ∙ ap (λ (o : Bool). pick o 1 0) ((known c b a).single t n Θ w tb.framed fw))))
      p n tb k Γ g x us ks f m h;
}

module _ (s st nx : List ℕ) (k : ℕ) where
  -- ---- where the first is
  pub first_done : (places : List ℕ) → ChildrenOf s st nx k places → (r : Option ℕ)
      → MatchOption r (AllWithin (λ c. SinglePost s st c false) places 0 (length places))
      (λ x. SinglePost s st x true × (i : ℕ) × (i < length places) × HoldsAt (λ y. y ≡ x) places i
      × AllWithin (λ c. SinglePost s st c false) places 0 i)
      → FirstPost s st nx k r
  unfolding any_single
  first_done places post r m = record {
    first = λ t n Γ g x us ks tb f.
        single_first t n Γ g x us ks tb f r
        (first_child t (λ w. is_single (single_of w)) any_single refl (λ w ws. refl) (λ c. SinglePost s st c true) (λ c. SinglePost s st c false)
        (λ c Θ w fw p. p.single t n Θ w tb.framed fw) (λ c Θ w fw p. p.single t n Θ w tb.framed fw) k Γ g x us ks f places
        (post.are t n Γ (node (head g x us) ks) tb f) r m);
  }
    where
      single_first : (t : Tree) (n : ℕ) (Γ : Ctx) (g x : ℕ) (us : List Ty) (ks : Forest) → Table s t st nx n → find t [] k ≡ found Γ (node (head g x us) ks)
          → (r : Option ℕ) → MatchOption r (any_single ks ≡ false) (λ p. SinglePost s st p true × FirstChild t any_single (under g us Γ) ks (k + 1) p)
          → MatchOption r (any_single ks ≡ false) (λ p. SingleAt (k + 1) p ks)
      single_first t n Γ g x us ks tb f None m = m
      single_first t n Γ g x us ks tb f (Some p) m =
          let q = m.1 in
          let v = single_shape q.w (place_sorted s t st n tb.framed p (under g us Γ) q.w q.there) (m.0.single t n (under g us Γ) q.w tb.framed q.there) in
          record {
            a = v.0;
            left = q.left;
            right = q.right;
            is = q.is ∙ ap (λ (w : Tree). append q.left (cons w q.right)) v.1;
            none = q.before;
            there = q.at;
          }
