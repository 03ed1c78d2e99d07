-- Answers of rules, and what a tag says of an accepted tree that bears it.
-- Main results: or_else_lem, by_test, by_pick, is_map (an answer of the parts is one of the whole); on_one, on_two, on_many, on_typed,
-- on_binder, on_bodied (at a tag: the exact head, and the children are accepted); is_leaf, is_many, is_one, is_two, is_typed_lem (the
-- same where only the tag was tested).
use mathlib.Core.Path.{◌≡◌, refl, sym, ap, ◌∙◌, subst, ap₂}
use mathlib.Core.Bool.{Bool, true, false, ◌&&◌, ◌||◌}
use mathlib.Core.List.{List, [], ◌∷◌}
use Prim.Native.Nat.{ℕ, suc, ◌≤◌}
use native.Mathlib.Omega.{arith}
use lib.ListN.{length}
use lib.Dec.{eqb, leb}
use borrow.Author.Tests.{eqb-true, leb-true}
use Rattle.frame.specs.Types.{Ty}
use Rattle.frame.specs.Trees.{head, Tree, node, Forest, nil, cons, count, leaf, one, two, many, typed, sole, pair, quantified, bodied}
use Rattle.frame.specs.Tags.{pick, Sort, Layout, these, payload, counted, binding, form_of, number_of, payload_of, types_of, sorts_of, in_range, binders_of}
use Rattle.frame.specs.Places.{Ctx, push}
use Rattle.frame.proofs.Inversion.{true_not}
use Rattle.frame.proofs.Booleans.{both_true}
use Rattle.frame.proofs.Forests.{no_kids, no_members}
use Rattle.typing.specs.Typing.{shape, carried_ty}
use Rattle.typing.specs.Accepted.{Accepted, AcceptedAll}
use Rattle.rules.specs.Change.{Change, to, same, ◌or_else◌, when, is_tag, on_tag}

-- ---- answers: where there is one, R holds of its rule and its tree
pub data Is (R : ℕ → Tree → Type 0) : Change → Type 0 where
  gives : {p : ℕ} {u : Tree} → R p u → Is R (to p u)
  nothing : Is R same

pub given_by : {R : ℕ → Tree → Type 0} {p : ℕ} {u : Tree} → Is R (to p u) → R p u
given_by (gives r) = r

pub or_else_lem : {R : ℕ → Tree → Type 0} {c d : Change} → Is R c → Is R d → Is R (c or_else d)
or_else_lem {c = to p u} x y = x
or_else_lem {c = same} x y = y

pub by_test : {R : ℕ → Tree → Type 0} {c : Change} (b : Bool) → (b ≡ true → Is R c) → Is R (when b c)
by_test true f = f refl
by_test false f = nothing

pub by_pick : {R : ℕ → Tree → Type 0} {c d : Change} (b : Bool) → (b ≡ true → Is R c) → (b ≡ false → Is R d) → Is R (pick b c d)
by_pick true f g = f refl
by_pick false f g = g refl

pub is_map : {R S : ℕ → Tree → Type 0} {c : Change} → ((p : ℕ) (u : Tree) → R p u → S p u) → Is R c → Is S c
is_map f (gives {p} {u} r) = gives (f p u r)
is_map f nothing = nothing

-- one of two tests passed
pub either {ℓ} : {X : Type ℓ} (a b : Bool) → (a || b) ≡ true → (a ≡ true → X) → (b ≡ true → X) → X
either true b h f g = f refl
either false b h f g = g h

-- ---- accepted, at some sort
pub record Ok (σ : ℕ → Ty) (Γ : Ctx) (t : Tree) : Type 0 where
  pub sort : Sort
  pub ok : Accepted σ t Γ sort

abbrev pub OkAll : (ℕ → Ty) → Ctx → Forest → Type 0
OkAll σ Γ nil = Unit {0}
OkAll σ Γ (cons t ts) = Ok σ Γ t × OkAll σ Γ ts

all_ok : (σ : ℕ → Ty) (Γ : Ctx) (ks : Forest) (es : List Sort) → AcceptedAll σ ks Γ es → OkAll σ Γ ks
unfolding Accepted
all_ok σ Γ nil es a = tt
all_ok σ Γ (cons t ts) [] a = absurd a
all_ok σ Γ (cons t ts) (e ∷ es) a = (record { sort = e; ok = a.0 }, all_ok σ Γ ts es a.1)

all_count : (σ : ℕ → Ty) (Γ : Ctx) (ks : Forest) (es : List Sort) → AcceptedAll σ ks Γ es → count ks ≡ length es
unfolding Accepted
all_count σ Γ nil [] a = refl
all_count σ Γ nil (e ∷ es) a = absurd a
all_count σ Γ (cons t ts) [] a = absurd a
all_count σ Γ (cons t ts) (e ∷ es) a = ap suc (all_count σ Γ ts es a.1)

-- ---- forms, by a test that computes at each tag: m types of its own and k children; at least m children and no type;
-- binders and k children
abbrev pub fixed : ℕ → ℕ → Layout → ℕ → Bool
fixed m k (these es) c = eqb c m && eqb (length es) k
fixed m k (payload w) c = false
fixed m k (counted lo hi e) c = false
fixed m k (binding lo hi es) c = false

abbrev pub listing : ℕ → Layout → ℕ → Bool
listing m (these es) c = false
listing m (payload w) c = false
listing m (counted lo hi e) c = eqb c 0 && eqb m lo
listing m (binding lo hi es) c = false

abbrev pub binds : ℕ → Layout → Bool
binds k (these es) = false
binds k (payload w) = false
binds k (counted lo hi e) = false
binds k (binding lo hi es) = eqb (length es) k

-- what such a form says of an accepted node
record Fixed (σ : ℕ → Ty) (Γ : Ctx) (m k n : ℕ) (us : List Ty) (ks : Forest) : Type 0 where
  number : n ≡ 0
  types : length us ≡ m
  kids : count ks ≡ k
  each : OkAll σ Γ ks

record Listing (σ : ℕ → Ty) (Γ : Ctx) (m n : ℕ) (us : List Ty) (ks : Forest) : Type 0 where
  number : n ≡ 0
  types : length us ≡ 0
  kids : m ≤ count ks
  each : OkAll σ Γ ks

record Binds (σ : ℕ → Ty) (Γ : Ctx) (k n : ℕ) (us : List Ty) (ks : Forest) : Type 0 where
  number : n ≡ 0
  kids : count ks ≡ k
  each : OkAll σ (push us Γ) ks

module _ (σ : ℕ → Ty) (Γ : Ctx) (g n : ℕ) (us : List Ty) (ks : Forest) (a : Ok σ Γ (node (head g n us) ks)) where
  fixed_node : (m k : ℕ) → fixed m k (form_of g).layout (form_of g).carried ≡ true → Fixed σ Γ m k n us ks
  unfolding Accepted
  fixed_node m k h = go (form_of g).layout (form_of g).carried h a.ok.top.formed.own a.ok.top.formed.many a.ok.kids
    where
      go : (l : Layout) (c : ℕ) → fixed m k l c ≡ true → payload_of l (number_of l n (length us) (count ks)) ≡ n
          → length us ≡ types_of l c (number_of l n (length us) (count ks))
          → AcceptedAll σ ks (push (binders_of l us) Γ) (sorts_of l (number_of l n (length us) (count ks))) → Fixed σ Γ m k n us ks
      go (these es) c h p q r =
          let b = both_true (eqb c m) (eqb (length es) k) h in
          record {
            number = sym p;
            types = q ∙ eqb-true c m b.0;
            kids = all_count σ Γ ks es r ∙ eqb-true (length es) k
                b.1;
            each = all_ok σ Γ ks es r;
          }
      go (payload w) c h p q r = true_not h
      go (counted lo hi e) c h p q r = true_not h
      go (binding lo hi es) c h p q r = true_not h

  listing_node : (m : ℕ) → listing m (form_of g).layout (form_of g).carried ≡ true → Listing σ Γ m n us ks
  unfolding Accepted
  listing_node m h =
      go (form_of g).layout (form_of g).carried h a.ok.top.formed.own a.ok.top.formed.many a.ok.top.formed.range a.ok.kids
    where
      go : (l : Layout) (c : ℕ) → listing m l c ≡ true → payload_of l (number_of l n (length us) (count ks)) ≡ n
          → length us ≡ types_of l c (number_of l n (length us) (count ks)) → in_range l (number_of l n (length us) (count ks)) ≡ true
          → AcceptedAll σ ks (push (binders_of l us) Γ) (sorts_of l (number_of l n (length us) (count ks))) → Listing σ Γ m n us ks
      go (these es) c h p q i r = true_not h
      go (payload w) c h p q i r = true_not h
      go (counted lo hi e) c h p q i r =
          let b = both_true (eqb c 0) (eqb m lo) h in
          let d = both_true (leb lo (count ks)) (leb (count ks) hi) i in
          record {
            number = sym p;
            types = q ∙ eqb-true c 0 b.0;
            kids = omega (arith, leb-true lo (count ks) d.0, eqb-true m lo b.1);
            each = all_ok σ Γ ks _ r;
          }
      go (binding lo hi es) c h p q i r = true_not h

  binds_node : (k : ℕ) → binds k (form_of g).layout ≡ true → Binds σ Γ k n us ks
  unfolding Accepted
  binds_node k h = go (form_of g).layout h a.ok.top.formed.own a.ok.kids
    where
      go : (l : Layout) → binds k l ≡ true → payload_of l (number_of l n (length us) (count ks)) ≡ n
          → AcceptedAll σ ks (push (binders_of l us) Γ) (sorts_of l (number_of l n (length us) (count ks))) → Binds σ Γ k n us ks
      go (these es) h p r = true_not h
      go (payload w) h p r = true_not h
      go (counted lo hi e) h p r = true_not h
      go (binding lo hi es) h p r =
          record { number = sym p; kids = all_count σ (push us Γ) ks es r ∙ eqb-true (length es) k h; each = all_ok σ (push us Γ) ks es r }

  -- the type that a node carries has the shape that its tag asks for
  shape_node : carried_ty us ≡ shape g (carried_ty us)
  unfolding Accepted
  shape_node = a.ok.top.shaped

-- ---- lists by their length
one_type : (us : List Ty) → length us ≡ 1 → us ≡ carried_ty us ∷ []
one_type [] e = absurd (omega arith)
one_type (u ∷ []) e = refl
one_type (u ∷ v ∷ us) e = absurd (omega arith)

one_kid : (ks : Forest) → count ks ≡ 1 → (x : Tree) × (ks ≡ sole x)
one_kid nil e = absurd (omega arith)
one_kid (cons x nil) e = (x, refl)
one_kid (cons x (cons y ks)) e = absurd (omega arith)

two_kids : (ks : Forest) → count ks ≡ 2 → (x y : Tree) × (ks ≡ pair x y)
two_kids nil e = absurd (omega arith)
two_kids (cons x nil) e = absurd (omega arith)
two_kids (cons x (cons y nil)) e = (x, y, refl)
two_kids (cons x (cons y (cons z ks))) e = absurd (omega arith)

-- ---- at a tag
pub tagged : (g : ℕ) (t : Tree) → is_tag g t ≡ true → (n : ℕ) × (us : List Ty) × (ks : Forest) × (t ≡ node (head g n us) ks)
tagged g (node (head h n us) ks) e = (n, us, ks, ap (λ (x : ℕ). node (head x n us) ks) (eqb-true h g e))

pub on_tag_lem : {R : ℕ → Tree → Type 0} (g : ℕ) (t : Tree) (K : List Ty → Forest → Change)
    → ((n : ℕ) (us : List Ty) (ks : Forest) → t ≡ node (head g n us) ks → Is R (K us ks)) → Is R (on_tag g t K)
unfolding on_tag
on_tag_lem g (node (head h n us) ks) K f = by_test (eqb h g) (λ e. f n us ks (ap (λ (x : ℕ). node (head x n us) ks) (eqb-true h g e)))

-- the exact head of a node that has no payload, and no type, one type
bare : {g n : ℕ} {us : List Ty} {ks : Forest} → n ≡ 0 → length us ≡ 0 → node (head g n us) ks ≡ many g ks
bare {g} {n} {us} {ks} p q = rw (p, no_members us q)

carrying : (g n : ℕ) (us : List Ty) (ks : Forest) → n ≡ 0 → us ≡ carried_ty us ∷ [] → ks ≡ nil → node (head g n us) ks ≡ typed g (carried_ty us)
carrying g n us ks p q r = cc

module _ {σ : ℕ → Ty} {Γ : Ctx} {t : Tree} {R : ℕ → Tree → Type 0} (K : List Ty → Forest → Change) (g : ℕ) (a : Ok σ Γ t) where
  pub on_many : (m : ℕ) → listing m (form_of g).layout (form_of g).carried ≡ true
      → ((ks : Forest) → t ≡ many g ks → m ≤ count ks → OkAll σ Γ ks → Is R (K [] ks)) → Is R (on_tag g t K)
  on_many m h f = on_tag_lem g t K (λ n us ks e.
      let w = listing_node σ Γ g n us ks (rw e at a) m h in
      rw (no_members us w.types) (f ks (e ∙ bare w.number w.types) w.kids w.each))

  pub on_two : fixed 0 2 (form_of g).layout (form_of g).carried ≡ true
      → ((x y : Tree) → t ≡ two g x y → Ok σ Γ x → Ok σ Γ y → Is R (K [] (pair x y))) → Is R (on_tag g t K)
  on_two h f = on_tag_lem g t K (λ n us ks e.
      let w = fixed_node σ Γ g n us ks (rw e at a) 0 2 h in
      let k = two_kids ks w.kids in
      let o : OkAll σ Γ (pair k.0 k.1) = subst (OkAll σ Γ) k.2 w.each in
      rw (no_members us w.types, k.2) (f k.0 k.1 (e ∙ bare w.number w.types ∙ ap (many g) k.2) o.0 o.1.0))

  pub on_one : fixed 0 1 (form_of g).layout (form_of g).carried ≡ true
      → ((x : Tree) → t ≡ one g x → Ok σ Γ x → Is R (K [] (sole x))) → Is R (on_tag g t K)
  on_one h f = on_tag_lem g t K (λ n us ks e.
      let w = fixed_node σ Γ g n us ks (rw e at a) 0 1 h in
      let k = one_kid ks w.kids in
      let o : OkAll σ Γ (sole k.0) = subst (OkAll σ Γ) k.1 w.each in
      rw (no_members us w.types, k.1) (f k.0 (e ∙ bare w.number w.types ∙ ap (many g) k.1) o.0))

  pub on_typed : fixed 1 0 (form_of g).layout (form_of g).carried ≡ true
      → ((u : Ty) → t ≡ typed g u → u ≡ shape g u → Is R (K (u ∷ []) nil)) → Is R (on_tag g t K)
  on_typed h f = on_tag_lem g t K (λ n us ks e.
      let b = rw e at a in
      let w = fixed_node σ Γ g n us ks b 1 0 h in
      go n us ks e w.number (one_type us w.types) (no_kids ks w.kids) (shape_node σ Γ g n us ks b))
    where
      go : (n : ℕ) (us : List Ty) (ks : Forest) → t ≡ node (head g n us) ks → n ≡ 0 → us ≡ carried_ty us ∷ [] → ks ≡ nil
          → carried_ty us ≡ shape g (carried_ty us) → Is R (K us ks)
      go n us ks e p q r s = rw (q, r) (f (carried_ty us) (e ∙ carrying g n us ks p q r) s)

  pub on_binder : binds 1 (form_of g).layout ≡ true
      → ((us : List Ty) (x : Tree) → t ≡ quantified g us x → Ok σ (push us Γ) x → Is R (K us (sole x))) → Is R (on_tag g t K)
  on_binder h f = on_tag_lem g t K (λ n us ks e.
      let w = binds_node σ Γ g n us ks (rw e at a) 1 h in
      let k = one_kid ks w.kids in
      let o : OkAll σ (push us Γ) (sole k.0) = subst (OkAll σ (push us Γ)) k.1 w.each in
      rw k.1 (f us k.0 (e ∙ ap₂ (λ (i : ℕ) (l : Forest). node (head g i us) l) w.number k.1) o.0))

  pub on_bodied : binds 2 (form_of g).layout ≡ true
      → ((us : List Ty) (x y : Tree) → t ≡ bodied g us x y → Ok σ (push us Γ) x → Ok σ (push us Γ) y → Is R (K us (pair x y))) → Is R (on_tag g t K)
  on_bodied h f = on_tag_lem g t K (λ n us ks e.
      let w = binds_node σ Γ g n us ks (rw e at a) 2 h in
      let k = two_kids ks w.kids in
      let o : OkAll σ (push us Γ) (pair k.0 k.1) = subst (OkAll σ (push us Γ)) k.2 w.each in
      rw k.2 (f us k.0 k.1 (e ∙ ap₂ (λ (i : ℕ) (l : Forest). node (head g i us) l) w.number k.2) o.0 o.1.0))

-- ---- where only the tag was tested
module _ {σ : ℕ → Ty} {Γ : Ctx} {t : Tree} (g : ℕ) (a : Ok σ Γ t) (h : is_tag g t ≡ true) where
  pub is_leaf : fixed 0 0 (form_of g).layout (form_of g).carried ≡ true → t ≡ leaf g
  is_leaf i =
      let v = tagged g t h in
      let w = fixed_node σ Γ g v.0 v.1 v.2 (rw v.3 at a) 0 0 i in
      v.3 ∙ bare w.number w.types ∙ ap (many g) (no_kids v.2 w.kids)

  pub is_many : (m : ℕ) → listing m (form_of g).layout (form_of g).carried ≡ true → (ks : Forest) × (t ≡ many g ks) × (m ≤ count ks)
  is_many m i =
      let v = tagged g t h in
      let w = listing_node σ Γ g v.0 v.1 v.2 (rw v.3 at a) m i in
      (v.2, v.3 ∙ bare w.number w.types, w.kids)

  pub is_one : fixed 0 1 (form_of g).layout (form_of g).carried ≡ true → (x : Tree) × (t ≡ one g x)
  is_one i =
      let v = tagged g t h in
      let w = fixed_node σ Γ g v.0 v.1 v.2 (rw v.3 at a) 0 1 i in
      let k = one_kid v.2 w.kids in
      (k.0, v.3 ∙ bare w.number w.types ∙ ap (many g) k.1)

  pub is_two : fixed 0 2 (form_of g).layout (form_of g).carried ≡ true → (x : Tree) × (y : Tree) × (t ≡ two g x y)
  is_two i =
      let v = tagged g t h in
      let w = fixed_node σ Γ g v.0 v.1 v.2 (rw v.3 at a) 0 2 i in
      let k = two_kids v.2 w.kids in
      (k.0, k.1, v.3 ∙ bare w.number w.types ∙ ap (many g) k.2)

  pub is_typed_lem : fixed 1 0 (form_of g).layout (form_of g).carried ≡ true → (u : Ty) × (t ≡ typed g u)
  is_typed_lem i =
      let v = tagged g t h in
      let w = fixed_node σ Γ g v.0 v.1 v.2 (rw v.3 at a) 1 0 i in
      (carried_ty v.1, v.3 ∙ carrying g v.0 v.1 v.2 w.number (one_type v.1 w.types) (no_kids v.2 w.kids))
