-- Number 9: the identifiers of a tree agree exactly if some σ types them all.
-- Main results: names_signed (names_agree t gives Signed (signature t) t), signed_agree (and back, from any σ),
-- node_named, node_types (HeadOk's fields `named` and `types` at a node that is signed), signed_kids, signed_first,
-- signed_rest (what is signed goes down), accepted_signed, accepted_names; derived_signed (a signed tree's derived types
-- hold no other given sets, well typed or not: number 9 need not look at them).
use mathlib.Core.Path.{◌≡◌, refl, sym, ap, ◌∙◌}
use mathlib.Core.Logic.{inl, inr}
use mathlib.Core.Bool.{Bool, true, false, not, ◌&&◌, ◌||◌}
use mathlib.Core.List.{List, [], ◌∷◌}
use Prim.Native.Nat.{ℕ}
use lib.Dec.{eqb}
use borrow.Author.Tests.{eqb-true, eqb-false, eq-eqb}
use Rattle.frame.specs.Types.{Ty, bool, int, given, pow, prod}
use Rattle.frame.specs.Trees.{head, Tree, node, Forest, nil, cons, count}
use Rattle.frame.specs.Tags.{pick, Sort, class_of, form_of, sorts_of}
use Rattle.frame.specs.Operators.{#FreeIdent}
use Rattle.frame.specs.Places.{Ctx, under}
use Rattle.frame.specs.Sameness.{same_ty}
use Rattle.frame.specs.WellFormed.{TyWf, TysWf, Wf, Wfs, number_in}
use Rattle.typing.specs.Typing.{carried_ty, type_of, types_in}
use Rattle.typing.specs.Members.{In, All}
use Rattle.typing.specs.Identifiers.{
  Named,
  named,
  ident_of,
  idents,
  idents_in,
  givens_ty,
  givens_tys,
  givens,
  givens_in,
  agrees,
  agrees_with_givens,
  consistent,
  names_agree,
}
use Rattle.typing.specs.Signature.{signed, signature}
use Rattle.typing.specs.Accepted.{TyOk, TysOk, HeadOk, Accepted, AcceptedAll}
use Rattle.typing.proofs.Derived.{push_ok, result_ok}
use Rattle.frame.proofs.Booleans.{both_true, both_of, or_then, then_or}
use Rattle.frame.proofs.SameTrees.{same_ty_lem}
use Rattle.typing.proofs.Same.{same_ty_of}
use Rattle.typing.proofs.Members.{all_join, all_left, all_right, all_of}

-- ---- what it is to be signed
module _ (σ : ℕ → Ty) where
  abbrev pub NameOk : Named → Type 0
  NameOk (named n t) = t ≡ σ n

  abbrev pub GivenOk : ℕ → Type 0
  GivenOk n = σ n ≡ pow (given n)

  -- σ gives the identifiers of a tree their types, and those with the numbers of its given sets the powers of these
  abbrev pub Signed : Tree → Type 0
  Signed t = All NameOk (idents t) × All GivenOk (givens t)

  abbrev pub SignedAll : Forest → Type 0
  SignedAll ks = All NameOk (idents_in ks) × All GivenOk (givens_in ks)

  -- ---- down the tree
  pub signed_kids : (g n : ℕ) (us : List Ty) (ks : Forest) → Signed (node (head g n us) ks) → SignedAll ks
  unfolding idents givens
  signed_kids g n us ks s = (all_right NameOk (ident_of g n us) (idents_in ks) s.0, all_right GivenOk (givens_tys us) (givens_in ks) s.1)

  pub signed_first : (t : Tree) (ks : Forest) → SignedAll (cons t ks) → Signed t
  unfolding idents givens
  signed_first t ks s = (all_left NameOk (idents t) (idents_in ks) s.0, all_left GivenOk (givens t) (givens_in ks) s.1)

  pub signed_rest : (t : Tree) (ks : Forest) → SignedAll (cons t ks) → SignedAll ks
  unfolding idents givens
  signed_rest t ks s = (all_right NameOk (idents t) (idents_in ks) s.0, all_right GivenOk (givens t) (givens_in ks) s.1)

  -- ---- one node
  name_of : (b : Bool) (n : ℕ) (u : Ty) → All NameOk (pick b (named n u ∷ []) []) → pick {X = Type 0} b (u ≡ σ n) (Unit {0})
  name_of true n u h = h.0
  name_of false n u h = tt

  of_name : (b : Bool) (n : ℕ) (u : Ty) → pick {X = Type 0} b (u ≡ σ n) (Unit {0}) → All NameOk (pick b (named n u ∷ []) [])
  of_name true n u h = (h, tt)
  of_name false n u h = tt

  pub node_named : (g n : ℕ) (us : List Ty) (ks : Forest) → Signed (node (head g n us) ks)
      → pick {X = Type 0} (eqb g #FreeIdent) (carried_ty us ≡ σ n) (Unit {0})
  unfolding idents
  node_named g n us ks s = name_of (eqb g #FreeIdent) n (carried_ty us) (all_left NameOk (ident_of g n us) (idents_in ks) s.0)

  ty_signed : (t : Ty) → TyWf t → All GivenOk (givens_ty t) → TyOk σ t
  unfolding givens_ty
  ty_signed bool w h = tt
  ty_signed int w h = tt
  ty_signed (given n) w h = (w, h.0)
  ty_signed (pow t) w h = ty_signed t w h
  ty_signed (prod t u) w h =
      (ty_signed t w.0 (all_left GivenOk (givens_ty t) (givens_ty u) h), ty_signed u w.1 (all_right GivenOk (givens_ty t) (givens_ty u) h))

  tys_signed : (us : List Ty) → TysWf us → All GivenOk (givens_tys us) → TysOk σ us
  unfolding givens_tys
  tys_signed [] w h = tt
  tys_signed (u ∷ us) w h =
      (ty_signed u w.0 (all_left GivenOk (givens_ty u) (givens_tys us) h), tys_signed us w.2 (all_right GivenOk (givens_ty u) (givens_tys us) h))

  pub node_types : (g n : ℕ) (us : List Ty) (ks : Forest) → TysWf us → Signed (node (head g n us) ks) → TysOk σ us
  unfolding givens
  node_types g n us ks w s = tys_signed us w (all_left GivenOk (givens_tys us) (givens_in ks) s.1)

  -- ---- derived types
  mutual
    unfolding type_of

    pub derived_signed : (t : Tree) (Γ : Ctx) (e : Sort) → Wf t e → Signed t → TysOk σ Γ → TyOk σ (type_of t Γ)
    derived_signed (node (head g n us) ks) Γ e w s k =
        let o = node_types g n us ks w.0.types s in
        result_ok σ (class_of g) n us Γ (types_in ks (under g us Γ)) o k
        (derived_signed_all ks (under g us Γ) (sorts_of (form_of g).layout (number_in g n us (count ks))) w.1
        (signed_kids g n us ks s) (push_ok σ g us Γ o k))

    pub derived_signed_all : (ks : Forest) (Γ : Ctx) (es : List Sort) → Wfs ks es → SignedAll ks → TysOk σ Γ → TysOk σ (types_in ks Γ)
    derived_signed_all nil Γ [] w s k = tt
    derived_signed_all nil Γ (e ∷ es) w s k = absurd w
    derived_signed_all (cons t ks) Γ [] w s k = absurd w
    derived_signed_all (cons t ks) Γ (e ∷ es) w s k = (
      derived_signed t Γ e w.0 (signed_first t ks s) k,
      derived_signed_all ks Γ es
          w.1 (signed_rest t ks s) k,
    )

  -- ---- from a tree that is accepted
  signed_ty : (t : Ty) → TyOk σ t → All GivenOk (givens_ty t)
  unfolding givens_ty
  signed_ty bool h = tt
  signed_ty int h = tt
  signed_ty (given n) h = (h.1, tt)
  signed_ty (pow t) h = signed_ty t h
  signed_ty (prod t u) h = all_join GivenOk (givens_ty t) (givens_ty u) (signed_ty t h.0) (signed_ty u h.1)

  signed_tys : (us : List Ty) → TysOk σ us → All GivenOk (givens_tys us)
  unfolding givens_tys
  signed_tys [] h = tt
  signed_tys (u ∷ us) h = all_join GivenOk (givens_ty u) (givens_tys us) (signed_ty u h.0) (signed_tys us h.1)

  signed_node : (Γ : Ctx) (e : Sort) (g n : ℕ) (us : List Ty) (k : ℕ) (ks : Forest) → HeadOk σ Γ e g n us k → SignedAll ks
      → Signed (node (head g n us) ks)
  unfolding idents givens
  signed_node Γ e g n us k ks h s = (
    all_join NameOk (ident_of g n us) (idents_in ks) (of_name (eqb g #FreeIdent) n (carried_ty us) h.named) s.0,
    all_join GivenOk
        (givens_tys us) (givens_in ks) (signed_tys us h.types) s.1,
  )

  signed_cons : (t : Tree) (ks : Forest) → Signed t → SignedAll ks → SignedAll (cons t ks)
  unfolding idents givens
  signed_cons t ks h s = (all_join NameOk (idents t) (idents_in ks) h.0 s.0, all_join GivenOk (givens t) (givens_in ks) h.1 s.1)

  signed_nil : SignedAll nil
  unfolding idents givens
  signed_nil = (tt, tt)

  mutual
    unfolding Accepted

    pub accepted_signed : (t : Tree) (Γ : Ctx) (e : Sort) → Accepted σ t Γ e → Signed t
    accepted_signed (node (head g n us) ks) Γ e a = signed_node Γ e g n us _ ks a.top (accepted_signed_all ks (under g us Γ) _ a.kids)

    pub accepted_signed_all : (ks : Forest) (Γ : Ctx) (es : List Sort) → AcceptedAll σ ks Γ es → SignedAll ks
    accepted_signed_all nil Γ [] a = signed_nil
    accepted_signed_all nil Γ (e ∷ es) a = absurd a
    accepted_signed_all (cons t ks) Γ [] a = absurd a
    accepted_signed_all (cons t ks) Γ (e ∷ es) a = signed_cons t ks (accepted_signed t Γ e a.0) (accepted_signed_all ks Γ es a.1)

  -- ---- signed, so the names agree
  agrees_of : (n : ℕ) (t : Ty) (l : List Named) → t ≡ σ n → All NameOk l → agrees (named n t) l ≡ true
  unfolding agrees
  agrees_of n t [] e h = refl
  agrees_of n t (named m u ∷ l) e h =
      both_of
      (then_or (eqb n m) (same_ty t u) (λ q. same_ty_of t u (e ∙ (ap σ (eqb-true n m q) ∙ sym h.0)))) (agrees_of n t l e h.1)

  agrees_with_givens_of : (n : ℕ) (t : Ty) (ms : List ℕ) → t ≡ σ n → All GivenOk ms → agrees_with_givens (named n t) ms ≡ true
  unfolding agrees_with_givens
  agrees_with_givens_of n t [] e h = refl
  agrees_with_givens_of n t (m ∷ ms) e h =
      both_of
      (then_or (eqb n m) (same_ty t (pow (given m))) (λ q. same_ty_of t (pow (given m)) (e ∙ (ap σ (eqb-true n m q) ∙ h.0))))
      (agrees_with_givens_of n t ms e h.1)

  consistent_of : (l all : List Named) (ms : List ℕ) → All NameOk l → All NameOk all → All GivenOk ms → consistent l all ms ≡ true
  unfolding consistent
  consistent_of [] all ms h k s = refl
  consistent_of (named n t ∷ l) all ms h k s =
      both_of (agrees_of n t all h.0 k)
      (both_of (agrees_with_givens_of n t ms h.0 s) (consistent_of l all ms h.1 k s))

  pub signed_agree : (t : Tree) → Signed t → names_agree t ≡ true
  unfolding names_agree
  signed_agree t s = consistent_of (idents t) (idents t) (givens t) s.0 s.0 s.1

-- ---- the names agree, so the tree is signed by its signature
by_test : (n m : ℕ) (R : Ty → Type 0) (u v : Ty) → (n ≡ m → R u) → ((n ≡ m → ⊥) → R v) → R (pick (eqb n m) u v)
by_test n m R u v p q = go (eqb n m) refl
  where
    go : (b : Bool) → eqb n m ≡ b → R (pick b u v)
    go true e = p (eqb-true n m e)
    go false e = q (eqb-false n m e)

-- a claim of another number is no first one
pub later : (n m : ℕ) (t u : Ty) (l : List Named) → In (named n t) (named m u ∷ l) → (n ≡ m → ⊥) → In (named n t) l
later n m t u l (inl e) d = absurd (d (cc))
later n m t u l (inr j) d = j

agree_signed : (l : List Named) (n : ℕ) (t : Ty) → agrees (named n t) l ≡ true → In (named n t) l → t ≡ signed l n
unfolding agrees signed
agree_signed [] n t h i = absurd i
agree_signed (named m u ∷ l) n t h i =
    let k = both_true (not (eqb n m) || same_ty t u) (agrees (named n t) l) h in
    by_test n m (λ (v : Ty). t ≡ v) u (signed l n) (λ q. same_ty_lem t u (or_then (eqb n m) (same_ty t u) k.0 (eq-eqb n m q)))
    (λ d. agree_signed l n t k.1 (later n m t u l i d))

spare_given : (m n : ℕ) (t : Ty) (ms : List ℕ) → agrees_with_givens (named m t) ms ≡ true → n ≡ m → In n ms → t ≡ pow (given n)
unfolding agrees_with_givens
spare_given m n t [] h q i = absurd i
spare_given m n t (o ∷ ms) h q (inl e) =
    same_ty_lem t (pow (given o)) (or_then (eqb m o) (same_ty t (pow (given o)))
    (both_true (not (eqb m o) || same_ty t (pow (given o))) (agrees_with_givens (named m t) ms) h).0 (eq-eqb m o (sym q ∙ e)))
    ∙ ap (λ (x : ℕ). pow (given x)) (sym e)
spare_given m n t (o ∷ ms) h q (inr i) =
    spare_given m n t ms (both_true (not (eqb m o) || same_ty t (pow (given o))) (agrees_with_givens (named m t) ms) h).1 q i

given_signed : (l all : List Named) (ms : List ℕ) (n : ℕ) → consistent l all ms ≡ true → In n ms → signed l n ≡ pow (given n)
unfolding consistent signed
given_signed [] all ms n h i = refl
given_signed (named m u ∷ l) all ms n h i =
    let k = both_true (agrees (named m u) all) (agrees_with_givens (named m u) ms && consistent l all ms) h in
    let j = both_true (agrees_with_givens (named m u) ms) (consistent l all ms) k.1 in
    by_test n m (λ (v : Ty). v ≡ pow (given n)) u (signed l n) (λ q. spare_given m n u ms j.0 q i) (λ d. given_signed l all ms n j.1 i)

consistent_in : (l all : List Named) (ms : List ℕ) (a : Named) → consistent l all ms ≡ true → In a l → agrees a all ≡ true
unfolding consistent
consistent_in [] all ms a h i = absurd i
consistent_in (b ∷ l) all ms a h (inl e) = rw e (both_true (agrees b all) (agrees_with_givens b ms && consistent l all ms) h).0
consistent_in (b ∷ l) all ms a h (inr i) =
    consistent_in l all ms a (both_true (agrees_with_givens b ms) (consistent l all ms) (both_true (agrees b all) (agrees_with_givens b ms && consistent l all ms) h).1).1 i

name_signed : (l : List Named) (ms : List ℕ) → consistent l l ms ≡ true → (a : Named) → In a l → NameOk (signed l) a
name_signed l ms h (named n t) i = agree_signed l n t (consistent_in l l ms (named n t) h i) i

pub names_signed : (t : Tree) → names_agree t ≡ true → Signed (signature t) t
unfolding names_agree signature
names_signed t h = (
  all_of (NameOk (signature t)) (idents t) (name_signed (idents t) (givens t) h),
  all_of (GivenOk (signature t)) (givens t)
      (λ n i. given_signed (idents t) (idents t) (givens t) n h i),
)

-- some σ signs a tree exactly if its names agree
pub accepted_names : (σ : ℕ → Ty) (t : Tree) (Γ : Ctx) (e : Sort) → Accepted σ t Γ e → names_agree t ≡ true
accepted_names σ t Γ e a = signed_agree σ t (accepted_signed σ t Γ e a)
