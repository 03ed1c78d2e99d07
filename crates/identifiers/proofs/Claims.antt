-- The names of a tree agree exactly if no number has claims of two types.
-- Main results: agree_told (a table that holds all the claims: the names agree), clash_disagree (two claims clash: they do
-- not).
use mathlib.Core.Path.{◌≡◌, refl, sym, ap, ◌∙◌}
use mathlib.Core.Logic.{inl, inr}
use mathlib.Core.Bool.{Bool, true, false}
use mathlib.Core.List.{List, [], ◌∷◌}
use Prim.Native.Nat.{ℕ}
use lib.ListN.{get_or}
use lib.Dec.{eqb}
use borrow.Author.Tests.{eqb-true, eqb-false}
use Rattle.frame.specs.Types.{Ty}
use Rattle.frame.specs.Trees.{head, Tree, node, Forest, nil, cons}
use Rattle.frame.specs.Tags.{pick}
use Rattle.typing.specs.Members.{In, All}
use Rattle.typing.specs.Identifiers.{Named, named, givens_tys, ident_of, idents, idents_in, givens, givens_in, names_agree}
use Rattle.claims.specs.Table.{Clash, Told}
use Rattle.claims.proofs.Noting.{says_unique}
use Rattle.identifiers.specs.Claims.{powers, claims_of, claims, claims_in}
use Rattle.typing.specs.Signature.{signed, signature}
use Rattle.typing.proofs.Names.{NameOk, GivenOk, Signed, SignedAll, signed_agree, names_signed, later}
use Rattle.typing.proofs.Members.{all_join, all_left, all_right, all_of, all_in}

-- ---- a tree is signed exactly if its claims are
module _ (σ : ℕ → Ty) where
  powers_ok : (ns : List ℕ) → All (GivenOk σ) ns → All (NameOk σ) (powers ns)
  unfolding powers
  powers_ok [] h = tt
  powers_ok (n ∷ ns) h = (sym h.0, powers_ok ns h.1)

  ok_powers : (ns : List ℕ) → All (NameOk σ) (powers ns) → All (GivenOk σ) ns
  unfolding powers
  ok_powers [] h = tt
  ok_powers (n ∷ ns) h = (sym h.0, ok_powers ns h.1)

  mutual
    unfolding claims idents givens

    claims_of_signed : (t : Tree) → Signed σ t → All (NameOk σ) (claims t)
    claims_of_signed (node (head g n us) ks) s =
        let a = all_left (GivenOk σ) (givens_tys us) (givens_in ks) s.1 in
        let b = all_right (GivenOk σ) (givens_tys us) (givens_in ks) s.1 in
        let c = all_left (NameOk σ) (ident_of g n us) (idents_in ks) s.0 in
        let d = all_right (NameOk σ) (ident_of g n us) (idents_in ks) s.0 in
        all_join (NameOk σ) (claims_of (head g n us)) (claims_in ks)
        (all_join (NameOk σ) (powers (givens_tys us)) (ident_of g n us) (powers_ok (givens_tys us) a) c)
        (claims_of_signed_all ks (d, b))

    claims_of_signed_all : (ks : Forest) → SignedAll σ ks → All (NameOk σ) (claims_in ks)
    claims_of_signed_all nil s = tt
    claims_of_signed_all (cons t ks) s =
        let a = all_left (GivenOk σ) (givens t) (givens_in ks) s.1 in
        let b = all_right (GivenOk σ) (givens t) (givens_in ks) s.1 in
        let c = all_left (NameOk σ) (idents t) (idents_in ks) s.0 in
        let d = all_right (NameOk σ) (idents t) (idents_in ks) s.0 in
        all_join (NameOk σ) (claims t) (claims_in ks) (claims_of_signed t (c, a)) (claims_of_signed_all ks (d, b))

  mutual
    unfolding claims idents givens

    signed_of_claims : (t : Tree) → All (NameOk σ) (claims t) → Signed σ t
    signed_of_claims (node (head g n us) ks) h =
        let b = all_left (NameOk σ) (claims_of (head g n us)) (claims_in ks) h in
        let a = ok_powers (givens_tys us) (all_left (NameOk σ) (powers (givens_tys us)) (ident_of g n us) b) in
        let c = all_right (NameOk σ) (powers (givens_tys us)) (ident_of g n us) b in
        let d = signed_of_claims_all ks (all_right (NameOk σ) (claims_of (head g n us)) (claims_in ks) h) in
        (all_join (NameOk σ) (ident_of g n us) (idents_in ks) c d.0, all_join (GivenOk σ) (givens_tys us) (givens_in ks) a d.1)

    signed_of_claims_all : (ks : Forest) → All (NameOk σ) (claims_in ks) → SignedAll σ ks
    signed_of_claims_all nil h = (tt, tt)
    signed_of_claims_all (cons t ks) h =
        let a = signed_of_claims t (all_left (NameOk σ) (claims t) (claims_in ks) h) in
        let b = signed_of_claims_all ks (all_right (NameOk σ) (claims t) (claims_in ks) h) in
        (all_join (NameOk σ) (idents t) (idents_in ks) a.0 b.0, all_join (GivenOk σ) (givens t) (givens_in ks) a.1 b.1)

-- ---- claims that agree with each other are signed by the first of each number
first_in : (l : List Named) (n : ℕ) (t : Ty) → In (named n t) l → In (named n (signed l n)) l
unfolding signed
first_in [] n t i = i
first_in (named m u ∷ l) n t i = go (λ j. first_in l n t j) (eqb n m) refl
  where
    go : (In (named n t) l → In (named n (signed l n)) l) → (b : Bool) → eqb n m ≡ b → In (named n (pick b u (signed l n))) (named m u ∷ l)
    go f true e = inl (ap (λ (x : ℕ). named x u) (eqb-true n m e))
    go f false e = inr (f (later n m t u l i (eqb-false n m e)))

abbrev Functional : List Named → Type 0
Functional l = (n : ℕ) (t u : Ty) → In (named n t) l → In (named n u) l → t ≡ u

functional_signed : (l : List Named) → Functional l → All (NameOk (signed l)) l
functional_signed l f = all_of (NameOk (signed l)) l each
  where
    each : (a : Named) → In a l → NameOk (signed l) a
    each (named n t) i = f n t (signed l n) i (first_in l n t i)

functional_agree : (t : Tree) → Functional (claims t) → names_agree t ≡ true
functional_agree t f = signed_agree (signed (claims t)) t (signed_of_claims (signed (claims t)) t (functional_signed (claims t) f))

pub clash_disagree : (t : Tree) → Clash (claims t) → names_agree t ≡ false
clash_disagree t c = go (names_agree t) refl
  where
    go : (b : Bool) → names_agree t ≡ b → b ≡ false
    go true e =
        let σ : ℕ → Ty = signature t in
        let h = claims_of_signed σ t (names_signed t e) in
        absurd (c.differ (all_in (NameOk σ) (claims t) (named c.number c.one) h c.first ∙ sym
        (all_in (NameOk σ) (claims t) (named c.number c.other) h c.second)))
    go false e = refl

-- ---- the table and the tree
pub agree_told : (s table : List ℕ) (t : Tree) → Told s table (claims t) → names_agree t ≡ true
agree_told s table t h = functional_agree t (λ n u v i j. says_unique s n (get_or table n 0) u v (h.all n u i) (h.all n v j))
