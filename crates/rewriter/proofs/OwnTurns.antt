-- The ways out of src/equals/own_type.rt.
-- Main results: name_read, name_done (is_given_at); name_here and out_atom to out_both (own_type_at).
use mathlib.Core.Path.{◌≡◌, refl, sym, ap, ◌∙◌}
use mathlib.Core.Bool.{Bool, true, false, ◌&&◌}
use mathlib.Core.Logic.{◌⊎◌, inl, inr, ⊎_elim}
use mathlib.Core.List.{List, [], ◌∷◌, ◌++◌}
use Prim.Native.Nat.{ℕ, ◌+◌, ◌≤◌, ◌<◌}
use native.Mathlib.Omega.{arith}
use lib.ListN.{length, get_or}
use Rattle.frame.specs.Types.{Ty, given, pow}
use Rattle.frame.specs.Trees.{head, Tree, node, Forest, nil, cons, tag_of, leaf}
use Rattle.frame.specs.Tags.{Sort, expression, lookup, class_of, form_at}
use Rattle.frame.specs.Encoding.{enc_number, enc_ty, enc_tys, enc_head, enc}
use Rattle.frame.specs.Reading.{frame_limit, number_at}
use Rattle.frame.specs.Places.{Ctx, found, find}
use Rattle.frame.specs.Sameness.{same_ty}
use Rattle.frame.proofs.Inversion.{true_not}
use Rattle.frame.proofs.Spans.{span_left}
use Rattle.frame.proofs.Numbers.{number_back}
use Rattle.frame.proofs.SameTrees.{same_ty_lem, same_ty_refl}
use Rattle.claims.specs.Table.{TypeAt, PowerPost}
use Rattle.claims.proofs.Noting.{type_unique}
use Rattle.sameness.specs.Stands.{Stands}
use Rattle.nav.specs.PlaceTables.{Framed, Table, TagPost}
use Rattle.nav.proofs.Hops.{Sorted, framed_few, place_sorted, place_stands}
use Rattle.nav.proofs.SamePlaces.{only_child, two_children}
use Rattle.frame.proofs.Splices.{find_lt}
use Rattle.rules.specs.Dispatch.{is_own_type}
use Rattle.decision.specs.Decides.{Here}
use Rattle.rewriter.specs.OwnType.{NamePre, NamedPost, OwnTypePost}
use Rattle.decision.proofs.Shapes.{Takes, bare, single, double, sorted_is}
use Rattle.decision.proofs.Descents.{Plain, plain}
use Rattle.rewriter.proofs.OwnTypes.{own_bool, own_int, own_ident, own_pow, own_times, own_other}

-- ---- an identifier
-- its number and its type, in its bytes
record Name (s : List ℕ) (at : ℕ) (v : Tree) : Type 0 where
  m : ℕ
  u : Ty
  is : v ≡ node (head 1 m (u ∷ [])) nil
  small : m < 65536
  number : number_at 2 s (at + 2) ≡ m
  end : ℕ
  type : TypeAt s (at + 4) end u
  within : at + 4 ≤ length s

name_in : (s : List ℕ) (at m : ℕ) (us : List Ty) (ks : Forest) (e : Sort) → Stands s at e (node (head 1 m us) ks) → Name s at (node (head 1 m us) ks)
unfolding lookup class_of form_at enc enc_head enc_tys
name_in s at m [] ks e st = absurd (let z : 0 ≡ 1 = st.formed.0.many in omega arith)
name_in s at m (u ∷ v ∷ us) ks e st = absurd (let z : length (u ∷ v ∷ us) ≡ 1 = st.formed.0.many in omega arith)
name_in s at m (u ∷ []) (cons a ks) e st = absurd st.formed.1
name_in s at m (u ∷ []) nil e st =
    let a = span_left (enc_number 2 1 ++ (enc_number 2 m ++ (enc_ty u ++ []))) [] st.bytes in
    let b = number_back 2 s at _ 1 (enc_number 2 m ++ (enc_ty u ++ [])) (omega arith) a in
    let c = number_back 2 s (at + 2) _ m (enc_ty u ++ []) st.formed.0.fits b.rest in
    let d = span_left (enc_ty u) [] c.rest in
    let z : at + 2 + 2 ≡ at + 4 = omega arith in
    record {
      m = m;
      u = u;
      is = refl;
      small = st.formed.0.fits;
      number = c.number;
      end = _;
      type = record { span = rw z at d; wf = st.formed.0.types.0 };
      within = omega (arith, c.within);
    }

name_of : (s : List ℕ) (at : ℕ) (e : Sort) (v : Tree) → Stands s at e v → tag_of v ≡ 1 → Name s at v
name_of s at e (node (head g m us) ks) st z = rw z (name_in s at m us ks e (rw z at st))

name_at : (s st : List ℕ) (t : Tree) (n k : ℕ) (Γ : Ctx) (v : Tree) → Framed s t st n → find t [] k ≡ found Γ v → tag_of v ≡ 1 → Name s (get_or st k 0) v
name_at s st t n k Γ v fr f z =
    let q = place_sorted s t st n fr k Γ v f in
    name_of s (get_or st k 0) q.0 v (place_stands s t st n fr k Γ v f q.0 q.1) z

module _ (s st : List ℕ) (k at : ℕ) (ea : at ≡ get_or st k 0) where
  pub name_read : NamePre s st k → (k < 2048) × (at + 4 ≤ length s) × (length s ≤ frame_limit) × (number_at 2 s (at + 2) < 65536)
  name_read p =
      let x = name_at s st p.t p.n k p.Γ p.v p.framed p.there p.ident in (
        omega (arith, find_lt p.t [] k p.Γ p.v p.there, framed_few s p.t st p.n p.framed),
        rw ea x.within,
        p.framed.short,
        rw (ea, x.number) x.small,
      )

  pub name_done : (i : ℕ) → i ≡ number_at 2 s (at + 2) → (r : Bool) → PowerPost s (at + 4) i r → NamedPost s st k r
  name_done i ei r post = record { says = says }
    where
      -- the type that stands there is that power, or is another
      yes : (m : ℕ) (u : Ty) (q : ℕ) → i ≡ m → TypeAt s (at + 4) q u → (b : Bool) → r ≡ b → b ≡ same_ty u (pow (given m))
      yes m u q em a true eb =
          let z : u ≡ pow (given m) = rw em at (type_unique s (at + 4) q (at + 4 + 4) u (pow (given i)) a (post.yes eb)) in
          rw z (sym (same_ty_refl (pow (given m))))
      yes m u q em a false eb = go (same_ty u (pow (given m))) refl
        where
          go : (c : Bool) → same_ty u (pow (given m)) ≡ c → false ≡ c
          go true ec =
              let z : u ≡ pow (given i) = same_ty_lem u (pow (given m)) ec ∙ ap (λ (x : ℕ). pow (given x)) (sym em) in
              absurd (post.not eb q (rw z at a))
          go false ec = refl

      says : (t : Tree) (n : ℕ) (Γ : Ctx) (v : Tree) → Framed s t st n → find t [] k ≡ found Γ v → tag_of v ≡ 1 → r ≡ is_own_type Γ v
      says t n Γ v fr f z =
          let x : Name s at v = rw ea (name_at s st t n k Γ v fr f z) in
          rw x.is (yes x.m x.u x.end (ei ∙ x.number) x.type r refl ∙ sym (own_ident x.m x.u Γ))

-- ---- any tree
-- the second of two tests counts where the first says true
and_are : (x y p q : Bool) → x ≡ p → (x ≡ true → y ≡ q) → (x && y) ≡ (p && q)
and_are true y true q e h = h refl
and_are true y false q e h = true_not (sym e)
and_are false y true q e h = true_not e
and_are false y false q e h = refl

module _ (s st nx : List ℕ) (k tag : ℕ) (pt : TagPost s st k tag) where
  -- its tag and its form
  module _ (g : ℕ) (key : tag ≡ g) {t : Tree} {n : ℕ} {Γ : Ctx} {v : Tree} (tb : Table s t st nx n) (f : find t [] k ≡ found Γ v) where
    tag_is : tag_of v ≡ g
    tag_is = sym (pt.tag t n Γ v tb.framed f) ∙ key

    formed : Sorted v
    formed = place_sorted s t st n tb.framed k Γ v f

    formed_as : (w : Tree) → v ≡ w → Sorted w
    formed_as w z = sorted_is v w z formed

  -- a name that stands for a type
  out_named : (g : ℕ) → Takes g [] → Plain g → ((Γ : Ctx) → is_own_type Γ (leaf g) ≡ true) → tag ≡ g → OwnTypePost s st nx k true
  out_named g tk pl own key = record {
    says = λ t n Γ v tb f.
        let o = bare g tk v (formed g key tb f) (tag_is g key tb f) in
        rw (o.is, plain g pl o.n o.us nil (formed_as g key tb f _ o.is)) (sym (own Γ));
  }

  pub out_atom : (tag ≡ 401) ⊎ (tag ≡ 404) → OwnTypePost s st nx k true
  unfolding lookup class_of form_at
  out_atom = ⊎_elim (out_named 401 (λ x. refl) (λ x. (refl, refl)) own_int) (out_named 404 (λ x. refl) (λ x. (refl, refl)) own_bool)

  pub name_here : tag ≡ 1 → Here s st nx k → NamePre s st k
  name_here key h = record {
    t = h.t;
    n = h.n;
    framed = h.table.framed;
    Γ = h.Γ;
    v = h.v;
    there = h.there;
    ident = tag_is 1 key h.table h.there;
  }

  pub out_ident : tag ≡ 1 → (r : Bool) → NamedPost s st k r → OwnTypePost s st nx k r
  out_ident key r p = record { says = λ t n Γ v tb f. p.says t n Γ v tb.framed f (tag_is 1 key tb f) }

  pub out_pow : tag ≡ 752 → (r : Bool) → OwnTypePost s st nx (k + 1) r → OwnTypePost s st nx k r
  unfolding lookup class_of form_at
  out_pow key r p = record {
    says = λ t n Γ v tb f.
        let o = single 752 expression (λ x. refl) v (formed 752 key tb f) (tag_is 752 key tb f) in
        let c = only_child t nx tb.follows k Γ 752 o.n o.us o.a (f ∙ ap (found Γ) o.is) in
        rw (o.is, plain 752 (λ x. (refl, refl)) o.n o.us (cons o.a nil) (formed_as 752 key tb f _ o.is))
        (p.says t n Γ o.a tb c ∙ sym (own_pow o.a Γ));
  }

  pub out_other : ((tag ≡ 401) ⊎ (tag ≡ 404) → ⊥) → (tag ≡ 1 → ⊥) → (tag ≡ 752 → ⊥) → (tag ≡ 214 → ⊥) → OwnTypePost s st nx k false
  out_other a c p q = record {
    says = λ t n Γ v tb f.
        let z : tag ≡ tag_of v = pt.tag t n Γ v tb.framed f in
        sym (own_other v Γ (λ e. a (inr (z ∙ e))) (λ e. a (inl (z ∙ e))) (λ e. c (z ∙ e)) (λ e. p (z ∙ e)) (λ e. q (z ∙ e)));
  }

  -- a product by what its operands are
  module _ (key : tag ≡ 214) (x : Bool) (px : OwnTypePost s st nx (k + 1) x) where
    times_says : {t : Tree} {n : ℕ} {Γ : Ctx} {v : Tree} (tb : Table s t st nx n) (f : find t [] k ≡ found Γ v) → (y : Bool)
        → ((b : Tree) → find t [] (get_or nx (k + 1) 0) ≡ found Γ b → x ≡ true → y ≡ is_own_type Γ b) → (x && y) ≡ is_own_type Γ v
    unfolding lookup class_of form_at
    times_says {t} {n} {Γ} {v} tb f y h =
        let o = double 214 expression expression (λ x. refl) v (formed 214 key tb f) (tag_is 214 key tb f) in
        let c = two_children t nx tb.follows k Γ 214 o.n o.us o.a o.b (f ∙ ap (found Γ) o.is) in
        rw (o.is, plain 214 (λ x. (refl, refl)) o.n o.us (cons o.a (cons o.b nil)) (formed_as 214 key tb f _ o.is))
        (and_are x y (is_own_type Γ o.a) (is_own_type Γ o.b) (px.says t n Γ o.a tb c.0) (h o.b c.1) ∙ sym (own_times o.a o.b Γ))

    pub out_first : x ≡ false → OwnTypePost s st nx k false
    out_first z = record { says = λ t n Γ v tb f. ap (λ (i : Bool). i && false) (sym z) ∙ times_says tb f false (λ b fb e. true_not (sym z ∙ e)) }

    pub out_both : x ≡ true → (j : ℕ) → j ≡ get_or nx (k + 1) 0 → (r : Bool) → OwnTypePost s st nx j r → OwnTypePost s st nx k r
    out_both z j ej r p = record {
      says = λ t n Γ v tb f. ap (λ (i : Bool). i && r) (sym z) ∙ times_says tb f r (λ b fb e. p.says t n Γ b tb (rw ej fb));
    }
