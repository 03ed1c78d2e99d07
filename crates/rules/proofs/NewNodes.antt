-- The nodes that right sides are made of are accepted where their children are.
-- Main results: a lemma for each operator, named after it (`not_holds`, `equal_holds`, `dom_has`, ..); is_empty_lem and
-- is_type_lem (S = ∅ and S = Ty of an accepted set S); over_cap, over_cup (∩ and ∪ over the operands that are left).
use mathlib.Core.Path.{◌≡◌, refl, ap}
use mathlib.Core.List.{List, [], ◌∷◌}
use Prim.Native.Nat.{ℕ, suc, ◌≤◌}
use native.Mathlib.Omega.{arith}
use lib.ListN.{length, length-append}
use lib.Dec.{lit<, lit≤}
use Rattle.frame.specs.Types.{Ty, bool, int, given, pow, prod}
use Rattle.frame.specs.Trees.{Tree, Forest, nil, cons, count, leaf, two, many, sole, pair, bodied}
use Rattle.frame.specs.Tags.{Sort, predicate, expression, class_of, lookup, form_at, repeat}
use Rattle.frame.specs.Operators.{#Lt, #Le, #Gt, #Ge, #DomRes, #BUnion, #BInter, #True, #False, #CSet}
use Rattle.frame.specs.Encoding.{enc_ty}
use Rattle.frame.specs.Places.{Ctx, push}
use Rattle.frame.specs.WellFormed.{TyWf}
use Rattle.typing.specs.Typing.{alike, relation}
use Rattle.typing.specs.TypeExpression.{to_expression}
use Rattle.typing.specs.Accepted.{TyOk, TysOk}
use Rattle.typing.proofs.TypeExpression.{type_expression}
use Rattle.rules.specs.Equations.{⊤, ⊥ᵖ, ¬ᵖ, ◌⇒◌, ◌⇔◌, ⋀, ⋁, ∀ᵖ, ∃ᵖ, ◌≐◌, ◌∈ᵖ◌, ◌⊆◌, fin, ext, dom, ran, inters, over, ∅, ◌≐∅, ◌≐Ty}
use Rattle.rules.proofs.Nodes.{
  Are,
  Holds,
  Has,
  Each,
  Binders,
  short,
  ok_of,
  are_none,
  are_more,
  are_one,
  are_two,
  build,
  these_head,
  counted_head,
  binding_head,
}

-- ---- lists of children
-- as many copies of a type as there are children
abbrev copies : Ty → Forest → List Ty
copies t nil = []
copies t (cons k ks) = t ∷ copies t ks

alike_copies : (t : Ty) (ks : Forest) → copies t ks ≡ alike t (copies t ks)
alike_copies t nil = refl
alike_copies t (cons k ks) = ap (λ ts. t ∷ ts) (alike_copies t ks)

are_each : {σ : ℕ → Ty} {Γ : Ctx} (e : Sort) (t : Ty) (ks : Forest) → Each σ Γ e t ks → Are σ Γ ks (repeat e (count ks)) (copies t ks)
are_each e t nil h = are_none
are_each e t (cons k ks) h = are_more h.0 (are_each e t ks h.1)

-- ---- the bytes of types
pub short_member : (t : Ty) → length (enc_ty (pow t)) ≤ 64 → length (enc_ty t) ≤ 64
unfolding enc_ty
short_member t h = omega arith

pub short_dom : (t u : Ty) → length (enc_ty (relation t u)) ≤ 64 → length (enc_ty (pow t)) ≤ 64
unfolding enc_ty
short_dom t u h = omega (arith, length-append (enc_ty t) (enc_ty u))

short_ran : (t u : Ty) → length (enc_ty (relation t u)) ≤ 64 → length (enc_ty (pow u)) ≤ 64
unfolding enc_ty
short_ran t u h = omega (arith, length-append (enc_ty t) (enc_ty u))

pub wf_of : (σ : ℕ → Ty) (t : Ty) → TyOk σ t → TyWf t
wf_of σ bool h = tt
wf_of σ int h = tt
wf_of σ (given n) h = h.0
wf_of σ (pow t) h = wf_of σ t h
wf_of σ (prod t u) h = (wf_of σ t h.0, wf_of σ u h.1)

module _ {σ : ℕ → Ty} {Γ : Ctx} where
  -- ---- predicates
  pub true_holds : Holds σ Γ ⊤
  unfolding class_of lookup form_at enc_ty
  true_holds = build 610 0 [] nil [] (these_head 610 0 (lit< tt) refl refl tt refl) refl (lit≤ tt) are_none

  pub false_holds : Holds σ Γ ⊥ᵖ
  unfolding class_of lookup form_at enc_ty
  false_holds = build 611 0 [] nil [] (these_head 611 0 (lit< tt) refl refl tt refl) refl (lit≤ tt) are_none

  pub not_holds : {p : Tree} → Holds σ Γ p → Holds σ Γ (¬ᵖ p)
  unfolding class_of lookup form_at enc_ty
  not_holds {p} h = build 701 0 [] (sole p) _ (these_head 701 1 (lit< tt) refl refl tt refl) refl (lit≤ tt) (are_one h)

  pub finite_holds : {s : Tree} {u : Ty} → Has σ Γ s (pow u) → Holds σ Γ (fin s)
  unfolding class_of lookup form_at enc_ty
  finite_holds {s} h = build 620 0 [] (sole s) _ (these_head 620 1 (lit< tt) refl refl tt refl) refl (lit≤ tt) (are_one h)

  pub equal_holds : {a b : Tree} {t : Ty} → Has σ Γ a t → Has σ Γ b t → Holds σ Γ (a ≐ b)
  unfolding class_of lookup form_at enc_ty
  equal_holds {a} {b} h k = build 101 0 [] (pair a b) _ (these_head 101 2 (lit< tt) refl refl tt refl) refl (lit≤ tt) (are_two h k)

  pub lt_holds : {a b : Tree} → Has σ Γ a int → Has σ Γ b int → Holds σ Γ (two #Lt a b)
  unfolding class_of lookup form_at enc_ty
  lt_holds {a} {b} h k = build 103 0 [] (pair a b) _ (these_head 103 2 (lit< tt) refl refl tt refl) refl (lit≤ tt) (are_two h k)

  pub le_holds : {a b : Tree} → Has σ Γ a int → Has σ Γ b int → Holds σ Γ (two #Le a b)
  unfolding class_of lookup form_at enc_ty
  le_holds {a} {b} h k = build 104 0 [] (pair a b) _ (these_head 104 2 (lit< tt) refl refl tt refl) refl (lit≤ tt) (are_two h k)

  pub gt_holds : {a b : Tree} → Has σ Γ a int → Has σ Γ b int → Holds σ Γ (two #Gt a b)
  unfolding class_of lookup form_at enc_ty
  gt_holds {a} {b} h k = build 105 0 [] (pair a b) _ (these_head 105 2 (lit< tt) refl refl tt refl) refl (lit≤ tt) (are_two h k)

  pub ge_holds : {a b : Tree} → Has σ Γ a int → Has σ Γ b int → Holds σ Γ (two #Ge a b)
  unfolding class_of lookup form_at enc_ty
  ge_holds {a} {b} h k = build 106 0 [] (pair a b) _ (these_head 106 2 (lit< tt) refl refl tt refl) refl (lit≤ tt) (are_two h k)

  pub in_holds : {a s : Tree} {t : Ty} → Has σ Γ a t → Has σ Γ s (pow t) → Holds σ Γ (a ∈ᵖ s)
  unfolding class_of lookup form_at enc_ty
  in_holds {a} {s} h k = build 107 0 [] (pair a s) _ (these_head 107 2 (lit< tt) refl refl tt refl) refl (lit≤ tt) (are_two h k)

  pub subset_holds : {s t : Tree} {u : Ty} → Has σ Γ s (pow u) → Has σ Γ t (pow u) → Holds σ Γ (s ⊆ t)
  unfolding class_of lookup form_at enc_ty
  subset_holds {s} {t} h k = build 111 0 [] (pair s t) _ (these_head 111 2 (lit< tt) refl refl tt refl) refl (lit≤ tt) (are_two h k)

  pub imp_holds : {p q : Tree} → Holds σ Γ p → Holds σ Γ q → Holds σ Γ (p ⇒ q)
  unfolding class_of lookup form_at enc_ty
  imp_holds {p} {q} h k = build 251 0 [] (pair p q) _ (these_head 251 2 (lit< tt) refl refl tt refl) refl (lit≤ tt) (are_two h k)

  pub eqv_holds : {p q : Tree} → Holds σ Γ p → Holds σ Γ q → Holds σ Γ (p ⇔ q)
  unfolding class_of lookup form_at enc_ty
  eqv_holds {p} {q} h k = build 252 0 [] (pair p q) _ (these_head 252 2 (lit< tt) refl refl tt refl) refl (lit≤ tt) (are_two h k)

  pub and_holds : (ps : Forest) → 2 ≤ count ps → count ps ≤ 255 → Each σ Γ predicate bool ps → Holds σ Γ (⋀ ps)
  unfolding class_of lookup form_at enc_ty
  and_holds ps l m h =
      build 351 0 [] ps (copies bool ps) (counted_head 351 (count ps) (lit< tt) refl refl tt refl l m (lit< tt)) (alike_copies bool ps)
      (lit≤ tt) (are_each predicate bool ps h)

  pub or_holds : (ps : Forest) → 2 ≤ count ps → count ps ≤ 255 → Each σ Γ predicate bool ps → Holds σ Γ (⋁ ps)
  unfolding class_of lookup form_at enc_ty
  or_holds ps l m h =
      build 352 0 [] ps (copies bool ps) (counted_head 352 (count ps) (lit< tt) refl refl tt refl l m (lit< tt)) (alike_copies bool ps)
      (lit≤ tt) (are_each predicate bool ps h)

  pub and_two : {p q : Tree} → Holds σ Γ p → Holds σ Γ q → Holds σ Γ (⋀ (pair p q))
  and_two {p} {q} h k = and_holds (pair p q) (lit≤ tt) (lit≤ tt) (h, (k, tt))

  pub or_two : {p q : Tree} → Holds σ Γ p → Holds σ Γ q → Holds σ Γ (⋁ (pair p q))
  or_two {p} {q} h k = or_holds (pair p q) (lit≤ tt) (lit≤ tt) (h, (k, tt))

  pub forall_holds : {xs : List Ty} {p : Tree} → Binders σ xs → Holds σ (push xs Γ) p → Holds σ Γ (∀ᵖ xs p)
  unfolding class_of lookup form_at enc_ty
  forall_holds {xs} {p} b h = build 851 0 xs (sole p) _ (binding_head 851 1 (lit< tt) refl refl tt refl b) refl (lit≤ tt) (are_one h)

  pub exists_holds : {xs : List Ty} {p : Tree} → Binders σ xs → Holds σ (push xs Γ) p → Holds σ Γ (∃ᵖ xs p)
  unfolding class_of lookup form_at enc_ty
  exists_holds {xs} {p} b h = build 852 0 xs (sole p) _ (binding_head 852 1 (lit< tt) refl refl tt refl b) refl (lit≤ tt) (are_one h)

  -- ---- expressions
  pub true_has : Has σ Γ (leaf #True) bool
  unfolding class_of lookup form_at enc_ty
  true_has = build 405 0 [] nil [] (these_head 405 0 (lit< tt) refl refl tt refl) refl (lit≤ tt) are_none

  pub false_has : Has σ Γ (leaf #False) bool
  unfolding class_of lookup form_at enc_ty
  false_has = build 406 0 [] nil [] (these_head 406 0 (lit< tt) refl refl tt refl) refl (lit≤ tt) are_none

  pub empty_has : (u : Ty) → TyOk σ u → length (enc_ty (pow u)) ≤ 64 → Has σ Γ (∅ (pow u)) (pow u)
  unfolding class_of lookup form_at
  empty_has u h l =
      build 407 0 (pow u ∷ []) nil []
      (record {
        formed = record {
          small = lit< tt;
          listed = refl;
          sort = refl;
          fits = lit< tt;
          own = refl;
          range = refl;
          many = refl;
          types = (wf_of σ u h, l, tt);
        };
        indexed = refl;
        named = tt;
        types = (h, tt);
        shaped = refl;
      })
      refl l are_none

  pub single_has : {a : Tree} {t : Ty} → length (enc_ty (pow t)) ≤ 64 → Has σ Γ a t → Has σ Γ (ext (sole a)) (pow t)
  unfolding class_of lookup form_at
  single_has {a} l h = build 5 0 [] (sole a) _ (counted_head 5 1 (lit< tt) refl refl tt refl (lit≤ tt) (lit≤ tt) (lit< tt)) refl l (are_one h)

  pub dom_has : {r : Tree} {t u : Ty} → Has σ Γ r (relation t u) → Has σ Γ (dom r) (pow t)
  unfolding class_of lookup form_at
  dom_has {r} {t} {u} h = build 756 0 [] (sole r) _ (these_head 756 1 (lit< tt) refl refl tt refl) refl (short_dom t u (short h)) (are_one h)

  pub ran_has : {r : Tree} {t u : Ty} → Has σ Γ r (relation t u) → Has σ Γ (ran r) (pow u)
  unfolding class_of lookup form_at
  ran_has {r} {t} {u} h = build 757 0 [] (sole r) _ (these_head 757 1 (lit< tt) refl refl tt refl) refl (short_ran t u (short h)) (are_one h)

  pub restrict_has : {s r : Tree} {t u : Ty} → Has σ Γ s (pow t) → Has σ Γ r (relation t u) → Has σ Γ (two #DomRes s r) (relation t u)
  unfolding class_of lookup form_at
  restrict_has {s} {r} h k = build 217 0 [] (pair s r) _ (these_head 217 2 (lit< tt) refl refl tt refl) refl (short k) (are_two h k)

  pub set_has : {xs : List Ty} {p e : Tree} {t : Ty} → Binders σ xs → length (enc_ty (pow t)) ≤ 64 → Holds σ (push xs Γ) p → Has σ (push xs Γ) e t
      → Has σ Γ (bodied #CSet xs p e) (pow t)
  unfolding class_of lookup form_at
  set_has {xs} {p} {e} b l h k = build 803 0 xs (pair p e) _ (binding_head 803 2 (lit< tt) refl refl tt refl b) refl l (are_two h k)

  pub cap_has : (k : Tree) (ks : Forest) (u : Ty) → 1 ≤ count ks → count ks ≤ 254 → Each σ Γ expression (pow u) (cons k ks)
      → Has σ Γ (inters (cons k ks)) (pow u)
  unfolding class_of lookup form_at
  cap_has k ks u l m h =
      build 302 0 [] (cons k ks) (copies (pow u) (cons k ks))
      (counted_head 302 (suc (count ks)) (lit< tt) refl refl tt refl (omega arith) (omega arith) (lit< tt))
      (alike_copies (pow u) (cons k ks)) (short h.0) (are_each expression (pow u) (cons k ks) h)

  pub cup_has : (k : Tree) (ks : Forest) (u : Ty) → 1 ≤ count ks → count ks ≤ 254 → Each σ Γ expression (pow u) (cons k ks)
      → Has σ Γ (many #BUnion (cons k ks)) (pow u)
  unfolding class_of lookup form_at
  cup_has k ks u l m h =
      build 301 0 [] (cons k ks) (copies (pow u) (cons k ks))
      (counted_head 301 (suc (count ks)) (lit< tt) refl refl tt refl (omega arith) (omega arith) (lit< tt))
      (alike_copies (pow u) (cons k ks)) (short h.0) (are_each expression (pow u) (cons k ks) h)

  pub cap_two : {a b : Tree} {u : Ty} → Has σ Γ a (pow u) → Has σ Γ b (pow u) → Has σ Γ (inters (pair a b)) (pow u)
  cap_two {a} {b} {u} h k = cap_has a (sole b) u (lit≤ tt) (lit≤ tt) (h, (k, tt))

  over_has : (g : ℕ) (u : Ty) → ((k : Tree) (ks : Forest) → 1 ≤ count ks → count ks ≤ 254 → Each σ Γ expression (pow u) (cons k ks)
      → Has σ Γ (many g (cons k ks)) (pow u)) → (ks : Forest) → 1 ≤ count ks → count ks ≤ 255 → Each σ Γ expression (pow u) ks
      → Has σ Γ (over g ks) (pow u)
  over_has g u f nil l m h = absurd (omega arith)
  over_has g u f (cons a nil) l m h = h.0
  over_has g u f (cons a (cons b ks)) l m h = f a (cons b ks) (omega arith) (omega arith) h

  pub over_cap : (ks : Forest) (u : Ty) → 1 ≤ count ks → count ks ≤ 255 → Each σ Γ expression (pow u) ks → Has σ Γ (over #BInter ks) (pow u)
  over_cap ks u = over_has #BInter u (λ k ls. cap_has k ls u) ks

  pub over_cup : (ks : Forest) (u : Ty) → 1 ≤ count ks → count ks ≤ 255 → Each σ Γ expression (pow u) ks → Has σ Γ (over #BUnion ks) (pow u)
  over_cup ks u = over_has #BUnion u (λ k ls. cup_has k ls u) ks

  -- a type's expression
  pub type_has : (u : Ty) → TyOk σ u → length (enc_ty (pow u)) ≤ 64 → Has σ Γ (to_expression u) (pow u)
  type_has u h l = let x = type_expression σ u Γ h l in record { accepted = x.1; type = x.0 }

  -- ---- S = ∅ and S = Ty
  module _ (ok : TysOk σ Γ) where
    pub is_empty_lem : {s : Tree} {u : Ty} → Has σ Γ s (pow u) → Holds σ Γ (◌≐∅ Γ s)
    is_empty_lem {s} {u} h = rw h.type (equal_holds h (empty_has u (ok_of ok h) (short h)))

    pub is_type_lem : {s : Tree} {u : Ty} → Has σ Γ s (pow u) → Holds σ Γ (◌≐Ty Γ s)
    is_type_lem {s} {u} h = rw h.type (equal_holds h (type_has u (ok_of ok h) (short h)))
