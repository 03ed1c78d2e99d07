-- The ways out of finite_set_at of src/finite.rt.
use Rattle.std.proofs.Common.{Option, Some, None}
use mathlib.Core.Path.{◌≡◌, refl, sym, ap, ◌∙◌}
use mathlib.Core.Bool.{Bool, true, false}
use mathlib.Core.List.{List, []}
use Prim.Native.Nat.{ℕ, ◌+◌, ◌<◌}
use lib.ListN.{length, get_or}
use borrow.Author.Tests.{ne_eqb}
use Rattle.frame.specs.Types.{Ty}
use Rattle.frame.specs.Trees.{head, Tree, node, nil, cons, tag_of, bodied}
use Rattle.frame.specs.Tags.{expression, lookup, class_of, form_at}
use Rattle.frame.specs.Operators.{#CSet}
use Rattle.frame.specs.Places.{Ctx, push, found, find}
use Rattle.nav.specs.PlaceTables.{Table, Placed, TagPost}
use Rattle.nav.proofs.Hops.{place_sorted}
use Rattle.nav.proofs.SamePlaces.{two_children}
use Rattle.rules.specs.Change.{to, same, on_tag}
use Rattle.rules.specs.Finite.{finite, functional_check, finite_lambda}
use Rattle.functional.specs.Functional.{BindersPost, Both, FunctionalPost}
use Rattle.templates.proofs.RightSides.{side, right_side}
use Rattle.predicates.specs.FiniteSet.{SetPre, SetPost}
use Rattle.decision.specs.declared.Decision.{Decision}
use Rattle.decision.specs.declared.Decision.TheVariants as D
use Rattle.decision.proofs.Shapes.{place_few, placed, Double, double, fixed_at}

module _ (s st nx : List ℕ) (k : ℕ) where
  pub set_few : SetPre s st nx k → k < 2048
  set_few h = place_few h.table h.there

  pub set_placed : SetPre s st nx k → Placed s st k
  set_placed h = placed h.table h.there

  module _ (j : ℕ) (ej : j ≡ get_or nx (k + 1) 0) where
    -- the predicate, and the value
    pub record Parts (t : Tree) (Γ : Ctx) (us : List Ty) (p e : Tree) : Type 0 where
      pub body : find t [] (k + 1) ≡ found (push us Γ) p
      pub value : find t [] j ≡ found (push us Γ) e

    parts : (t : Tree) (n : ℕ) (Γ : Ctx) (x : ℕ) (us : List Ty) (p e : Tree) → Table s t st nx n
        → find t [] k ≡ found Γ (node (head #CSet x us) (cons p (cons e nil))) → Parts t Γ us p e
    unfolding lookup class_of form_at
    parts t n Γ x us p e tb f =
        let c = two_children t nx tb.follows k Γ 803 x us p e f in
        record { body = c.0; value = rw ej c.1 }

    here_parts : (h : SetPre s st nx k) → Parts h.t h.Γ h.us h.p h.e
    here_parts h = parts h.t h.n h.Γ h.x h.us h.p h.e h.table h.there

    pub value_placed : SetPre s st nx k → Placed s st j
    value_placed h = placed h.table (here_parts h).value

    pub value_few : SetPre s st nx k → j < 2048
    value_few h = place_few h.table (here_parts h).value

    module _ (tag : ℕ) (pt : TagPost s st j tag) where
      pub set_other : (tag ≡ 201 → ⊥) → SetPost s st nx k None
      unfolding on_tag
      set_other d =
          record {
            means = λ t n Γ x us p e tb f w Ξ kept.
                go us p e (λ q. d (pt.tag t n (push us Γ) e tb.framed (parts t n Γ x us p e tb f).value ∙ q));
          }
        where
          go : (us : List Ty) (p e : Tree) → (tag_of e ≡ 201 → ⊥) → finite_lambda us p e ≡ same
          go us p (node (head g n vs) ks) h = rw (ne_eqb g 201 h)

      module _ (key : tag ≡ 201) (i : ℕ) (ei : i ≡ get_or nx (j + 1) 0) where
        -- the two sides of the maplet
        record Sides (t : Tree) (Γ : Ctx) (us : List Ty) (e : Tree) : Type 0 where
          shape : Double 201 e
          left : find t [] (j + 1) ≡ found (push us Γ) shape.a
          right : find t [] i ≡ found (push us Γ) shape.b

        sides : (t : Tree) (n : ℕ) (Γ : Ctx) (us : List Ty) (e : Tree) → Table s t st nx n → find t [] j ≡ found (push us Γ) e → Sides t Γ us e
        unfolding lookup class_of form_at
        sides t n Γ us e tb f =
            let Δ : Ctx = push us Γ in
            let o = double 201 expression expression (λ x. refl) e (place_sorted s t st n tb.framed j Δ e f)
            (sym (pt.tag t n Δ e tb.framed f) ∙ key) in
            let c = two_children t nx tb.follows j Δ 201 o.n o.us o.a o.b (f ∙ ap (found Δ) o.is) in
            record { shape = o; left = c.0; right = rw ei c.1 }

        pub set_sides : SetPre s st nx k → Both s st nx (j + 1) i
        set_sides h =
            let q = sides h.t h.n h.Γ h.us h.e h.table (here_parts h).value in
            record {
              t = h.t;
              N = h.n;
              table = h.table;
              Γ = push h.us
                  h.Γ;
              v = q.shape.a;
              w = q.shape.b;
              at_left = q.left;
              at_right = q.right;
            }

        module _ (n : ℕ) (pn : BindersPost s st k n) (b : Bool) (pb : FunctionalPost s st nx (j + 1) i n b) where
          -- what the check says of the two sides
          says : (t : Tree) (N : ℕ) (Γ : Ctx) (x : ℕ) (us : List Ty) (p e : Tree) → Table s t st nx N
              → find t [] k ≡ found Γ (node (head #CSet x us) (cons p (cons e nil))) → (q : Sides t Γ us e)
              → b ≡ functional_check q.shape.a q.shape.b (length us)
          unfolding lookup class_of form_at
          says t N Γ x us p e tb f q =
              let z : n ≡ length us = pn.binders t N Γ 803 x us (cons p (cons e nil)) tb.framed f in
              pb.says t N (push us Γ) q.shape.a q.shape.b tb q.left q.right ∙ ap (functional_check q.shape.a q.shape.b) z

          pub set_11 : b ≡ true → (r : Option Decision) → r ≡ Some (D.Fixed 11 11 (k + 1) (j + 1) k) → SetPost s st nx k r
          unfolding on_tag lookup class_of form_at side
          set_11 z r er =
              record {
                means = λ t N Γ x us p e tb f w Ξ kept.
                    let h = parts t N Γ x us p e tb f in
                    let q = sides t N Γ us e tb h.value in
                    let a : Tree = q.shape.a in
                    let y : functional_check a q.shape.b (length us) ≡ true = sym (says t N Γ x us p e tb f q) ∙ z in
                    let new : Tree = finite (bodied #CSet us p a) in
                    rw (er, q.shape.is, y)
                    (fixed_at t 11 11 (to 11 new) new refl (k + 1) (j + 1) k (push us Γ) Γ p a
                    (node (head #CSet x us) (cons p (cons e nil))) h.body q.left f refl
                    (sym (right_side 11 refl (push us Γ) p a us)));
              }

          pub set_none : b ≡ false → SetPost s st nx k None
          unfolding on_tag
          set_none z =
              record {
                means = λ t N Γ x us p e tb f w Ξ kept.
                    let q = sides t N Γ us e tb (parts t N Γ x us p e tb f).value in
                    let y : functional_check q.shape.a q.shape.b (length us) ≡ false = sym (says t N Γ x us p e tb f q) ∙ z in
                    rw (q.shape.is, y) refl;
              }
