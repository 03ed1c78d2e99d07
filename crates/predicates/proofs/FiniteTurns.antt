-- The ways out of rewrite_finite and finite_restricted_at of src/finite.rt: a law over the tags for each shape of a right side.
use Rattle.std.proofs.Common.{Option, Some, None}
use mathlib.Core.Path.{◌≡◌, refl, sym, ap, ◌∙◌}
use mathlib.Core.Bool.{true, ◌||◌}
use mathlib.Core.List.{List, [], ◌∷◌}
use Prim.Native.Nat.{ℕ, ◌+◌, ◌≤◌, ◌<◌}
use native.Mathlib.Omega.{arith}
use lib.Dec.{eqb}
use lib.ListN.{get_or}
use borrow.Author.Tests.{ne_eqb}
use Rattle.frame.specs.Trees.{head, Tree, node, tag_of}
use Rattle.frame.specs.Tags.{predicate, expression, lookup, class_of, form_at}
use Rattle.frame.specs.Places.{Ctx, found, find}
use Rattle.typing.specs.Typing.{type_of}
use Rattle.nav.specs.PlaceTables.{Table, TagPost}
use Rattle.nav.proofs.Hops.{place_sorted}
use Rattle.rules.specs.Change.{same, on_tag}
use Rattle.rules.specs.Finite.{finite_lambda, rewrite_finite}
use Rattle.templates.proofs.Joins.{and_bytes}
use Rattle.templates.proofs.RightSides.{side}
use Rattle.decision.specs.Decides.{Here, HereTwo, Decides, DecidesTwo}
use Rattle.decision.specs.RulesAt.{finite_restricted}
use Rattle.predicates.specs.FiniteSet.{SetPre, SetPost}
use Rattle.decision.specs.declared.Decision.{Decision}
use Rattle.decision.specs.declared.Decision.TheVariants as D
use Rattle.decision.proofs.Shapes.{Double, double, OfNode, OfChild, OfTwo, OfEach, by_rest, by_double, by_each, or_same, two_here, by_two}
use Rattle.decision.proofs.TagRows.{Row, row, is_row, by_children, by_nodes}
use Rattle.decision.proofs.TwoPlaces.{on_left}

-- ---- the tags, each with its place
-- a right side of the node itself, or without operands
abbrev pub nodes : List Row
nodes = row 407 1 ∷ row 402 2 ∷ row 403 2 ∷ row 401 2 ∷ row 404 3 ∷ row 412 4 ∷ row 5 5 ∷ row 221 10 ∷ row 410 13 ∷ row 411 13 ∷ []

-- a right side of the child
abbrev pub children : List Row
children = row 752 7 ∷ row 763 9 ∷ []

module _ (s st nx : List ℕ) (k tag : ℕ) (pt : TagPost s st k tag) where
  pub finite_node : (g p : ℕ) → is_row nodes g p ≡ true → OfNode rewrite_finite s st nx k tag g p
  unfolding on_tag lookup class_of form_at type_of side rewrite_finite
  finite_node = by_nodes rewrite_finite s st nx k tag pt nodes refl refl (λ Γ n us ks. refl)

  pub finite_child : (g p : ℕ) → is_row children g p ≡ true → OfChild rewrite_finite s st nx k tag g p
  unfolding on_tag lookup class_of form_at type_of side rewrite_finite
  finite_child = by_children rewrite_finite s st nx k tag pt children refl refl expression (λ x. refl) (λ Γ n us a. refl)

  pub finite_6 : OfEach rewrite_finite s st nx k tag 301 6
  unfolding on_tag lookup class_of form_at side rewrite_finite
  finite_6 = by_each rewrite_finite s st nx k tag pt 301 6 refl refl (λ n us m. refl) and_bytes (λ Γ n us ks l. refl)

  pub finite_8 : OfTwo rewrite_finite s st nx k tag 214 8
  unfolding on_tag lookup class_of form_at side rewrite_finite
  finite_8 = by_double rewrite_finite s st nx k tag pt 214 8 refl refl expression expression (λ x. refl) (λ Γ n us a b. refl)

  -- a comprehension set: by its predicate and its value
  module _ (key : tag ≡ 803) where
    shape : {t : Tree} {n : ℕ} {Γ : Ctx} {v : Tree} → Table s t st nx n → find t [] k ≡ found Γ v → Double 803 v
    unfolding lookup class_of form_at
    shape {t} {n} {Γ} {v} tb f =
        double 803 predicate expression (λ x. refl) v (place_sorted s t st n tb.framed k Γ v f) (sym (pt.tag t n Γ v tb.framed f) ∙ key)

    pub set_here : Here s st nx k → SetPre s st nx k
    set_here h =
        let o = shape h.table h.there in
        record {
          t = h.t;
          n = h.n;
          table = h.table;
          Γ = h.Γ;
          x = o.n;
          us = o.us;
          p = o.a;
          e = o.b;
          there = h.there ∙
              ap (found h.Γ) o.is;
        }

    pub finite_set : (r : Option Decision) → SetPost s st nx k r → Decides rewrite_finite s st nx k r
    unfolding on_tag rewrite_finite
    finite_set r post =
        record {
          means = λ t n Γ v tb f w Ξ kept.
              let o = shape tb f in
              rw (o.is, or_same (finite_lambda o.us o.a o.b))
              (post.means t n Γ o.n o.us o.a o.b tb (f ∙ ap (found Γ) o.is) w Ξ kept);
        }

  -- ◁: by its two operands
  module _ (key : tag ≡ 217) (j : ℕ) (ej : j ≡ get_or nx (k + 1) 0) where
    pub restricted_here : Here s st nx k → HereTwo s st nx (k + 1) j
    unfolding lookup class_of form_at
    restricted_here = two_here s st nx k tag pt 217 key expression expression (λ x. refl) j ej

    pub finite_restricted_lem : (r : Option Decision) → DecidesTwo finite_restricted s st nx (k + 1) j r → Decides rewrite_finite s st nx k r
    unfolding on_tag lookup class_of form_at rewrite_finite
    finite_restricted_lem =
        by_two s st nx k tag pt 217 key expression expression (λ x. refl) j ej rewrite_finite finite_restricted
        (λ Γ n us a b. or_same (finite_restricted a b))

  pub finite_none : (tag ≡ 407 → ⊥) → (tag ≡ 402 → ⊥) → (tag ≡ 403 → ⊥) → (tag ≡ 401 → ⊥) → (tag ≡ 404 → ⊥) → (tag ≡ 412 → ⊥)
      → (tag ≡ 5 → ⊥) → (tag ≡ 301 → ⊥) → (tag ≡ 752 → ⊥) → (tag ≡ 214 → ⊥) → (tag ≡ 763 → ⊥) → (tag ≡ 221 → ⊥) → (tag ≡ 803 → ⊥)
      → (tag ≡ 217 → ⊥) → (tag ≡ 410 → ⊥) → (tag ≡ 411 → ⊥) → Decides rewrite_finite s st nx k None
  unfolding on_tag rewrite_finite
  finite_none h0 h1 h2 h3 h4 h5 h6 h7 h8 h9 h10 h11 h12 h13 h14 h15 = by_rest rewrite_finite s st nx k tag pt (λ Γ v. rest Γ v) None refl
    where
      rest : (Γ : Ctx) (v : Tree) → tag_of v ≡ tag → rewrite_finite Γ v ≡ same
      rest Γ (node (head o n us) ks) z = rw z (simp (
        ne_eqb tag 407 h0,
        ne_eqb tag 402 h1,
        ne_eqb tag 403 h2,
        ne_eqb tag 401 h3,
        ne_eqb tag
            404 h4,
        ne_eqb tag 412 h5,
        ne_eqb tag 5 h6,
        ne_eqb tag 301 h7,
        ne_eqb tag 752 h8,
        ne_eqb tag 214 h9,
        ne_eqb tag 763 h10,
        ne_eqb tag 221 h11,
        ne_eqb tag 803 h12,
        ne_eqb tag 217 h13,
        ne_eqb tag 410 h14,
        ne_eqb tag 411 h15,
      ))

-- ---- finite(S ◁ r), where r is id, prj1 or prj2
module _ (s st nx : List ℕ) (a b tag : ℕ) (pt : TagPost s st b tag) where
  pub restricted_12 : 410 ≤ tag → tag < 413 → (r : Option Decision) → r ≡ Some (D.Fixed 12 12 a a a) → DecidesTwo finite_restricted s st nx a b r
  unfolding side
  restricted_12 l h =
      let z : (eqb tag 412 || (eqb tag 410 || eqb tag 411)) ≡ true = grind (arith, l, h) in
      on_left finite_restricted s st nx a b 12 refl refl (λ t n Γ v w tb fa fb. rw (← pt.tag t n Γ w tb.framed fb, z) refl)
