-- The ways out of rewrite_equals_empty_set and empty_by_tag of src/equals.rt: a law over the tags for each shape of a right side.
use mathlib.Core.Path.{◌≡◌, refl, sym, ap, ◌∙◌}
use mathlib.Core.Bool.{true}
use mathlib.Core.List.{List, [], ◌∷◌}
use Prim.Native.Nat.{ℕ}
use borrow.Author.Tests.{ne_eqb}
use Rattle.std.proofs.Common.{Option, None}
use Rattle.frame.specs.Trees.{head, Tree, node, tag_of}
use Rattle.frame.specs.Tags.{predicate, expression, lookup, class_of, form_at}
use Rattle.frame.specs.Places.{Ctx, found}
use Rattle.typing.specs.Typing.{type_of}
use Rattle.nav.specs.PlaceTables.{TagPost}
use Rattle.rules.specs.Change.{to, same, on_tag}
use Rattle.rules.specs.EqualsEmptySet.{inter_empty, rewrite_equals_empty_set}
use Rattle.rules.proofs.EmptyInstance.{joined_many}
use Rattle.templates.proofs.Joins.{and_bytes}
use Rattle.templates.proofs.RightSides.{side}
use Rattle.decision.specs.Decides.{Here, Decides, ByTag, Unlike}
use Rattle.rewriter.specs.Inter.{InterPre, InterPost}
use Rattle.decision.specs.RulesAt.{looked_up}
use Rattle.decision.specs.declared.Decision.{Decision}
use Rattle.decision.proofs.Shapes.{any, OfNode, OfChild, OfTwo, OfEach, OfPair, by_rest, by_double, by_each, by_pair, or_same, two_or_none}
use Rattle.decision.proofs.TagRows.{Row, row, is_row, by_children, by_doubles, by_nodes}

-- ---- the tags, each with its place
-- a right side of the node itself, or without operands
abbrev pub nodes : List Row
nodes = row 5 36 ∷ row 402 60 ∷ row 403 60 ∷ row 412 61 ∷ row 410 61 ∷ row 411 61 ∷ []

-- a right side of the child
abbrev pub children : List Row
children = row 752 52 ∷ row 753 53 ∷ row 754 54 ∷ row 756 55 ∷ row 757 55 ∷ row 763 55 ∷ []

-- a right side of the two children
abbrev pub twos : List Row
twos = row 213 40 ∷ row 214 41 ∷ row 221 42 ∷ row 204 43 ∷ row 205 44 ∷ row 217 45 ∷ row 218 46 ∷ row 219 47 ∷ row 220 48 ∷ row 227 49 ∷
    row 215 50 ∷ row 216 51 ∷ []

module _ (s st nx : List ℕ) (k tag : ℕ) (pt : TagPost s st k tag) where
  pub empty_node : (g p : ℕ) → is_row nodes g p ≡ true → OfNode rewrite_equals_empty_set s st nx k tag g p
  unfolding on_tag lookup class_of form_at type_of side rewrite_equals_empty_set
  empty_node = by_nodes rewrite_equals_empty_set s st nx k tag pt nodes refl refl (λ Γ n us ks. refl)

  pub empty_child : (g p : ℕ) → is_row children g p ≡ true → OfChild rewrite_equals_empty_set s st nx k tag g p
  unfolding on_tag lookup class_of form_at type_of side rewrite_equals_empty_set
  empty_child = by_children rewrite_equals_empty_set s st nx k tag pt children refl refl expression (λ x. refl) (λ Γ n us a. refl)

  pub empty_two : (g p : ℕ) → is_row twos g p ≡ true → OfTwo rewrite_equals_empty_set s st nx k tag g p
  unfolding on_tag lookup class_of form_at side rewrite_equals_empty_set
  empty_two = by_doubles rewrite_equals_empty_set s st nx k tag pt twos refl refl expression expression (λ x. refl) (λ Γ n us a b. refl)

  pub empty_39 : OfEach rewrite_equals_empty_set s st nx k tag 301 39
  unfolding on_tag lookup class_of form_at side rewrite_equals_empty_set
  empty_39 = by_each rewrite_equals_empty_set s st nx k tag pt 301 39 refl refl (λ n us m. refl) and_bytes
      (λ Γ n us ks l. ap (to 39) (joined_many 351 (λ a. side 39 Γ a a us) ks l))

  pub empty_56 : OfPair rewrite_equals_empty_set s st nx k tag 304 56
  unfolding on_tag lookup class_of form_at side rewrite_equals_empty_set
  empty_56 = by_pair rewrite_equals_empty_set s st nx k tag pt 304 56 refl refl (λ Γ n us ks. two_or_none ks (λ a b. to 56 (side 56 Γ a b us)))

  pub empty_57 : OfPair rewrite_equals_empty_set s st nx k tag 303 57
  unfolding on_tag lookup class_of form_at side rewrite_equals_empty_set
  empty_57 = by_pair rewrite_equals_empty_set s st nx k tag pt 303 57 refl refl (λ Γ n us ks. two_or_none ks (λ a b. to 57 (side 57 Γ a b us)))

  pub empty_58 : OfEach rewrite_equals_empty_set s st nx k tag 305 58
  unfolding on_tag lookup class_of form_at side rewrite_equals_empty_set
  empty_58 = by_each rewrite_equals_empty_set s st nx k tag pt 305 58 refl refl (λ n us m. refl) and_bytes
      (λ Γ n us ks l. ap (to 58) (joined_many 351 (λ a. side 58 Γ a a us) ks l))

  pub empty_59 : OfTwo rewrite_equals_empty_set s st nx k tag 801 59
  unfolding on_tag lookup class_of form_at side rewrite_equals_empty_set
  empty_59 = by_double rewrite_equals_empty_set s st nx k tag pt 801 59 refl refl predicate expression (λ x. refl) (λ Γ n us a b. refl)

  -- an intersection
  pub inter_here : tag ≡ 302 → Here s st nx k → InterPre s st nx k
  inter_here key h =
      let o = any 302 h.v (sym (pt.tag h.t h.n h.Γ h.v h.table.framed h.there) ∙ key) in
      record { t = h.t; n = h.n; Γ = h.Γ; x = o.n; us = o.us; ks = o.ks; table = h.table; there = h.there ∙ ap (found h.Γ) o.is }

  pub empty_inter : tag ≡ 302 → (r : Option Decision) → InterPost s st nx k r → Decides rewrite_equals_empty_set s st nx k r
  unfolding on_tag rewrite_equals_empty_set
  empty_inter key r post = record {
    means = λ t n Γ v tb f w Ξ kept.
        let o = any 302 v (sym (pt.tag t n Γ v tb.framed f) ∙ key) in
        rw (o.is, or_same (inter_empty o.ks)) (post.means t n Γ o.n o.us o.ks tb (f ∙ ap (found Γ) o.is) w Ξ kept);
  }

-- no place of the source
pub empty_none : (k tag : ℕ) → Unlike tag looked_up → Unlike tag (411 ∷ 410 ∷ 412 ∷ 403 ∷ 402 ∷ 305 ∷ 763 ∷ 757 ∷ 756 ∷ 754 ∷ 753 ∷ 752 ∷ 301 ∷ 5 ∷ [])
    → ByTag rewrite_equals_empty_set tag k None
unfolding on_tag rewrite_equals_empty_set
empty_none k tag u v =
    record { decides = λ s st nx pt. by_rest rewrite_equals_empty_set s st nx k tag pt (λ Γ e. rest Γ e) None refl }
  where
    rest : (Γ : Ctx) (e : Tree) → tag_of e ≡ tag → rewrite_equals_empty_set Γ e ≡ same
    rest Γ (node (head o n us) ks) z = rw z (simp (
      ne_eqb tag 5 v.0.0.0.0.0.0.0.0.0.0.0.0.0.1,
      ne_eqb tag 302
          u.0.0.0.0.0.0.0.0.0.0.0.0.0.0.0.1,
      ne_eqb tag 301 v.0.0.0.0.0.0.0.0.0.0.0.0.1,
      ne_eqb tag 213
          u.0.0.0.0.0.0.0.0.0.0.0.0.0.0.1,
      ne_eqb tag 214 u.0.0.0.0.0.0.0.0.0.0.0.0.0.1,
      ne_eqb tag 221
          u.0.0.0.0.0.0.0.0.0.0.0.0.1,
      ne_eqb tag 204 u.0.0.0.0.0.0.0.0.0.0.0.1,
      ne_eqb tag 205
          u.0.0.0.0.0.0.0.0.0.0.1,
      ne_eqb tag 217 u.0.0.0.0.0.0.0.0.0.1,
      ne_eqb tag 218
          u.0.0.0.0.0.0.0.0.1,
      ne_eqb tag 219 u.0.0.0.0.0.0.0.1,
      ne_eqb tag 220
          u.0.0.0.0.0.0.1,
      ne_eqb tag 227 u.0.0.0.0.0.1,
      ne_eqb tag 215 u.0.0.0.0.1,
      ne_eqb tag 216
          u.0.0.0.1,
      ne_eqb tag 752 v.0.0.0.0.0.0.0.0.0.0.0.1,
      ne_eqb tag 753
          v.0.0.0.0.0.0.0.0.0.0.1,
      ne_eqb tag 754 v.0.0.0.0.0.0.0.0.0.1,
      ne_eqb tag 756
          v.0.0.0.0.0.0.0.0.1,
      ne_eqb tag 757 v.0.0.0.0.0.0.0.1,
      ne_eqb tag 763
          v.0.0.0.0.0.0.1,
      ne_eqb tag 304 u.0.0.1,
      ne_eqb tag 303 u.0.1,
      ne_eqb tag 305
          v.0.0.0.0.0.1,
      ne_eqb tag 801 u.1,
      ne_eqb tag 402 v.0.0.0.0.1,
      ne_eqb tag 403
          v.0.0.0.1,
      ne_eqb tag 412 v.0.0.1,
      ne_eqb tag 410 v.0.1,
      ne_eqb tag 411 v.1,
    ))
