-- The ways out of rewrite_equals_type of src/equals.rt: a law over the tags for each shape of a right side.
use mathlib.Core.Path.{◌≡◌, refl, ap}
use mathlib.Core.Bool.{true}
use mathlib.Core.List.{List, [], ◌∷◌}
use Prim.Native.Nat.{ℕ}
use borrow.Author.Tests.{ne_eqb}
use Rattle.std.proofs.Common.{None}
use Rattle.frame.specs.Trees.{head, Tree, node, tag_of}
use Rattle.frame.specs.Tags.{predicate, expression, lookup, class_of, form_at}
use Rattle.frame.specs.Places.{Ctx}
use Rattle.typing.specs.Typing.{type_of}
use Rattle.nav.specs.PlaceTables.{TagPost}
use Rattle.rules.specs.Change.{to, same, on_tag}
use Rattle.rules.specs.EqualsType.{rewrite_equals_type}
use Rattle.rules.proofs.EmptyInstance.{joined_many}
use Rattle.templates.proofs.Joins.{and_bytes}
use Rattle.templates.proofs.RightSides.{side}
use Rattle.decision.specs.Decides.{Decides}
use Rattle.decision.proofs.Shapes.{OfChild, OfTwo, OfEach, by_rest, by_single, by_double, by_each}
use Rattle.decision.proofs.TagRows.{Row, row, is_row, by_doubles}

-- ---- the tags, each with its place
-- a right side of the two children
abbrev pub twos : List Row
twos = row 213 25 ∷ row 214 26 ∷ row 221 27 ∷ row 217 28 ∷ row 218 29 ∷ row 219 30 ∷ row 220 31 ∷ row 215 32 ∷ row 216 32 ∷ []

module _ (s st nx : List ℕ) (k tag : ℕ) (pt : TagPost s st k tag) where
  pub type_two : (g p : ℕ) → is_row twos g p ≡ true → OfTwo rewrite_equals_type s st nx k tag g p
  unfolding on_tag lookup class_of form_at side rewrite_equals_type
  type_two = by_doubles rewrite_equals_type s st nx k tag pt twos refl refl expression expression (λ x. refl) (λ Γ n us a b. refl)

  pub type_24 : OfEach rewrite_equals_type s st nx k tag 302 24
  unfolding on_tag lookup class_of form_at side rewrite_equals_type
  type_24 = by_each rewrite_equals_type s st nx k tag pt 302 24 refl refl (λ n us m. refl) and_bytes
      (λ Γ n us ks l. ap (to 24) (joined_many 351 (λ a. side 24 Γ a a us) ks l))

  pub type_33 : OfChild rewrite_equals_type s st nx k tag 755 33
  unfolding on_tag lookup class_of form_at type_of side rewrite_equals_type
  type_33 = by_single rewrite_equals_type s st nx k tag pt 755 33 refl refl expression (λ x. refl) (λ Γ n us a. refl)

  pub type_34 : OfChild rewrite_equals_type s st nx k tag 763 34
  unfolding on_tag lookup class_of form_at type_of side rewrite_equals_type
  type_34 = by_single rewrite_equals_type s st nx k tag pt 763 34 refl refl expression (λ x. refl) (λ Γ n us a. refl)

  pub type_35 : OfTwo rewrite_equals_type s st nx k tag 802 35
  unfolding on_tag lookup class_of form_at side rewrite_equals_type
  type_35 = by_double rewrite_equals_type s st nx k tag pt 802 35 refl refl predicate expression (λ x. refl) (λ Γ n us a b. refl)

  pub type_none : (tag ≡ 302 → ⊥) → (tag ≡ 213 → ⊥) → (tag ≡ 214 → ⊥) → (tag ≡ 221 → ⊥) → (tag ≡ 217 → ⊥) → (tag ≡ 218 → ⊥)
      → (tag ≡ 219 → ⊥) → (tag ≡ 220 → ⊥) → (tag ≡ 215 → ⊥) → (tag ≡ 216 → ⊥) → (tag ≡ 755 → ⊥) → (tag ≡ 763 → ⊥) → (tag ≡ 802 → ⊥)
      → Decides rewrite_equals_type s st nx k None
  unfolding on_tag rewrite_equals_type
  type_none h0 h1 h2 h3 h4 h5 h6 h7 h8 h9 h10 h11 h12 = by_rest rewrite_equals_type s st nx k tag pt (λ Γ v. rest Γ v) None refl
    where
      rest : (Γ : Ctx) (v : Tree) → tag_of v ≡ tag → rewrite_equals_type Γ v ≡ same
      rest Γ (node (head o n us) ks) z = rw z (simp (
        ne_eqb tag 302 h0,
        ne_eqb tag 213 h1,
        ne_eqb tag 214 h2,
        ne_eqb tag 221 h3,
        ne_eqb tag
            217 h4,
        ne_eqb tag 218 h5,
        ne_eqb tag 219 h6,
        ne_eqb tag 220 h7,
        ne_eqb tag 215 h8,
        ne_eqb tag 216 h9,
        ne_eqb tag 755 h10,
        ne_eqb tag 763 h11,
        ne_eqb tag 802 h12,
      ))
