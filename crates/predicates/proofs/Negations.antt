-- The ways out of src/negation.rt.
-- Main results: unequal_20 to unequal_23, unequal_none; not_compared, not_equal, not_none (on what is negated); not_other, of_inner.
use Rattle.std.proofs.Common.{Option, Some, None}
use mathlib.Core.Path.{◌≡◌, refl, sym, ◌∙◌}
use mathlib.Core.Bool.{true}
use mathlib.Core.List.{List, [], ◌∷◌}
use Prim.Native.Nat.{ℕ, ◌+◌}
use lib.ListN.{get_or}
use borrow.Author.Tests.{ne_eqb}
use Rattle.frame.specs.Trees.{head, Tree, node, tag_of, leaf, two}
use Rattle.frame.specs.Tags.{predicate, expression, lookup, class_of, form_at}
use Rattle.frame.specs.Operators.{#Equal, #True, #False}
use Rattle.nav.specs.PlaceTables.{TagPost}
use Rattle.rules.specs.Change.{to, same, on_tag, with1}
use Rattle.rules.specs.Negation.{rewrite_not, rewrite_not_inner}
use Rattle.templates.proofs.RightSides.{side}
use Rattle.decision.specs.Decides.{Here, HereTwo, DecidesOne, DecidesTwo, Unlike}
use Rattle.decision.specs.RulesAt.{unequal}
use Rattle.decision.specs.declared.Decision.{Decision}
use Rattle.decision.specs.declared.Decision.TheVariants as D
use Rattle.decision.proofs.Shapes.{OfTwo, by_rest, by_other, two_here, by_two}
use Rattle.decision.proofs.TagRows.{Row, row, is_row, by_doubles}
use Rattle.decision.proofs.TwoPlaces.{on_left, on_right_at_left}
use Rattle.decision.proofs.Descents.{here_child, by_child}

-- ---- ¬ a = b
module _ (v w : Tree) where
  ans_20 : tag_of w ≡ 406 → unequal v w ≡ to 20 (two #Equal v (leaf #True))
  unfolding on_tag
  ans_20 z = rw z

  ans_21 : tag_of w ≡ 405 → unequal v w ≡ to 21 (two #Equal v (leaf #False))
  unfolding on_tag
  ans_21 z = rw z

  module _ (x : tag_of w ≡ 406 → ⊥) (y : tag_of w ≡ 405 → ⊥) where
    ans_22 : tag_of v ≡ 406 → unequal v w ≡ to 22 (two #Equal (leaf #True) w)
    unfolding on_tag
    ans_22 z = rw (ne_eqb (tag_of w) 406 x, ne_eqb (tag_of w) 405 y, z)

    ans_23 : tag_of v ≡ 405 → unequal v w ≡ to 23 (two #Equal (leaf #False) w)
    unfolding on_tag
    ans_23 z = rw (ne_eqb (tag_of w) 406 x, ne_eqb (tag_of w) 405 y, z)

    ans_none : (tag_of v ≡ 406 → ⊥) → (tag_of v ≡ 405 → ⊥) → unequal v w ≡ same
    unfolding on_tag
    ans_none p q = rw (ne_eqb (tag_of w) 406 x, ne_eqb (tag_of w) 405 y, ne_eqb (tag_of v) 406 p, ne_eqb (tag_of v) 405 q)

module _ (s st nx : List ℕ) (a b : ℕ) (right : ℕ) (pr : TagPost s st b right) where
  pub unequal_20 : right ≡ 406 → (r : Option Decision) → r ≡ Some (D.Fixed 20 20 a a a) → DecidesTwo unequal s st nx a b r
  unfolding side
  unequal_20 h = on_left unequal s st nx a b 20 refl refl (λ t n Γ v w tb fa fb. ans_20 v w (sym (pr.tag t n Γ w tb.framed fb) ∙ h))

  pub unequal_21 : right ≡ 405 → (r : Option Decision) → r ≡ Some (D.Fixed 21 21 a a a) → DecidesTwo unequal s st nx a b r
  unfolding side
  unequal_21 h = on_left unequal s st nx a b 21 refl refl (λ t n Γ v w tb fa fb. ans_21 v w (sym (pr.tag t n Γ w tb.framed fb) ∙ h))

  module _ (h : right ≡ 406 → ⊥) (i : right ≡ 405 → ⊥) (left : ℕ) (pl : TagPost s st a left) where
    pub unequal_22 : left ≡ 406 → (r : Option Decision) → r ≡ Some (D.Fixed 22 22 b b a) → DecidesTwo unequal s st nx a b r
    unfolding side
    unequal_22 j =
        on_right_at_left unequal s st nx a b 22 refl refl
        (λ t n Γ v w tb fa fb.
        let y = pr.tag t n Γ w tb.framed fb in
        ans_22 v w (λ q. h (y ∙ q)) (λ q. i (y ∙ q)) (sym (pl.tag t n Γ v tb.framed fa) ∙ j))

    pub unequal_23 : left ≡ 405 → (r : Option Decision) → r ≡ Some (D.Fixed 23 23 b b a) → DecidesTwo unequal s st nx a b r
    unfolding side
    unequal_23 j =
        on_right_at_left unequal s st nx a b 23 refl refl
        (λ t n Γ v w tb fa fb.
        let y = pr.tag t n Γ w tb.framed fb in
        ans_23 v w (λ q. h (y ∙ q)) (λ q. i (y ∙ q)) (sym (pl.tag t n Γ v tb.framed fa) ∙ j))

    pub unequal_none : (left ≡ 406 → ⊥) → (left ≡ 405 → ⊥) → DecidesTwo unequal s st nx a b None
    unequal_none j l =
        record {
          means = λ t n Γ v w tb fa fb x Ξ kept.
              let y = pr.tag t n Γ w tb.framed fb in
              let z = pl.tag t n Γ v tb.framed fa in
              ans_none v w (λ q. h (y ∙ q)) (λ q. i (y ∙ q)) (λ q. j (z ∙ q)) (λ q. l (z ∙ q));
        }

-- ---- by the tag of what is negated
-- the comparisons, each with its place
abbrev pub comparisons : List Row
comparisons = row 104 16 ∷ row 106 17 ∷ row 105 18 ∷ row 103 19 ∷ []

module _ (s st nx : List ℕ) (k tag : ℕ) (pt : TagPost s st k tag) where
  pub not_compared : (g p : ℕ) → is_row comparisons g p ≡ true → OfTwo (λ Γ. rewrite_not_inner) s st nx k tag g p
  unfolding on_tag lookup class_of form_at side
  not_compared = by_doubles (λ Γ. rewrite_not_inner) s st nx k tag pt comparisons refl refl expression expression (λ x. refl) (λ Γ n us a b. refl)

  module _ (j : ℕ) (ej : j ≡ get_or nx (k + 1) 0) where
    -- ¬ a = b: at the two children
    pub equation_here : tag ≡ 101 → Here s st nx k → HereTwo s st nx (k + 1) j
    unfolding lookup class_of form_at
    equation_here key = two_here s st nx k tag pt 101 key expression expression (λ x. refl) j ej

    pub not_equal : tag ≡ 101 → (r : Option Decision) → DecidesTwo unequal s st nx (k + 1) j r → DecidesOne rewrite_not_inner s st nx k r
    unfolding on_tag lookup class_of form_at
    not_equal key = by_two s st nx k tag pt 101 key expression expression (λ x. refl) j ej (λ Γ. rewrite_not_inner) unequal (λ Γ n us a b. refl)

  -- (The tag that is tested last comes first.)
  pub not_none : Unlike tag (101 ∷ 103 ∷ 105 ∷ 106 ∷ 104 ∷ []) → DecidesOne rewrite_not_inner s st nx k None
  unfolding on_tag
  not_none (((((none, le), ge), gt), lt), equal) = by_rest (λ Γ. rewrite_not_inner) s st nx k tag pt (λ Γ v. rest v) None refl
    where
      rest : (v : Tree) → tag_of v ≡ tag → rewrite_not_inner v ≡ same
      rest (node (head o n us) ks) z = rw z (simp (ne_eqb tag 104 le, ne_eqb tag 106 ge, ne_eqb tag 105 gt, ne_eqb tag 103 lt, ne_eqb tag 101 equal))

-- ---- at the ¬ itself
module _ (s st nx : List ℕ) (k tag : ℕ) (pt : TagPost s st k tag) where
  pub not_other : (tag ≡ 701 → ⊥) → DecidesOne rewrite_not s st nx k None
  unfolding rewrite_not
  not_other = by_other (λ Γ. rewrite_not) s st nx k tag pt 701 (λ Γ us ks. with1 ks rewrite_not_inner) (λ Γ v. refl)

  module _ (key : tag ≡ 701) where
    pub inner_here : Here s st nx k → Here s st nx (k + 1)
    unfolding lookup class_of form_at
    inner_here = here_child s st nx k tag pt 701 key predicate (λ x. refl)

    pub of_inner : (r : Option Decision) → DecidesOne rewrite_not_inner s st nx (k + 1) r → DecidesOne rewrite_not s st nx k r
    unfolding rewrite_not on_tag lookup class_of form_at
    of_inner = by_child s st nx k tag pt 701 key predicate (λ x. refl) (λ Γ. rewrite_not) (λ Γ. rewrite_not_inner) (λ Γ n us a. refl)
