-- The ways out of implication_first_at and implication_last_at of src/implication.rt, and how they make up simplify_imp.
use Rattle.std.proofs.Common.{Option, Some, None}
use mathlib.Core.Path.{◌≡◌, refl, sym, ap, ◌∙◌}
use mathlib.Core.Bool.{Bool, true, false}
use mathlib.Core.List.{List, [], ◌∷◌}
use Prim.Native.Nat.{ℕ}
use native.Mathlib.Omega.{arith}
use lib.ListN.{length}
use borrow.Author.Tests.{ne_eqb}
use Rattle.frame.specs.Types.{Ty}
use Rattle.frame.specs.Trees.{head, Tree, node, Forest, nil, cons, tag_of, leaf, one}
use Rattle.frame.specs.Tags.{lookup, class_of, form_at}
use Rattle.frame.specs.Operators.{#BTrue, #Not}
use Rattle.frame.specs.Places.{Ctx, found, find}
use Rattle.frame.specs.Sameness.{same_tree}
use Rattle.nav.specs.PlaceTables.{Table, TagPost, SameAtPost}
use Rattle.nav.proofs.Hops.{Sorted, place_sorted}
use Rattle.rules.specs.Change.{to, same, ◌or_else◌, when}
use Rattle.rules.specs.Simplify.{make_neg}
use Rattle.templates.proofs.RightSides.{side}
use Rattle.decision.specs.Decides.{DecidesTwo, Compared, negated_at}
use Rattle.decision.specs.RulesAt.{imp_first, imp_last}
use Rattle.decision.specs.declared.Decision.{Decision}
use Rattle.decision.specs.declared.Decision.TheVariants as D
use Rattle.decision.proofs.TwoPlaces.{on_left, on_right, negated_left}
use Rattle.decision.proofs.Opposites.{unary_when}

-- ---- ⊤ has no payload, no types and no children
leaf_in : (n : ℕ) (us : List Ty) (ks : Forest) → Sorted (node (head 610 n us) ks) → node (head 610 n us) ks ≡ leaf 610
unfolding lookup class_of form_at
leaf_in n [] nil (e, w) = ap (λ (x : ℕ). node (head 610 x []) nil) (sym w.0.own)
leaf_in n [] (cons a ks) (e, w) = absurd w.1
leaf_in n (u ∷ us) ks (e, w) = let z : length (u ∷ us) ≡ 0 = w.0.many in absurd (omega arith)

is_true_lem : (v : Tree) → Sorted v → tag_of v ≡ 610 → v ≡ leaf 610
is_true_lem (node (head g n us) ks) o z = rw z (leaf_in n us ks (rw z at o))

-- ---- the first tests
module _ (v w : Tree) where
  imp_66 : tag_of v ≡ 610 → imp_first v w ≡ to 66 w
  imp_66 z = rw z

  imp_67 : tag_of v ≡ 611 → imp_first v w ≡ to 67 (leaf #BTrue)
  imp_67 z = rw z

  module _ (n1 : tag_of v ≡ 610 → ⊥) (n2 : tag_of v ≡ 611 → ⊥) where
    imp_68 : tag_of w ≡ 610 → imp_first v w ≡ to 68 w
    imp_68 z = rw (ne_eqb (tag_of v) 610 n1, ne_eqb (tag_of v) 611 n2, z)

    imp_69 : tag_of w ≡ 611 → imp_first v w ≡ to 69 (make_neg v)
    imp_69 z = rw (ne_eqb (tag_of v) 610 n1, ne_eqb (tag_of v) 611 n2, z)

    module _ (n3 : tag_of w ≡ 610 → ⊥) (n4 : tag_of w ≡ 611 → ⊥) where
      imp_70 : same_tree v w ≡ true → imp_first v w ≡ to 70 (leaf #BTrue)
      imp_70 z = rw (ne_eqb (tag_of v) 610 n1, ne_eqb (tag_of v) 611 n2, ne_eqb (tag_of w) 610 n3, ne_eqb (tag_of w) 611 n4, z)

      imp_first_none : same_tree v w ≡ false → imp_first v w ≡ same
      imp_first_none z = rw (ne_eqb (tag_of v) 610 n1, ne_eqb (tag_of v) 611 n2, ne_eqb (tag_of w) 610 n3, ne_eqb (tag_of w) 611 n4, z)

module _ (s st nx : List ℕ) (a b left right : ℕ) (pl : TagPost s st a left) (pr : TagPost s st b right) where
  pub out_66 : left ≡ 610 → (r : Option Decision) → r ≡ Some (D.Fixed 66 66 b b b) → DecidesTwo imp_first s st nx a b r
  unfolding side
  out_66 z =
      on_right imp_first s st nx a b 66 refl refl (λ t n Γ v w tb fa fb. imp_66 v w (sym (pl.tag t n Γ v tb.framed fa) ∙ z))

  pub out_67 : left ≡ 611 → (r : Option Decision) → r ≡ Some (D.Fixed 67 67 a a a) → DecidesTwo imp_first s st nx a b r
  unfolding side
  out_67 z =
      on_left imp_first s st nx a b 67 refl refl (λ t n Γ v w tb fa fb. imp_67 v w (sym (pl.tag t n Γ v tb.framed fa) ∙ z))

  module _ (n1 : left ≡ 610 → ⊥) (n2 : left ≡ 611 → ⊥) where
    pub out_68 : right ≡ 610 → (r : Option Decision) → r ≡ Some (D.Fixed 68 68 a a a) → DecidesTwo imp_first s st nx a b r
    unfolding side
    out_68 z =
        on_left imp_first s st nx a b 68 refl refl
        (λ t n Γ v w tb fa fb.
        let zl = pl.tag t n Γ v tb.framed fa in
        let zr : tag_of w ≡ 610 = sym (pr.tag t n Γ w tb.framed fb) ∙ z in
        imp_68 v w (λ q. n1 (zl ∙ q)) (λ q. n2 (zl ∙ q)) zr ∙ ap (to 68) (is_true_lem w (place_sorted s t st n tb.framed b Γ w fb) zr))

    pub out_69 : right ≡ 611 → (r : Option Decision) → r ≡ negated_at 69 left a → DecidesTwo imp_first s st nx a b r
    unfolding side
    out_69 z =
        negated_left imp_first s st nx a b 69 refl refl (λ Γ u us. refl) left pl
        (λ t n Γ v w tb fa fb.
        let zl = pl.tag t n Γ v tb.framed fa in
        imp_69 v w (λ q. n1 (zl ∙ q)) (λ q. n2 (zl ∙ q)) (sym (pr.tag t n Γ w tb.framed fb) ∙ z))

    module _ (n3 : right ≡ 610 → ⊥) (n4 : right ≡ 611 → ⊥) (e : Bool) (pe : SameAtPost s st a b e) where
      pub out_70 : e ≡ true → (r : Option Decision) → r ≡ Some (D.Fixed 70 70 a a a) → DecidesTwo imp_first s st nx a b r
      unfolding side
      out_70 z =
          on_left imp_first s st nx a b 70 refl refl
          (λ t n Γ v w tb fa fb.
          let zl = pl.tag t n Γ v tb.framed fa in
          let zr = pr.tag t n Γ w tb.framed fb in
          imp_70 v w (λ q. n1 (zl ∙ q)) (λ q. n2 (zl ∙ q)) (λ q. n3 (zr ∙ q)) (λ q. n4 (zr ∙ q)) (sym (pe.same t n Γ Γ v w tb.framed fa fb) ∙ z))

      pub first_none : e ≡ false → DecidesTwo imp_first s st nx a b None
      first_none z =
          record {
            means = λ t n Γ v w tb fa fb x Ξ kept.
                let zl = pl.tag t n Γ v tb.framed fa in
                let zr = pr.tag t n Γ w tb.framed fb in
                imp_first_none v w (λ q. n1 (zl ∙ q)) (λ q. n2 (zl ∙ q)) (λ q. n3 (zr ∙ q)) (λ q. n4 (zr ∙ q))
                (sym (pe.same t n Γ Γ v w tb.framed fa fb) ∙ z);
          }

-- ---- the last tests
last_form : (v w : Tree) → Sorted v → Sorted w
    → imp_last v w ≡ (when (same_tree v (one #Not w)) (to 73 w) or_else when (same_tree w (one #Not v)) (to 74 w))
last_form v w ov ow = rw (unary_when v w (to 73 w) ov, unary_when w v (to 74 w) ow)

module _ (s st nx : List ℕ) (a b : ℕ) (o : Bool) (po : Compared (one #Not) s st a b o) where
  last : (t : Tree) (n : ℕ) (Γ : Ctx) (v w : Tree) → Table s t st nx n → find t [] a ≡ found Γ v → find t [] b ≡ found Γ w
      → imp_last v w ≡ (when o (to 73 w) or_else when (same_tree w (one #Not v)) (to 74 w))
  last t n Γ v w tb fa fb =
      last_form v w (place_sorted s t st n tb.framed a Γ v fa) (place_sorted s t st n tb.framed b Γ w fb)
      ∙ ap (λ (x : Bool). when x (to 73 w) or_else when (same_tree w (one #Not v)) (to 74 w)) (sym (po.says t n Γ Γ v w tb.framed fa fb))

  pub out_73 : o ≡ true → (r : Option Decision) → r ≡ Some (D.Fixed 73 73 b b b) → DecidesTwo imp_last s st nx a b r
  unfolding side
  out_73 z = on_right imp_last s st nx a b 73 refl refl (λ t n Γ v w tb fa fb. last t n Γ v w tb fa fb ∙ rw z)

  module _ (n1 : o ≡ false) (u : Bool) (pu : Compared (one #Not) s st b a u) where
    pub out_74 : u ≡ true → (r : Option Decision) → r ≡ Some (D.Fixed 74 74 b b b) → DecidesTwo imp_last s st nx a b r
    unfolding side
    out_74 z =
        on_right imp_last s st nx a b 74 refl refl
        (λ t n Γ v w tb fa fb. last t n Γ v w tb fa fb ∙ rw (n1, sym (pu.says t n Γ Γ w v tb.framed fb fa) ∙ z))

    pub last_none : u ≡ false → DecidesTwo imp_last s st nx a b None
    last_none z =
        record { means = λ t n Γ v w tb fa fb x Ξ kept. last t n Γ v w tb fa fb ∙ rw (n1, sym (pu.says t n Γ Γ w v tb.framed fb fa) ∙ z) }
