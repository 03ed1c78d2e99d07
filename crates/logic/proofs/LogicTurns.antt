-- The ways out of src/lib.rt.
use Rattle.std.proofs.Common.{Option, Some, None}
use mathlib.Core.Path.{◌≡◌, refl, sym, ◌∙◌}
use mathlib.Core.Bool.{Bool, true, false}
use mathlib.Core.List.{List, []}
use Prim.Native.Nat.{ℕ}
use borrow.Author.Tests.{ne_eqb}
use Rattle.frame.specs.Trees.{head, Tree, node, tag_of, leaf, one}
use Rattle.frame.specs.Tags.{predicate, lookup, class_of, form_at}
use Rattle.frame.specs.Operators.{#BTrue, #BFalse, #Not}
use Rattle.frame.specs.Places.{Ctx, found, find}
use Rattle.frame.specs.Sameness.{same_tree}
use Rattle.nav.specs.PlaceTables.{Table, TagPost, SameAtPost}
use Rattle.nav.proofs.Hops.{Sorted, place_sorted}
use Rattle.rules.specs.Change.{to, same, ◌or_else◌, when, on_tag}
use Rattle.rules.specs.Simplify.{make_neg, simplify_eqv, simplify_not}
use Rattle.templates.proofs.RightSides.{side}
use Rattle.decision.specs.Decides.{DecidesOne, DecidesTwo, Compared, negated_at}
use Rattle.decision.specs.declared.Decision.{Decision}
use Rattle.decision.specs.declared.Decision.TheVariants as D
use Rattle.decision.proofs.Opposites.{unary_when}
use Rattle.decision.proofs.TwoPlaces.{on_left, on_right, negated_left, negated_right}
use Rattle.decision.proofs.Shapes.{OfNode, OfChild, by_rest, by_node, by_single}

-- ---- ⇔
module _ (v w : Tree) where
  eqv_75 : tag_of w ≡ 610 → simplify_eqv v w ≡ to 75 v
  eqv_75 z = rw z

  module _ (n1 : tag_of w ≡ 610 → ⊥) where
    eqv_76 : tag_of v ≡ 610 → simplify_eqv v w ≡ to 76 w
    eqv_76 z = rw (ne_eqb (tag_of w) 610 n1, z)

    module _ (n2 : tag_of v ≡ 610 → ⊥) where
      eqv_77 : same_tree v w ≡ true → simplify_eqv v w ≡ to 77 (leaf #BTrue)
      eqv_77 z = rw (ne_eqb (tag_of w) 610 n1, ne_eqb (tag_of v) 610 n2, z)

      module _ (n3 : same_tree v w ≡ false) where
        eqv_78 : tag_of w ≡ 611 → simplify_eqv v w ≡ to 78 (make_neg v)
        eqv_78 z = rw (ne_eqb (tag_of w) 610 n1, ne_eqb (tag_of v) 610 n2, n3, z)

        module _ (n4 : tag_of w ≡ 611 → ⊥) where
          eqv_79 : tag_of v ≡ 611 → simplify_eqv v w ≡ to 79 (make_neg w)
          eqv_79 z = rw (ne_eqb (tag_of w) 610 n1, ne_eqb (tag_of v) 610 n2, n3, ne_eqb (tag_of w) 611 n4, z)

          module _ (n5 : tag_of v ≡ 611 → ⊥) where
            eqv_last : Sorted v → Sorted w → simplify_eqv v w ≡ (when (same_tree w (one #Not v)) (to 80 (leaf #BFalse)) or_else when
                (same_tree v (one #Not w)) (to 81 (leaf #BFalse)))
            eqv_last ov ow =
                rw (ne_eqb (tag_of w) 610 n1, ne_eqb (tag_of v) 610 n2, n3, ne_eqb (tag_of w) 611 n4, ne_eqb (tag_of v) 611 n5)
                (rw (unary_when w v (to 80 (leaf #BFalse)) ow, unary_when v w (to 81 (leaf #BFalse)) ov))

module _ (s st nx : List ℕ) (a b left right : ℕ) (pl : TagPost s st a left) (pr : TagPost s st b right) where
  pub out_75 : right ≡ 610 → (r : Option Decision) → r ≡ Some (D.Fixed 75 75 a a a) → DecidesTwo simplify_eqv s st nx a b r
  unfolding side
  out_75 z =
      on_left simplify_eqv s st nx a b 75 refl refl (λ t n Γ v w tb fa fb. eqv_75 v w (sym (pr.tag t n Γ w tb.framed fb) ∙ z))

  module _ (n1 : right ≡ 610 → ⊥) where
    pub out_76 : left ≡ 610 → (r : Option Decision) → r ≡ Some (D.Fixed 76 76 b b b) → DecidesTwo simplify_eqv s st nx a b r
    unfolding side
    out_76 z =
        on_right simplify_eqv s st nx a b 76 refl refl
        (λ t n Γ v w tb fa fb. eqv_76 v w (λ q. n1 (pr.tag t n Γ w tb.framed fb ∙ q)) (sym (pl.tag t n Γ v tb.framed fa) ∙ z))

    module _ (n2 : left ≡ 610 → ⊥) (e : Bool) (pe : SameAtPost s st a b e) where
      pub out_77 : e ≡ true → (r : Option Decision) → r ≡ Some (D.Fixed 77 77 a a a) → DecidesTwo simplify_eqv s st nx a b r
      unfolding side
      out_77 z =
          on_left simplify_eqv s st nx a b 77 refl refl
          (λ t n Γ v w tb fa fb. eqv_77 v w (λ q. n1 (pr.tag t n Γ w tb.framed fb ∙ q)) (λ q. n2 (pl.tag t n Γ v tb.framed fa ∙ q))
          (sym (pe.same t n Γ Γ v w tb.framed fa fb) ∙ z))

      module _ (n3 : e ≡ false) where
        pub out_78 : right ≡ 611 → (r : Option Decision) → r ≡ negated_at 78 left a → DecidesTwo simplify_eqv s st nx a b r
        unfolding side
        out_78 z =
            negated_left simplify_eqv s st nx a b 78 refl refl (λ Γ u us. refl) left pl
            (λ t n Γ v w tb fa fb.
            let zl = pl.tag t n Γ v tb.framed fa in
            let zr = pr.tag t n Γ w tb.framed fb in
            eqv_78 v w (λ q. n1 (zr ∙ q)) (λ q. n2 (zl ∙ q)) (sym (pe.same t n Γ Γ v w tb.framed fa fb) ∙ n3) (sym zr ∙ z))

        module _ (n4 : right ≡ 611 → ⊥) where
          pub out_79 : left ≡ 611 → (r : Option Decision) → r ≡ negated_at 79 right b → DecidesTwo simplify_eqv s st nx a b r
          unfolding side
          out_79 z =
              negated_right simplify_eqv s st nx a b 79 refl refl (λ Γ u us. refl) right pr
              (λ t n Γ v w tb fa fb.
              let zl = pl.tag t n Γ v tb.framed fa in
              let zr = pr.tag t n Γ w tb.framed fb in
              eqv_79 v w (λ q. n1 (zr ∙ q)) (λ q. n2 (zl ∙ q)) (sym (pe.same t n Γ Γ v w tb.framed fa fb) ∙ n3) (λ q. n4 (zr ∙ q)) (sym zl ∙ z))

          module _ (n5 : left ≡ 611 → ⊥) where
            last : (t : Tree) (n : ℕ) (Γ : Ctx) (v w : Tree) → Table s t st nx n → find t [] a ≡ found Γ v → find t [] b ≡ found Γ w
                → simplify_eqv v w ≡ (when (same_tree w (one #Not v)) (to 80 (leaf #BFalse)) or_else when
                (same_tree v (one #Not w)) (to 81 (leaf #BFalse)))
            last t n Γ v w tb fa fb =
                let zl = pl.tag t n Γ v tb.framed fa in
                let zr = pr.tag t n Γ w tb.framed fb in
                eqv_last v w (λ q. n1 (zr ∙ q)) (λ q. n2 (zl ∙ q)) (sym (pe.same t n Γ Γ v w tb.framed fa fb) ∙ n3)
                (λ q. n4 (zr ∙ q)) (λ q. n5 (zl ∙ q))
                (place_sorted s t st n tb.framed a Γ v fa) (place_sorted s t st n tb.framed b Γ w fb)

            module _ (o : Bool) (po : Compared (one #Not) s st b a o) where
              pub out_80 : o ≡ true → (r : Option Decision) → r ≡ Some (D.Fixed 80 80 a a a) → DecidesTwo simplify_eqv s st nx a b r
              unfolding side
              out_80 z =
                  on_left simplify_eqv s st nx a b 80 refl refl
                  (λ t n Γ v w tb fa fb. last t n Γ v w tb fa fb ∙ rw (sym (po.says t n Γ Γ w v tb.framed fb fa) ∙ z))

              module _ (n6 : o ≡ false) (u : Bool) (pu : Compared (one #Not) s st a b u) where
                pub out_81 : u ≡ true → (r : Option Decision) → r ≡ Some (D.Fixed 81 81 a a a) → DecidesTwo simplify_eqv s st nx a b r
                unfolding side
                out_81 z =
                    on_left simplify_eqv s st nx a b 81 refl refl
                    (λ t n Γ v w tb fa fb. last t n Γ v w tb fa fb ∙ rw
                    (sym (po.says t n Γ Γ w v tb.framed fb fa) ∙ n6, sym (pu.says t n Γ Γ v w tb.framed fa fb) ∙ z))

                pub eqv_none : u ≡ false → DecidesTwo simplify_eqv s st nx a b None
                eqv_none z =
                    record {
                      means = λ t n Γ v w tb fa fb x Ξ kept.
                          last t n Γ v w tb fa fb ∙ rw (
                            sym (po.says t n Γ Γ w v tb.framed fb fa) ∙ n6,
                            sym
                                (pu.says t n Γ Γ v w tb.framed fa fb) ∙ z,
                          );
                    }

-- ---- ¬ in logic
module _ (s st nx : List ℕ) (k tag : ℕ) (pt : TagPost s st k tag) where
  pub out_82 : OfNode (λ Γ. simplify_not) s st nx k tag 610 82
  unfolding on_tag side
  out_82 = by_node (λ Γ. simplify_not) s st nx k tag pt 610 82 refl refl (λ Γ n us ks. refl)

  pub out_83 : OfNode (λ Γ. simplify_not) s st nx k tag 611 83
  unfolding on_tag side
  out_83 = by_node (λ Γ. simplify_not) s st nx k tag pt 611 83 refl refl (λ Γ n us ks. refl)

  pub out_84 : OfChild (λ Γ. simplify_not) s st nx k tag 701 84
  unfolding on_tag lookup class_of form_at side
  out_84 = by_single (λ Γ. simplify_not) s st nx k tag pt 701 84 refl refl predicate (λ x. refl) (λ Γ n us a. refl)

  pub not_none : (tag ≡ 610 → ⊥) → (tag ≡ 611 → ⊥) → (tag ≡ 701 → ⊥) → DecidesOne simplify_not s st nx k None
  unfolding on_tag
  not_none a b c = by_rest (λ Γ. simplify_not) s st nx k tag pt (λ Γ v. rest v) None refl
    where
      rest : (v : Tree) → tag_of v ≡ tag → simplify_not v ≡ same
      rest (node (head o n us) ks) z = rw z (simp (ne_eqb tag 610 a, ne_eqb tag 611 b, ne_eqb tag 701 c))
