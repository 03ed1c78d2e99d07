-- A ¬ that stands in a frame, when a tree is the negation of another, and the ways out of `negates` and `opposite` of src/contains.rt.
-- Main results: not_shape (a ¬ has one child and nothing else), inner, inner_placed; neg_other; unary_when; negates_none, negates_inner;
-- opposite_child, opposite_new.
use mathlib.Core.Path.{◌≡◌, refl, sym, ap, ◌∙◌}
use mathlib.Core.Bool.{Bool, true, false, and-true}
use mathlib.Core.List.{List, [], ◌∷◌}
use Prim.Native.Nat.{ℕ, suc, ◌+◌}
use native.Mathlib.Omega.{arith}
use lib.Dec.{eqb}
use lib.ListN.{length}
use borrow.Author.Tests.{ne_eqb, eqb-true, eqb-false}
use Rattle.frame.specs.Types.{Ty}
use Rattle.frame.specs.Trees.{head, Tree, node, Forest, nil, cons, tag_of, one}
use Rattle.frame.specs.Tags.{Sort, lookup, class_of, form_at}
use Rattle.frame.specs.Operators.{#Not}
use Rattle.frame.specs.WellFormed.{Wf}
use Rattle.frame.specs.Places.{Ctx, under, found, find}
use Rattle.frame.specs.Sameness.{same_tys, same_tree}
use Rattle.frame.proofs.Splices.{find_some, find_lt}
use Rattle.frame.proofs.Within.{kid_first}
use Rattle.nav.specs.PlaceTables.{Framed, Placed, TagPost, SameAtPost}
use Rattle.nav.proofs.Hops.{Sorted, place_sorted, child_first}
use Rattle.rules.specs.Change.{Change, when, on_tag, unary}
use Rattle.rules.specs.Simplify.{make_neg}
use Rattle.decision.specs.Decides.{Compared}

-- ---- a ¬ has one child, no payload and no types
not_of : (n : ℕ) (us : List Ty) (ks : Forest) (e : Sort) → Wf (node (head 701 n us) ks) e → (p : Tree) × (node (head 701 n us) ks ≡ one 701 p)
unfolding lookup class_of form_at
not_of n [] nil e w = absurd w.1
not_of n [] (cons p nil) e w = let z : 0 ≡ n = w.0.own in (p, ap (λ (i : ℕ). node (head 701 i []) (cons p nil)) (sym z))
not_of n [] (cons p (cons q ks)) e w = absurd w.1.1
not_of n (u ∷ us) ks e w = let z : suc (length us) ≡ 0 = w.0.many in absurd (omega arith)

pub not_shape : (w : Tree) → Sorted w → tag_of w ≡ 701 → (p : Tree) × (w ≡ one 701 p)
not_shape (node (head g n us) ks) o z =
    let w : Wf (node (head 701 n us) ks) o.0 = rw z at o.1 in
    let r = not_of n us ks o.0 w in
    (r.0, ap (λ (i : ℕ). node (head i n us) ks) z ∙ r.1)

module _ (s st : List ℕ) (b tag : ℕ) (post : TagPost s st b tag) (e : tag ≡ 701) where
  pub inner : (t : Tree) (n : ℕ) (Γ : Ctx) (w : Tree) → Framed s t st n → find t [] b ≡ found Γ w
      → (p : Tree) × (w ≡ one 701 p) × (find t [] (b + 1) ≡ found (under 701 [] Γ) p)
  inner t n Γ w fr f =
      let o = not_shape w (place_sorted s t st n fr b Γ w f) (sym (post.tag t n Γ w fr f) ∙ e) in
      let h : find t [] b ≡ found Γ (one 701 o.0) = f ∙ ap (found Γ) o.1 in
      (o.0, o.1, kid_first t [] (b + 1) (under 701 [] Γ) o.0 nil (child_first t b Γ 701 0 [] (cons o.0 nil) h))

  pub inner_placed : Placed s st b → Placed s st (b + 1)
  inner_placed p =
      let v = find_some p.t [] b p.below in
      let i = inner p.t p.n v.0 v.1 p.framed v.2 in
      record { t = p.t; n = p.n; framed = p.framed; below = find_lt p.t [] (b + 1) (under 701 [] v.0) i.0 i.2 }

-- ---- the negation of a tree, and trees that are the same as one
pub neg_one : (p : Tree) → make_neg (one 701 p) ≡ p
unfolding make_neg
neg_one p = refl

pub neg_other : (w : Tree) → (tag_of w ≡ 701 → ⊥) → make_neg w ≡ one 701 w
unfolding make_neg
neg_other (node (head g n us) ks) d = simp (ne_eqb g 701 d)

same_one : (p w : Tree) → same_tree (one 701 p) (one 701 w) ≡ same_tree p w
unfolding same_tree same_tys
same_one p w = and-true (same_tree p w)

same_other : (v w : Tree) → (tag_of v ≡ 701 → ⊥) → same_tree v (one 701 w) ≡ false
unfolding same_tree
same_other (node (head g n us) ks) w d = simp (ne_eqb g 701 d)

-- a rule for ¬ of a tree that is the same as another
abbrev when_inner : Tree → Tree → Change → Change
when_inner v w c = unary #Not v (λ inner. when (same_tree inner w) c)

when_one : (p w : Tree) (c : Change) → when_inner (one 701 p) w c ≡ when (same_tree (one 701 p) (one #Not w)) c
unfolding on_tag
when_one p w c = ap (λ (b : Bool). when b c) (sym (same_one p w))

when_other : (v w : Tree) (c : Change) → (tag_of v ≡ 701 → ⊥) → when_inner v w c ≡ when (same_tree v (one #Not w)) c
unfolding on_tag
when_other (node (head g n us) ks) w c d = rw (same_other (node (head g n us) ks) w d) (rw (ne_eqb g 701 d))

pub unary_when : (v w : Tree) (c : Change) → Sorted v → when_inner v w c ≡ when (same_tree v (one #Not w)) c
unary_when v w c o = go (eqb (tag_of v) 701) refl
  where
    go : (b : Bool) → eqb (tag_of v) 701 ≡ b → when_inner v w c ≡ when (same_tree v (one #Not w)) c
    go true h = let i = not_shape v o (eqb-true (tag_of v) 701 h) in rw i.1 (when_one i.0 w c)
    go false h = when_other v w c (eqb-false (tag_of v) 701 h)

-- ---- the ways out
module _ (s st : List ℕ) (a b : ℕ) where
  -- the one at a is a ¬, or none
  module _ (tag : ℕ) (post : TagPost s st a tag) where
    pub negates_none : (tag ≡ 701 → ⊥) → Compared (one #Not) s st a b false
    negates_none d = record { says = λ t n Γ Δ v w fr f h. sym (same_other v w (λ z. d (post.tag t n Γ v fr f ∙ z))) }

    pub negates_inner : tag ≡ 701 → (r : Bool) → SameAtPost s st (a + 1) b r → Compared (one #Not) s st a b r
    negates_inner e r same =
        record {
          says = λ t n Γ Δ v w fr f h.
              let i = inner s st a tag post e t n Γ v fr f in
              same.same t n (under 701 [] Γ) Δ i.0 w fr i.2 h
              ∙ sym (same_one i.0 w)
              ∙ ap (λ (x : Tree). same_tree x (one 701 w)) (sym i.1);
        }

  -- the one at b is a ¬, or none
  module _ (tag : ℕ) (post : TagPost s st b tag) where
    pub opposite_child : tag ≡ 701 → (r : Bool) → SameAtPost s st a (b + 1) r → Compared make_neg s st a b r
    opposite_child e r same =
        record {
          says = λ t n Γ Δ v w fr f h.
              let i = inner s st b tag post e t n Δ w fr h in
              same.same t n Γ (under 701 [] Δ) v i.0 fr f i.2 ∙ ap (same_tree v) (sym (ap make_neg i.1 ∙ neg_one i.0));
        }

    pub opposite_new : (tag ≡ 701 → ⊥) → (r : Bool) → Compared (one #Not) s st a b r → Compared make_neg s st a b r
    opposite_new d r p =
        record {
          says = λ t n Γ Δ v w fr f h.
              p.says t n Γ Δ v w fr f h ∙ ap (same_tree v) (sym (neg_other w (λ z. d (post.tag t n Δ w fr h ∙ z))));
        }
