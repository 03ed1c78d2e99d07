-- The ways out of src/quantified.rt.
-- Main results: out_85, forall_none, forall_other; out_86, out_87, exists_none, exists_other.
use Rattle.std.proofs.Common.{Option, Some, None}
use mathlib.Core.Path.{◌≡◌, refl, sym, ap, ◌∙◌}
use mathlib.Core.List.{List, [], ◌∷◌}
use Prim.Native.Nat.{ℕ, ◌+◌}
use lib.ListN.{get_or}
use borrow.Author.Tests.{ne_eqb}
use Rattle.frame.specs.Types.{Ty}
use Rattle.frame.specs.Trees.{head, Tree, node, Forest, nil, cons, tag_of, two, quantified, map_f, many}
use Rattle.frame.specs.Tags.{predicate, lookup, class_of, form_at}
use Rattle.frame.specs.Operators.{#LImp, #Forall, #Exists}
use Rattle.frame.specs.Encoding.{enc}
use Rattle.frame.specs.Places.{Ctx, push, under, found, find}
use Rattle.nav.specs.PlaceTables.{Table, TagPost}
use Rattle.nav.proofs.Hops.{place_sorted}
use Rattle.nav.proofs.SamePlaces.{only_child, two_children}
use Rattle.rules.specs.Change.{Change, to, same, on_tag, with1}
use Rattle.rules.specs.Simplify.{simplify_forall, simplify_exists}
use Rattle.templates.specs.Template.{filled}
use Rattle.templates.specs.Programs.{template}
use Rattle.templates.proofs.Joins.{and_bytes, or_bytes}
use Rattle.templates.proofs.RightSides.{side, right_side}
use Rattle.decision.specs.Decision.{filling, Bound, joint, Means}
use Rattle.decision.specs.Decides.{Here, Decides}
use Rattle.decision.specs.RulesAt.{forall_of, exists_of}
use Rattle.decision.specs.declared.Decision.{Decision}
use Rattle.decision.specs.declared.Decision.TheVariants as D
use Rattle.decision.proofs.Shapes.{Takes, single, double, any, fixed_at, Counts, few_of, Joins, each_means, by_other}
use Rattle.decision.proofs.Descents.{here_child}

-- ---- ∀ over ∧, ∃ over ∨ and over ⇒
module _ (s st nx : List ℕ) (k tag : ℕ) (pt : TagPost s st k tag) where
  pub forall_other : (tag ≡ 851 → ⊥) → Decides forall_of s st nx k None
  forall_other = by_other forall_of s st nx k tag pt 851 (λ Γ us ks. with1 ks (simplify_forall us)) (λ Γ v. refl)

  pub exists_other : (tag ≡ 852 → ⊥) → Decides exists_of s st nx k None
  exists_other = by_other exists_of s st nx k tag pt 852 (λ Γ us ks. with1 ks (simplify_exists us)) (λ Γ v. refl)

  -- the body's place
  pub forall_here : tag ≡ 851 → Here s st nx k → Here s st nx (k + 1)
  unfolding lookup class_of form_at
  forall_here key = here_child s st nx k tag pt 851 key predicate (λ x. refl)

  pub exists_here : tag ≡ 852 → Here s st nx k → Here s st nx (k + 1)
  unfolding lookup class_of form_at
  exists_here key = here_child s st nx k tag pt 852 key predicate (λ x. refl)

  -- a rule for a quantifier g, by its body
  module _ (body : ℕ) (pb : TagPost s st (k + 1) body) (g : ℕ) (key : tag ≡ g) (tk : Takes g (predicate ∷ [])) (rule : Ctx → Tree → Change) where
    of_body : (r : Option Decision)
        → ((t : Tree) (n : ℕ) (Γ : Ctx) (i : ℕ) (us : List Ty) (a : Tree) → Table s t st nx n
        → find t [] k ≡ found Γ (node (head g i us) (cons a nil))
        → find t [] (k + 1) ≡ found (under g us Γ) a → tag_of a ≡ body
        → (w : Tree) (Ξ : Ctx) (kept : List ℕ) → Means t w Ξ kept r (rule Γ (node (head g i us) (cons a nil))))
        → Decides rule s st nx k r
    of_body r go =
        record {
          means = λ t n Γ v tb f w Ξ kept.
              let o = single g predicate tk v (place_sorted s t st n tb.framed k Γ v f) (sym (pt.tag t n Γ v tb.framed f) ∙ key) in
              let fx : find t [] k ≡ found Γ (node (head g o.n o.us) (cons o.a nil)) = f ∙ ap (found Γ) o.is in
              let fa = only_child t nx tb.follows k Γ g o.n o.us o.a fx in
              rw o.is (go t n Γ o.n o.us o.a tb fx fa (sym (pb.tag t n (under g o.us Γ) o.a tb.framed fa)) w Ξ kept);
        }

    -- no place answers
    none_of_body : ((Γ : Ctx) (i : ℕ) (us : List Ty) (a : Tree) → tag_of a ≡ body → rule Γ (node (head g i us) (cons a nil)) ≡ same)
        → Decides rule s st nx k None
    none_of_body go = of_body None (λ t n Γ i us a tb fx fa z w Ξ kept. go Γ i us a z)

    -- the quantifier goes to each operand of the body
    each_of_body : (h place : ℕ) → body ≡ h → Counts h → Joins (joint place) → Bound place g
        → ((Γ : Ctx) (i : ℕ) (us : List Ty) (j : ℕ) (vs : List Ty) (ks : Forest)
        → rule Γ (node (head g i us) (cons (node (head h j vs) ks) nil)) ≡ to place (many (joint place) (map_f (quantified g us) ks)))
        → ((Δ : Ctx) (us : List Ty) (a : Tree) → enc (quantified g us a) ≡ filled (template place) (filling Δ a a us))
        → (r : Option Decision) → r ≡ Some (D.Each place (k + 1) k) → Decides rule s st nx k r
    each_of_body h place z cs jo bd ans bytes r er =
        of_body r (λ t n Γ i us a tb fx fa e w Ξ kept.
        let y = any h a (e ∙ z) in
        let x : Tree = node (head h y.n y.us) y.ks in
        let Δ : Ctx = under g us Γ in
        let fy : find t [] (k + 1) ≡ found Δ x = fa ∙ ap (found Δ) y.is in
        let few = few_of h cs y.n y.us y.ks (place_sorted s t st n tb.framed (k + 1) Δ x fy) in
        let b : Tree = node (head g i us) (cons a nil) in
        rw er
        (each_means t place (k + 1) k (rule Γ b) jo (quantified g us) y.ks
        (ap (λ (q : Tree). rule Γ (node (head g i us) (cons q nil))) y.is ∙ ans Γ i us y.n y.us y.ks)
        Δ h y.n y.us fy few Γ b fx bd (λ q. bytes (under h y.us Δ) us q)))

  module _ (body : ℕ) (pb : TagPost s st (k + 1) body) where
    pub out_85 : tag ≡ 851 → body ≡ 351 → (r : Option Decision) → r ≡ Some (D.Each 85 (k + 1) k) → Decides forall_of s st nx k r
    unfolding on_tag lookup class_of form_at side
    out_85 key z =
        each_of_body body pb 851 key (λ x. refl) forall_of 351 85 z (λ n us m. refl) and_bytes refl (λ Γ i us j vs ks. refl)
        (λ Δ us a. sym (right_side 85 refl Δ a a us))

    pub forall_none : tag ≡ 851 → (body ≡ 351 → ⊥) → Decides forall_of s st nx k None
    unfolding on_tag lookup class_of form_at
    forall_none key z = none_of_body body pb 851 key (λ x. refl) forall_of go
      where
        go : (Γ : Ctx) (i : ℕ) (us : List Ty) (a : Tree) → tag_of a ≡ body → forall_of Γ (node (head 851 i us) (cons a nil)) ≡ same
        go Γ i us (node (head g n vs) ks) e = rw e (rw (ne_eqb body 351 z))

    pub out_86 : tag ≡ 852 → body ≡ 352 → (r : Option Decision) → r ≡ Some (D.Each 86 (k + 1) k) → Decides exists_of s st nx k r
    unfolding on_tag lookup class_of form_at side
    out_86 key z =
        each_of_body body pb 852 key (λ x. refl) exists_of 352 86 z (λ n us m. refl) or_bytes refl (λ Γ i us j vs ks. refl)
        (λ Δ us a. sym (right_side 86 refl Δ a a us))

    pub out_87 : tag ≡ 852 → body ≡ 251 → (j : ℕ) → j ≡ get_or nx (k + 1 + 1) 0 → (r : Option Decision)
        → r ≡ Some (D.Fixed 87 87 (k + 1 + 1) j k) → Decides exists_of s st nx k r
    unfolding on_tag lookup class_of form_at side
    out_87 key z j ej r er =
        of_body body pb 852 key (λ x. refl) exists_of r (λ t n Γ i us a tb fx fa e w Ξ kept.
        let Δ : Ctx = push us Γ in
        let y = double 251 predicate predicate (λ x. refl) a (place_sorted s t st n tb.framed (k + 1) Δ a fa) (e ∙ z) in
        let fy : find t [] (k + 1) ≡ found Δ (node (head 251 y.n y.us) (cons y.a (cons y.b nil))) = fa ∙ ap (found Δ) y.is in
        let fs = two_children t nx tb.follows (k + 1) Δ 251 y.n y.us y.a y.b fy in
        let new : Tree = two #LImp (quantified #Forall us y.a) (quantified #Exists us y.b) in
        let b : Tree = node (head 852 i us) (cons a nil) in
        rw (er, ej)
        (fixed_at t 87 87 (exists_of Γ b) new (ap (λ (q : Tree). exists_of Γ (node (head 852 i us) (cons q nil))) y.is) (k + 1 + 1)
        (get_or nx (k + 1 + 1) 0) k Δ Γ y.a y.b b fs.0 fs.1 fx refl (sym (right_side 87 refl Δ y.a y.b us))))

    pub exists_none : tag ≡ 852 → (body ≡ 352 → ⊥) → (body ≡ 251 → ⊥) → Decides exists_of s st nx k None
    unfolding on_tag lookup class_of form_at
    exists_none key p q = none_of_body body pb 852 key (λ x. refl) exists_of go
      where
        go : (Γ : Ctx) (i : ℕ) (us : List Ty) (a : Tree) → tag_of a ≡ body → exists_of Γ (node (head 852 i us) (cons a nil)) ≡ same
        go Γ i us (node (head g n vs) ks) e = rw e (rw (ne_eqb body 352 p, ne_eqb body 251 q))
