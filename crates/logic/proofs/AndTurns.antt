-- The ways out of implication_and_at of src/implication.rt.
use Rattle.std.proofs.Common.{Option, Some, None, MatchBool}
use mathlib.Core.Path.{◌≡◌, refl, sym, ap, ◌∙◌}
use mathlib.Core.Bool.{Bool, true, false}
use mathlib.Core.List.{List, []}
use Prim.Native.Nat.{ℕ, ◌+◌, ◌<◌}
use lib.ListN.{length, get_or}
use Rattle.std.specs.List.{HoldsAt, AllWithin}
use native.Mathlib.Omega.{arith}
use borrow.Author.Tests.{ne_eqb}
use Rattle.frame.specs.Trees.{head, Tree, node, Forest, tag_of, leaf, one}
use Rattle.frame.specs.Tags.{lookup, class_of, form_at}
use Rattle.frame.specs.Operators.{#BTrue, #Not}
use Rattle.frame.specs.Places.{Ctx, found, find}
use Rattle.frame.specs.Sameness.{same_tree}
use Rattle.frame.proofs.Within.{KidsAtPlace}
use Rattle.nav.specs.PlaceTables.{Framed, Table, TagPost, ChildrenOf, BothPlaced, SameAtPost, places_from}
use Rattle.nav.proofs.Hops.{child_first}
use Rattle.rules.specs.Change.{to, same, ◌or_else◌, when, on_tag, contains}
use Rattle.rules.specs.Simplify.{make_neg}
use Rattle.templates.proofs.RightSides.{side}
use Rattle.decision.specs.Decides.{HereTwo, DecidesTwo, Compared}
use Rattle.decision.specs.RulesAt.{imp_and}
use Rattle.decision.specs.declared.Decision.{Decision}
use Rattle.decision.specs.declared.Decision.TheVariants as D
use Rattle.decision.proofs.Among.{row_at, among}
use Rattle.decision.proofs.Shapes.{any, placed}
use Rattle.decision.proofs.Opposites.{neg_other}
use Rattle.decision.proofs.TwoPlaces.{on_left}

-- ---- P ∧ … ⇒ Q, on trees
abbrev kids_of : Tree → Forest
kids_of (node h ks) = ks

and_form : (v w : Tree) → tag_of v ≡ 351
    → imp_and v w ≡ (when (contains w (kids_of v)) (to 71 (leaf #BTrue)) or_else when (contains (make_neg w) (kids_of v)) (to 72 (one #Not v)))
unfolding on_tag
and_form (node (head g n us) ks) w z =
    let o : tag_of (node (head g n us) ks) ≡ 701 → ⊥ = λ q. omega arith in
    rw (← neg_other (node (head g n us) ks) o) (rw z)

-- ---- in a frame
module _ (s st nx : List ℕ) (a b left : ℕ) (pl : TagPost s st a left) where
  pub and_other : (left ≡ 351 → ⊥) → DecidesTwo imp_and s st nx a b None
  unfolding on_tag
  and_other h = record { means = λ t n Γ v w tb fa fb x Ξ kept. go v w (λ q. h (pl.tag t n Γ v tb.framed fa ∙ q)) }
    where
      go : (v w : Tree) → (tag_of v ≡ 351 → ⊥) → imp_and v w ≡ same
      go (node (head g n us) ks) w d = rw (ne_eqb g 351 d)

  module _ (key : left ≡ 351) where
    module _ (places : List ℕ) (pc : ChildrenOf s st nx a places) where
      -- the operands, in a row
      record Row (t : Tree) (Γ : Ctx) (v : Tree) : Type 0 where
        ks : Forest
        kids : KidsAtPlace t [] (a + 1) Γ ks
        are : places ≡ places_from ks (a + 1)
        is : kids_of v ≡ ks

      row : (t : Tree) (n : ℕ) (Γ : Ctx) (v : Tree) → Table s t st nx n → find t [] a ≡ found Γ v → Row t Γ v
      unfolding lookup class_of form_at
      row t n Γ v tb fa =
          let o = any 351 v (sym (pl.tag t n Γ v tb.framed fa) ∙ key) in
          let x : Tree = node (head 351 o.n o.us) o.ks in
          let fx : find t [] a ≡ found Γ x = fa ∙ ap (found Γ) o.is in
          record { ks = o.ks; kids = child_first t a Γ 351 o.n o.us o.ks fx; are = pc.are t n Γ x tb fx; is = ap kids_of o.is }

      -- an operand and the second predicate
      pub and_both : HereTwo s st nx a b → (x i : ℕ) → i < length places → x ≡ get_or places i x → BothPlaced s st x b
      and_both h x i l e =
          let o = row h.t h.n h.Γ h.v h.table h.first in
          let z = row_at h.t h.Γ o.ks (a + 1) o.kids i x (rw o.are at l) (rw o.are at e) in
          record { left = placed h.table z.1; right = placed h.table h.second }

      -- what a look among the operands says: E x r where the test answers r at place x
      abbrev pub Told : (ℕ → Bool → Type 0) → Bool → Type 0
      Told E r = MatchBool r ((i : ℕ) × (i < length places) × HoldsAt (λ x. E x true) places i) (AllWithin (λ x. E x false) places 0 (length places))

      module _ (E : ℕ → Bool → Type 0) (f : Tree → Tree)
          (says : (x : ℕ) (r : Bool) → E x r → (t : Tree) (n : ℕ) (Γ : Ctx) (y w : Tree) → Framed s t st n → find t [] x ≡ found Γ y → find t [] b ≡ found Γ w
          → r ≡ same_tree y (f w)) (r : Bool) (told : Told E r) where
        among_and : (t : Tree) (n : ℕ) (Γ : Ctx) (v w : Tree) → Table s t st nx n → find t [] a ≡ found Γ v → find t [] b ≡ found Γ w
            → contains (f w) (kids_of v) ≡ r
        unfolding contains
        among_and t n Γ v w tb fa fb =
            let o = row t n Γ v tb fa in
            let u : Tree = f w in
            ap (contains u) o.is
            ∙ sym (among t Γ E (λ x. same_tree x u) (λ x y e fx h. says x e h t n Γ y w tb.framed fx fb) (contains u) refl (λ x ks. refl)
            o.ks (a + 1) o.kids r (rw o.are at told))

      among_same : (r : Bool) → Told (λ x. SameAtPost s st x b) r → (t : Tree) (n : ℕ) (Γ : Ctx) (v w : Tree) → Table s t st nx n → find t [] a ≡ found Γ v
          → find t [] b ≡ found Γ w → contains w (kids_of v) ≡ r
      among_same = among_and (λ x. SameAtPost s st x b) (λ w. w) (λ x r p t n Γ y w fr fx fb. p.same t n Γ Γ y w fr fx fb)

      among_opposite : (r : Bool) → Told (λ x. Compared make_neg s st x b) r → (t : Tree) (n : ℕ) (Γ : Ctx) (v w : Tree) → Table s t st nx n
          → find t [] a ≡ found Γ v → find t [] b ≡ found Γ w → contains (make_neg w) (kids_of v) ≡ r
      among_opposite = among_and (λ x. Compared make_neg s st x b) make_neg (λ x r p t n Γ y w fr fx fb. p.says t n Γ Γ y w fr fx fb)

    form : (t : Tree) (n : ℕ) (Γ : Ctx) (v w : Tree) → Table s t st nx n → find t [] a ≡ found Γ v
        → imp_and v w ≡ (when (contains w (kids_of v)) (to 71 (leaf #BTrue)) or_else when (contains (make_neg w) (kids_of v)) (to 72 (one #Not v)))
    form t n Γ v w tb fa = and_form v w (sym (pl.tag t n Γ v tb.framed fa) ∙ key)

    module _ (p : List ℕ) (pp : ChildrenOf s st nx a p) (e : Bool) (pe : Told p pp (λ x. SameAtPost s st x b) e) where
      pub out_71 : e ≡ true → (r : Option Decision) → r ≡ Some (D.Fixed 71 71 a a a) → DecidesTwo imp_and s st nx a b r
      unfolding side
      out_71 z =
          on_left imp_and s st nx a b 71 refl refl
          (λ t n Γ v w tb fa fb. form t n Γ v w tb fa ∙ rw (among_same p pp e pe t n Γ v w tb fa fb ∙ z))

      module _ (n1 : e ≡ false) (q : List ℕ) (pq : ChildrenOf s st nx a q) (u : Bool) (pu : Told q pq (λ x. Compared make_neg s st x b) u) where
        pub out_72 : u ≡ true → (r : Option Decision) → r ≡ Some (D.Fixed 72 72 a a a) → DecidesTwo imp_and s st nx a b r
        unfolding side
        out_72 z =
            on_left imp_and s st nx a b 72 refl refl
            (λ t n Γ v w tb fa fb.
            form t n Γ v w tb fa ∙ rw (among_same p pp e pe t n Γ v w tb fa fb ∙ n1, among_opposite q pq u pu t n Γ v w tb fa fb ∙ z))

        pub and_none : u ≡ false → DecidesTwo imp_and s st nx a b None
        and_none z =
            record {
              means = λ t n Γ v w tb fa fb x Ξ kept.
                  form t n Γ v w tb fa ∙ rw (among_same p pp e pe t n Γ v w tb fa fb ∙ n1, among_opposite q pq u pu t n Γ v w tb fa fb ∙ z);
            }
