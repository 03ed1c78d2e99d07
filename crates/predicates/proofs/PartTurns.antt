-- The ways out of `rewrite_partition`.
-- Main results: part_14, part_15, part_none, part_other.
use Rattle.std.proofs.Common.{Option, Some, None}
use mathlib.Core.Path.{◌≡◌, refl, sym, ap, ◌∙◌}
use mathlib.Core.List.{List, []}
use Prim.Native.Nat.{ℕ, ◌+◌}
use native.Mathlib.Omega.{arith}
use lib.ListN.{get_or}
use Rattle.frame.specs.Types.{Ty}
use Rattle.frame.specs.Trees.{head, Tree, node, Forest, nil, cons, count, two}
use Rattle.frame.specs.Tags.{lookup, class_of, form_at}
use Rattle.frame.specs.Operators.{#Equal}
use Rattle.frame.specs.Places.{Ctx, found, find}
use Rattle.nav.specs.PlaceTables.{Table, TagPost, ArityPost}
use Rattle.nav.proofs.SamePlaces.{only_child, two_children}
use Rattle.rules.specs.Change.{to, same, on_tag}
use Rattle.rules.specs.Negation.{is_empty, rewrite_partition}
use Rattle.templates.proofs.RightSides.{side, right_side}
use Rattle.decision.specs.Decision.{FixedMeans, Means}
use Rattle.decision.specs.Decides.{Decides}
use Rattle.decision.specs.RulesAt.{partition_of}
use Rattle.decision.specs.declared.Decision.{Decision}
use Rattle.decision.specs.declared.Decision.TheVariants as D
use Rattle.decision.proofs.Shapes.{any, fixed_at, by_other}

-- ---- partition(S), partition(S, T)
module _ (s st nx : List ℕ) (k tag : ℕ) (pt : TagPost s st k tag) where
  pub part_other : (tag ≡ 901 → ⊥) → Decides partition_of s st nx k None
  part_other = by_other partition_of s st nx k tag pt 901 (λ Γ us ks. rewrite_partition Γ ks) (λ Γ v. refl)

  module _ (key : tag ≡ 901) (m : ℕ) (pm : ArityPost s st k m) where
    -- by the node's children
    part : (r : Option Decision)
        → ((t : Tree) (n : ℕ) (Γ : Ctx) (i : ℕ) (us : List Ty) (ks : Forest) → Table s t st nx n
        → find t [] k ≡ found Γ (node (head 901 i us) ks) → m ≡ count ks
        → (w : Tree) (Ξ : Ctx) (kept : List ℕ) → Means t w Ξ kept r (rewrite_partition Γ ks))
        → Decides partition_of s st nx k r
    unfolding on_tag
    part r go =
        record {
          means = λ t n Γ v tb f w Ξ kept.
              let o = any 901 v (sym (pt.tag t n Γ v tb.framed f) ∙ key) in
              let fx : find t [] k ≡ found Γ (node (head 901 o.n o.us) o.ks) = f ∙ ap (found Γ) o.is in
              rw o.is (go t n Γ o.n o.us o.ks tb fx (pm.many t n Γ (node (head 901 o.n o.us) o.ks) tb.framed fx) w Ξ kept);
        }

    pub part_14 : m ≡ 1 → (r : Option Decision) → r ≡ Some (D.Fixed 14 14 (k + 1) (k + 1) k) → Decides partition_of s st nx k r
    unfolding lookup class_of form_at side rewrite_partition
    part_14 z r er = part r (λ t n Γ i us ks tb fx em w Ξ kept. rw er (go t n Γ i us ks tb fx (sym em ∙ z)))
      where
        go : (t : Tree) (n : ℕ) (Γ : Ctx) (i : ℕ) (us : List Ty) (ks : Forest) → Table s t st nx n
            → find t [] k ≡ found Γ (node (head 901 i us) ks) → count ks ≡ 1 → FixedMeans t 14 14 (k + 1) (k + 1) k (rewrite_partition Γ ks)
        go t n Γ i us nil tb fx h = absurd (omega arith)
        go t n Γ i us (cons a nil) tb fx h =
            let fa = only_child t nx tb.follows k Γ 901 i us a fx in
            fixed_at t 14 14 (to 14 (is_empty Γ a)) (is_empty Γ a) refl (k + 1) (k + 1) k Γ Γ a a
            (node (head 901 i us) (cons a nil)) fa fa fx refl (sym (right_side 14 refl Γ a a us))
        go t n Γ i us (cons a (cons b ks)) tb fx h = absurd (omega arith)

    pub part_15 : m ≡ 2 → (j : ℕ) → j ≡ get_or nx (k + 1) 0 → (r : Option Decision) → r ≡ Some (D.Fixed 15 15 (k + 1) j k)
        → Decides partition_of s st nx k r
    unfolding lookup class_of form_at side rewrite_partition
    part_15 z j ej r er = part r (λ t n Γ i us ks tb fx em w Ξ kept. rw er (go t n Γ i us ks tb fx (sym em ∙ z)))
      where
        go : (t : Tree) (n : ℕ) (Γ : Ctx) (i : ℕ) (us : List Ty) (ks : Forest) → Table s t st nx n
            → find t [] k ≡ found Γ (node (head 901 i us) ks) → count ks ≡ 2 → FixedMeans t 15 15 (k + 1) j k (rewrite_partition Γ ks)
        go t n Γ i us nil tb fx h = absurd (omega arith)
        go t n Γ i us (cons a nil) tb fx h = absurd (omega arith)
        go t n Γ i us (cons a (cons b nil)) tb fx h =
            let fs = two_children t nx tb.follows k Γ 901 i us a b fx in
            rw ej
            (fixed_at t 15 15 (to 15 (two #Equal a b)) (two #Equal a b) refl (k + 1) (get_or nx (k + 1) 0) k Γ Γ a b
            (node (head 901 i us) (cons a (cons b nil))) fs.0 fs.1 fx refl (sym (right_side 15 refl Γ a b us)))
        go t n Γ i us (cons a (cons b (cons c ks))) tb fx h = absurd (omega arith)

    pub part_none : (m ≡ 1 → ⊥) → (m ≡ 2 → ⊥) → Decides partition_of s st nx k None
    unfolding rewrite_partition
    part_none p q = part None (λ t n Γ i us ks tb fx em w Ξ kept. go Γ ks em)
      where
        go : (Γ : Ctx) (ks : Forest) → m ≡ count ks → rewrite_partition Γ ks ≡ same
        go Γ nil h = refl
        go Γ (cons a nil) h = absurd (p h)
        go Γ (cons a (cons b nil)) h = absurd (q h)
        go Γ (cons a (cons b (cons c ks))) h = refl
