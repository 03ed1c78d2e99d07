-- The ways out of src/equals/equality.rt.
use mathlib.Core.Path.{◌≡◌, sym, ◌∙◌}
use mathlib.Core.List.{List}
use Prim.Native.Nat.{ℕ}
use borrow.Author.Tests.{eq-eqb, ne_eqb}
use Rattle.std.proofs.Common.{Option, Some, None, MatchOption}
use Rattle.frame.specs.Trees.{Tree, tag_of}
use Rattle.frame.specs.Places.{Ctx}
use Rattle.nav.specs.PlaceTables.{TagPost}
use Rattle.rules.specs.Change.{Change, ◌or_else◌}
use Rattle.rules.specs.EqualsEmptySet.{rewrite_equals_empty_set}
use Rattle.rules.specs.Dispatch.{empty_rules, equal_rules, subset_rules}
use Rattle.decision.specs.Decides.{Decides, DecidesPair}
use Rattle.decision.specs.RulesAt.{type_right}
use Rattle.decision.specs.declared.Decision.{Decision}
use Rattle.decision.proofs.Bridges.{or_assoc}
use Rattle.decision.proofs.Series.{same_rule, turned, series}

module _ (s st nx : List ℕ) (a b right : ℕ) (pr : TagPost s st b right) where
  -- a rule that looks at the left tree where the right one is ∅
  on_empty : (rule : Ctx → Tree → Tree → Change) → ((Γ : Ctx) (v w : Tree) → tag_of w ≡ 407 → rule Γ v w ≡ rewrite_equals_empty_set Γ v)
      → right ≡ 407 → (r : Option Decision) → Decides rewrite_equals_empty_set s st nx a r → DecidesPair rule s st nx a b r
  on_empty rule ans z r p = record {
    means = λ t n Γ v w tb fa fb x Ξ kept. rw (ans Γ v w (sym (pr.tag t n Γ w tb.framed fb) ∙ z)) (p.means t n Γ v tb fa x Ξ kept);
  }

  -- ---- ⊆
  pub within_empty : right ≡ 407 → (r : Option Decision) → Decides rewrite_equals_empty_set s st nx a r → DecidesPair subset_rules s st nx a b r
  within_empty = on_empty subset_rules (λ Γ v w z. rw (eq-eqb (tag_of w) 407 z))

  -- ---- =, the empty rules
  pub empty_right : right ≡ 407 → (r : Option Decision) → Decides rewrite_equals_empty_set s st nx a r → DecidesPair empty_rules s st nx a b r
  empty_right = on_empty empty_rules (λ Γ v w z. rw (eq-eqb (tag_of w) 407 z))

  module _ (h : right ≡ 407 → ⊥) (left : ℕ) (pl : TagPost s st a left) where
    pub empty_left : left ≡ 407 → (r : Option Decision) → Decides rewrite_equals_empty_set s st nx b r → DecidesPair empty_rules s st nx a b r
    empty_left z r p = record {
      means = λ t n Γ v w tb fa fb x Ξ kept.
          rw (ne_eqb (tag_of w) 407 (λ z. h (pr.tag t n Γ w tb.framed fb ∙ z)), eq-eqb (tag_of v) 407 (sym (pl.tag t n Γ v tb.framed fa) ∙ z))
          (p.means t n Γ w tb fb x Ξ kept);
    }

    pub empty_none : (left ≡ 407 → ⊥) → DecidesPair empty_rules s st nx a b None
    empty_none i = record {
      means = λ t n Γ v w tb fa fb x Ξ kept.
          rw (
            ne_eqb (tag_of w) 407 (λ z. h (pr.tag t n Γ w tb.framed fb ∙ z)),
            ne_eqb (tag_of v) 407
                (λ z. i (pl.tag t n Γ v tb.framed fa ∙ z)),
          );
    }

-- ---- =, all of them
module _ (s st nx : List ℕ) (a b : ℕ) (d : Option Decision) (pd : DecidesPair empty_rules s st nx a b d) (e : Option Decision)
    (pe : MatchOption d (DecidesPair type_right s st nx a b e) (λ y. e ≡ Some y)) where
  pub equal_series : (r : Option Decision) → MatchOption e (DecidesPair type_right s st nx b a r) (λ y. r ≡ Some y) → DecidesPair equal_rules s st nx a b r
  equal_series r pr =
      let two = series s st nx a b empty_rules type_right d pd e pe in
      let all = series s st nx a b (λ Γ v w. empty_rules Γ v w or_else type_right Γ v w) (λ Γ v w. type_right Γ w v) e two r (left e r pr) in
      same_rule s st nx a b (λ Γ v w. (empty_rules Γ v w or_else type_right Γ v w) or_else type_right Γ w v) equal_rules
      (λ Γ v w. sym (or_assoc (empty_rules Γ v w) (type_right Γ v w) (type_right Γ w v))) r all
    where
      left : (e r : Option Decision) → MatchOption e (DecidesPair type_right s st nx b a r) (λ y. r ≡ Some y)
          → MatchOption e (DecidesPair (λ Γ v w. type_right Γ w v) s st nx a b r) (λ y. r ≡ Some y)
      left None r p = turned s st nx a b type_right r p
      left (Some y) r p = p
