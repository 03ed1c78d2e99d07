-- One rule after another.
-- Main results: changes (a decision stands for a tree); or_first, means_series;
-- same_rule, turned, series, imp_series (the ways out of implication_at of logic/src/implication.rt).
use mathlib.Core.Path.{◌≡◌, sym, ◌∙◌}
use mathlib.Core.List.{List}
use Prim.Native.Nat.{ℕ}
use Rattle.std.proofs.Common.{Option, Some, None, MatchOption}
use Rattle.frame.specs.Trees.{Tree}
use Rattle.frame.specs.Places.{Ctx}
use Rattle.rules.specs.Change.{Change, to, ◌or_else◌}
use Rattle.rules.specs.Simplify.{simplify_imp}
use Rattle.decision.specs.Decision.{StandsFor, Means}
use Rattle.decision.specs.Decides.{DecidesPair, DecidesTwo}
use Rattle.decision.specs.RulesAt.{imp_first, imp_and, imp_last}
use Rattle.decision.specs.declared.Decision.{Decision}
use Rattle.decision.specs.declared.Decision.TheVariants as D
use Rattle.decision.proofs.Bridges.{or_assoc, imp_parts}

-- a decision stands for a tree
pub changes : (t v : Tree) (Γ : Ctx) (kp : List ℕ) (d : Decision) (c : Change) → StandsFor t v Γ kp d c → (place : ℕ) × ((new : Tree) × (c ≡ to place new))
changes t v Γ kp (D.Fixed a b e f g) c m = (a, (m.new, m.answer))
changes t v Γ kp (D.Each a b e) c m = (a, (m.new, m.answer))
changes t v Γ kp D.Kept c m = (65, (_, m.answer))
changes t v Γ kp (D.Apart i j) c m = (37, (_, m.answer))
changes t v Γ kp (D.Within i) c m = (38, (_, m.answer))

-- what stands for an answer stands for it before any other
pub or_first : (t x : Tree) (Ξ : Ctx) (kept : List ℕ) (d : Decision) (c e : Change) → StandsFor t x Ξ kept d c → StandsFor t x Ξ kept d (c or_else e)
or_first t x Ξ kept d c e m = let z = changes t x Ξ kept d c m in rw z.1.1 (rw z.1.1 at m)

-- an answer, and where there is none another, by the `or_else` of their decisions
pub means_series : (t x : Tree) (Ξ : Ctx) (kept : List ℕ) (d r : Option Decision) (c e : Change) → Means t x Ξ kept d c
    → MatchOption d (Means t x Ξ kept r e) (λ y. r ≡ Some y) → Means t x Ξ kept r (c or_else e)
means_series t x Ξ kept None r c e m o = rw m o
means_series t x Ξ kept (Some d) r c e m o = rw o (or_first t x Ξ kept d c e m)

-- ---- rules on two trees
module _ (s st nx : List ℕ) (a b : ℕ) where
  -- a rule that answers the same
  pub same_rule : (f g : Ctx → Tree → Tree → Change) → ((Γ : Ctx) (v w : Tree) → g Γ v w ≡ f Γ v w) → (d : Option Decision) → DecidesPair f s st nx a b d
      → DecidesPair g s st nx a b d
  same_rule f g z d p = record { means = λ t n Γ v w tb fa fb x Ξ kept. rw (z Γ v w) (p.means t n Γ v w tb fa fb x Ξ kept) }

  -- its operands the other way round
  pub turned : (f : Ctx → Tree → Tree → Change) (d : Option Decision) → DecidesPair f s st nx b a d → DecidesPair (λ Γ v w. f Γ w v) s st nx a b d
  turned f d p = record { means = λ t n Γ v w tb fa fb x Ξ kept. p.means t n Γ w v tb fb fa x Ξ kept }

  -- one after the other
  pub series : (f g : Ctx → Tree → Tree → Change) (d : Option Decision) → DecidesPair f s st nx a b d → (r : Option Decision)
      → MatchOption d (DecidesPair g s st nx a b r) (λ y. r ≡ Some y) → DecidesPair (λ Γ v w. f Γ v w or_else g Γ v w) s st nx a b r
  series f g None p r o = record {
    means = λ t n Γ v w tb fa fb x Ξ kept.
        means_series t x Ξ kept None r (f Γ v w) (g Γ v w) (p.means t n Γ v w tb fa fb x Ξ kept) (o.means t n Γ v w tb fa fb x Ξ kept);
  }
  series f g (Some d) p r o = record {
    means = λ t n Γ v w tb fa fb x Ξ kept. means_series t x Ξ kept (Some d) r (f Γ v w) (g Γ v w) (p.means t n Γ v w tb fa fb x Ξ kept) o;
  }

  -- ---- ⇒
  module _ (d : Option Decision) (p : DecidesTwo imp_first s st nx a b d) (e : Option Decision)
      (q : MatchOption d (DecidesTwo imp_and s st nx a b e) (λ y. e ≡ Some y)) where
    pub imp_series : (r : Option Decision) → MatchOption e (DecidesTwo imp_last s st nx a b r) (λ y. r ≡ Some y) → DecidesTwo simplify_imp s st nx a b r
    imp_series r o =
        let two = series (λ Γ. imp_first) (λ Γ. imp_and) d p e q in
        let all = series (λ Γ v w. imp_first v w or_else imp_and v w) (λ Γ. imp_last) e two r o in
        same_rule (λ Γ v w. (imp_first v w or_else imp_and v w) or_else imp_last v w) (λ Γ. simplify_imp)
        (λ Γ v w. imp_parts v w ∙ sym (or_assoc (imp_first v w) (imp_and v w) (imp_last v w))) r all
