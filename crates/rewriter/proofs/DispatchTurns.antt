-- The ways out of src/dispatch.rt.
-- Main results: by_logic, past_logic; to_rewrite_not, to_finite, to_partition, to_equal, to_subset, to_none (past logic, by the tag).
use mathlib.Core.Path.{◌≡◌, refl}
use mathlib.Core.List.{List, [], ◌∷◌}
use Prim.Native.Nat.{ℕ, ◌+◌}
use lib.ListN.{get_or}
use borrow.Author.Tests.{ne_eqb}
use Rattle.std.proofs.Common.{Option, Some, None}
use Rattle.frame.specs.Trees.{head, Tree, node, tag_of}
use Rattle.frame.specs.Tags.{expression, lookup, class_of, form_at}
use Rattle.frame.specs.Places.{Ctx}
use Rattle.nav.specs.PlaceTables.{TagPost}
use Rattle.rules.specs.Change.{same, on_tag, with1}
use Rattle.rules.specs.Simplify.{simplify_predicate_node}
use Rattle.rules.specs.Negation.{rewrite_not, rewrite_not_inner, rewrite_partition}
use Rattle.rules.specs.Finite.{rewrite_finite}
use Rattle.rules.specs.Dispatch.{equal_rules, subset_rules, dispatch}
use Rattle.decision.specs.Decides.{Decides, DecidesOne, DecidesPair, Unlike}
use Rattle.decision.specs.RulesAt.{after_logic, partition_of}
use Rattle.decision.specs.Decision.{places_of}
use Rattle.decision.specs.declared.kept.KeptChild.{KeptChild}
use Rattle.decision.specs.Dispatching.{NodePost, DispatchPost}
use Rattle.decision.specs.declared.Decision.{Decision}
use Rattle.decision.proofs.Shapes.{or_same, by_rest, by_both}
use Rattle.decision.proofs.Descents.{by_child}
use Rattle.decision.proofs.Series.{or_first}
use Rattle.rewriter.proofs.NodeTurns.{by_tag}

-- ---- logic first, then, where no rule applies, the others; these leave the lent list as it is
module _ (s st nx : List ℕ) (k : ℕ) (lent : List KeptChild) where
  pub by_logic : (d : Decision) → NodePost s st nx k lent (Some d) → DispatchPost s st nx k lent (Some d)
  unfolding dispatch
  by_logic d pd = record {
    means = λ t n Γ v tb f. or_first t v Γ (places_of lent) d (simplify_predicate_node v) (after_logic Γ v) (pd.means t n Γ v tb f);
  }

  pub past_logic : NodePost s st nx k lent None → (r : Option Decision) → Decides after_logic s st nx k r → DispatchPost s st nx k lent r
  unfolding dispatch
  past_logic pd r p = record { means = λ t n Γ v tb f. rw (pd.means t n Γ v tb f) (p.means t n Γ v tb f v Γ (places_of lent)) }

-- ---- then the rules of the tag: the others don't apply. (The tag that is tested last comes first.)
abbrev pub ruled : List ℕ
ruled = 111 ∷ 101 ∷ 901 ∷ 620 ∷ 701 ∷ []

at_none : (a : ℕ) → Unlike a ruled → (Γ : Ctx) (v : Tree) → tag_of v ≡ a → after_logic Γ v ≡ same
unfolding rewrite_not on_tag
at_none a (((((none, not), finite), partition), equal), subset) Γ (node (head g n us) ks) z =
    rw z (simp (ne_eqb a 701 not, ne_eqb a 620 finite, ne_eqb a 901 partition, ne_eqb a 101 equal, ne_eqb a 111 subset))

module _ (s st nx : List ℕ) (k tag : ℕ) (pt : TagPost s st k tag) where
  -- at the node itself
  pub to_rewrite_not : tag ≡ 701 → (r : Option Decision) → DecidesOne rewrite_not s st nx k r → Decides after_logic s st nx k r
  unfolding rewrite_not on_tag
  to_rewrite_not key = by_tag s st nx k tag pt 701 key after_logic (λ Γ. rewrite_not) (λ Γ n us ks. or_same (with1 ks rewrite_not_inner))

  pub to_partition : tag ≡ 901 → (r : Option Decision) → Decides partition_of s st nx k r → Decides after_logic s st nx k r
  unfolding rewrite_not on_tag
  to_partition key = by_tag s st nx k tag pt 901 key after_logic partition_of (λ Γ n us ks. or_same (rewrite_partition Γ ks))

  pub to_none : Unlike tag ruled → Decides after_logic s st nx k None
  to_none u = by_rest after_logic s st nx k tag pt (at_none tag u) None refl

  -- at its child
  pub to_finite : tag ≡ 620 → (r : Option Decision) → Decides rewrite_finite s st nx (k + 1) r → Decides after_logic s st nx k r
  unfolding rewrite_not on_tag lookup class_of form_at
  to_finite key = by_child s st nx k tag pt 620 key expression (λ x. refl) after_logic rewrite_finite (λ Γ n us a. or_same (rewrite_finite Γ a))

  -- at its two children
  module _ (b : ℕ) (eb : b ≡ get_or nx (k + 1) 0) where
    pub to_equal : tag ≡ 101 → (r : Option Decision) → DecidesPair equal_rules s st nx (k + 1) b r → Decides after_logic s st nx k r
    unfolding rewrite_not on_tag lookup class_of form_at
    to_equal key =
        by_both s st nx k tag pt 101 key expression expression (λ x. refl) b eb after_logic equal_rules (λ Γ n us v w. or_same (equal_rules Γ v w))

    pub to_subset : tag ≡ 111 → (r : Option Decision) → DecidesPair subset_rules s st nx (k + 1) b r → Decides after_logic s st nx k r
    unfolding rewrite_not on_tag lookup class_of form_at
    to_subset key = by_both s st nx k tag pt 111 key expression expression (λ x. refl) b eb after_logic subset_rules (λ Γ n us v w. refl)
