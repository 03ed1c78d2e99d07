-- The ways out of src/node.rt.
-- Main results: into (of any rule: a decision that leaves the lent list as it is); by_tag (of any rule: another that answers the same
-- at trees of this tag); junction_here, junction_done; to_imp, to_eqv, to_not, to_forall, to_exists, to_none.
use mathlib.Core.Path.{◌≡◌, refl, sym, ap, ◌∙◌}
use mathlib.Core.List.{List, [], ◌∷◌}
use mathlib.Core.Logic.{◌⊎◌, ⊎_elim}
use Prim.Native.Nat.{ℕ, ◌+◌}
use lib.ListN.{get_or}
use borrow.Author.Tests.{ne_eqb}
use Rattle.std.proofs.Common.{Option, None}
use Rattle.frame.specs.Types.{Ty}
use Rattle.frame.specs.Trees.{head, Tree, node, Forest, tag_of}
use Rattle.frame.specs.Tags.{predicate, lookup, class_of, form_at}
use Rattle.frame.specs.Operators.{#LAnd, #LOr, #BTrue, #BFalse}
use Rattle.frame.specs.Places.{Ctx, found, find}
use Rattle.nav.specs.PlaceTables.{Table, TagPost}
use Rattle.rules.specs.Change.{Change, same, on_tag, with1}
use Rattle.rules.specs.Simplify.{simplify_assoc_pred, simplify_imp, simplify_eqv, simplify_not, simplify_forall, simplify_predicate_node}
use Rattle.decision.specs.Decision.{places_of, Means}
use Rattle.decision.specs.declared.kept.KeptChild.{KeptChild}
use Rattle.decision.specs.Decides.{Here, Decides, DecidesOne, DecidesTwo, Unlike}
use Rattle.decision.specs.RulesAt.{forall_of, exists_of}
use Rattle.junction.specs.Junction.{JunctionPre, JunctionPost}
use Rattle.decision.specs.Dispatching.{DecidesInto, NodePost}
use Rattle.decision.specs.declared.Decision.{Decision}
use Rattle.decision.proofs.Shapes.{any, or_same, by_rest, by_both}
use Rattle.decision.proofs.Descents.{by_child}

-- ---- any rule
pub into : (rule : Ctx → Tree → Change) (s st nx : List ℕ) (k : ℕ) (lent : List KeptChild) → (r : Option Decision) → Decides rule s st nx k r
    → DecidesInto rule s st nx k lent r
into rule s st nx k lent r p = record { means = λ t n Γ v tb f. p.means t n Γ v tb f v Γ (places_of lent) }

pub by_tag : (s st nx : List ℕ) (k tag : ℕ) → TagPost s st k tag → (g : ℕ) → tag ≡ g → (rule on : Ctx → Tree → Change)
    → ((Γ : Ctx) (n : ℕ) (us : List Ty) (ks : Forest) → rule Γ (node (head g n us) ks) ≡ on Γ (node (head g n us) ks))
    → (r : Option Decision) → Decides on s st nx k r → Decides rule s st nx k r
by_tag s st nx k tag pt g key rule on z r p =
    record { means = λ t n Γ v tb f w Ξ kept. rw (go Γ v (sym (pt.tag t n Γ v tb.framed f) ∙ key)) (p.means t n Γ v tb f w Ξ kept) }
  where
    go : (Γ : Ctx) (v : Tree) → tag_of v ≡ g → rule Γ v ≡ on Γ v
    go Γ (node (head h n us) ks) e = rw e (z Γ n us ks)

-- ---- logic: at each tag the other arms don't apply
at_and : (n : ℕ) (us : List Ty) (ks : Forest) → simplify_predicate_node (node (head 351 n us) ks) ≡ simplify_assoc_pred #LAnd #BTrue #BFalse ks
unfolding simplify_predicate_node on_tag
at_and n us ks = or_same (simplify_assoc_pred #LAnd #BTrue #BFalse ks)

at_or : (n : ℕ) (us : List Ty) (ks : Forest) → simplify_predicate_node (node (head 352 n us) ks) ≡ simplify_assoc_pred #LOr #BFalse #BTrue ks
unfolding simplify_predicate_node on_tag
at_or n us ks = or_same (simplify_assoc_pred #LOr #BFalse #BTrue ks)

-- (The tag that is tested last comes first.)
abbrev pub logical : List ℕ
logical = 852 ∷ 851 ∷ 701 ∷ 252 ∷ 251 ∷ 352 ∷ 351 ∷ []

at_none : (a : ℕ) → Unlike a logical → (v : Tree) → tag_of v ≡ a → simplify_predicate_node v ≡ same
unfolding simplify_predicate_node on_tag
at_none a (((((((none, and), or), imp), eqv), not), all), some) (node (head g n us) ks) z =
    rw z (simp (ne_eqb a 351 and, ne_eqb a 352 or, ne_eqb a 251 imp, ne_eqb a 252 eqv, ne_eqb a 701 not, ne_eqb a 851 all, ne_eqb a 852 some))

module _ (s st nx : List ℕ) (k tag : ℕ) (pt : TagPost s st k tag) where
  -- ∧ and ∨
  pub junction_here : (tag ≡ 351) ⊎ (tag ≡ 352) → Here s st nx k → JunctionPre s st nx k
  junction_here key h =
      let o = any (tag_of h.v) h.v refl in
      let z : tag ≡ tag_of h.v = pt.tag h.t h.n h.Γ h.v h.table.framed h.there in
      record {
        t = h.t;
        n = h.n;
        Γ = h.Γ;
        g = tag_of h.v;
        x = o.n;
        us = o.us;
        ks = o.ks;
        table = h.table;
        there = h.there ∙ ap (found h.Γ) o.is;
        operator = rw (← z) key;
      }

  pub junction_done : (tag ≡ 351) ⊎ (tag ≡ 352) → (lent : List KeptChild) (r : Option Decision) → JunctionPost s st nx k lent r → NodePost s st nx k lent r
  junction_done key lent r p = record { means = λ t n Γ v tb f. ⊎_elim (conj t n Γ v tb f) (disj t n Γ v tb f) key }
    where
      conj : (t : Tree) (n : ℕ) (Γ : Ctx) (v : Tree) → Table s t st nx n → find t [] k ≡ found Γ v → tag ≡ 351
          → Means t v Γ (places_of lent) r (simplify_predicate_node v)
      conj t n Γ v tb f e =
          let o = any 351 v (sym (pt.tag t n Γ v tb.framed f) ∙ e) in
          rw (o.is, at_and o.n o.us o.ks) (p.conj t n Γ o.n o.us o.ks tb (f ∙ ap (found Γ) o.is))

      disj : (t : Tree) (n : ℕ) (Γ : Ctx) (v : Tree) → Table s t st nx n → find t [] k ≡ found Γ v → tag ≡ 352
          → Means t v Γ (places_of lent) r (simplify_predicate_node v)
      disj t n Γ v tb f e =
          let o = any 352 v (sym (pt.tag t n Γ v tb.framed f) ∙ e) in
          rw (o.is, at_or o.n o.us o.ks) (p.disj t n Γ o.n o.us o.ks tb (f ∙ ap (found Γ) o.is))

  -- at the node itself
  pub to_forall : tag ≡ 851 → (r : Option Decision) → Decides forall_of s st nx k r → DecidesOne simplify_predicate_node s st nx k r
  unfolding simplify_predicate_node on_tag
  to_forall key = by_tag s st nx k tag pt 851 key (λ Γ. simplify_predicate_node) forall_of (λ Γ n us ks. or_same (with1 ks (simplify_forall us)))

  pub to_exists : tag ≡ 852 → (r : Option Decision) → Decides exists_of s st nx k r → DecidesOne simplify_predicate_node s st nx k r
  unfolding simplify_predicate_node on_tag
  to_exists key = by_tag s st nx k tag pt 852 key (λ Γ. simplify_predicate_node) exists_of (λ Γ n us ks. refl)

  pub to_none : Unlike tag logical → (lent : List KeptChild) → NodePost s st nx k lent None
  to_none u lent =
      into _ s st nx k lent None (by_rest (λ Γ. simplify_predicate_node) s st nx k tag pt (λ Γ. at_none tag u) None refl)

  -- at its child
  pub to_not : tag ≡ 701 → (r : Option Decision) → DecidesOne simplify_not s st nx (k + 1) r → DecidesOne simplify_predicate_node s st nx k r
  unfolding simplify_predicate_node on_tag lookup class_of form_at
  to_not key =
      by_child s st nx k tag pt 701 key predicate (λ x. refl) (λ Γ. simplify_predicate_node) (λ Γ. simplify_not) (λ Γ n us a. or_same (simplify_not a))

  -- at its two children
  module _ (b : ℕ) (eb : b ≡ get_or nx (k + 1) 0) where
    pub to_imp : tag ≡ 251 → (r : Option Decision) → DecidesTwo simplify_imp s st nx (k + 1) b r → DecidesOne simplify_predicate_node s st nx k r
    unfolding simplify_predicate_node on_tag lookup class_of form_at
    to_imp key =
        by_both s st nx k tag pt 251 key predicate predicate (λ x. refl) b eb (λ Γ. simplify_predicate_node) (λ Γ. simplify_imp)
        (λ Γ n us v w. or_same (simplify_imp v w))

    pub to_eqv : tag ≡ 252 → (r : Option Decision) → DecidesTwo simplify_eqv s st nx (k + 1) b r → DecidesOne simplify_predicate_node s st nx k r
    unfolding simplify_predicate_node on_tag lookup class_of form_at
    to_eqv key =
        by_both s st nx k tag pt 252 key predicate predicate (λ x. refl) b eb (λ Γ. simplify_predicate_node) (λ Γ. simplify_eqv)
        (λ Γ n us v w. or_same (simplify_eqv v w))
