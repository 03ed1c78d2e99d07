-- Binders that occur in a tree, and leaves of maplets: the rule's tests `uses` and `recovers` and the equation's relations `Occurs` and
-- `Leaf` say the same.
-- Main results: occurs_used, used_occurs; leaf_recovered, recovered_leaf.
use mathlib.Core.Path.{◌≡◌, refl}
use mathlib.Core.Bool.{Bool, true, false, ◌&&◌, ◌||◌}
use mathlib.Core.Logic.{inl, inr}
use Prim.Native.Nat.{ℕ, ◌+◌}
use lib.ListN.{length}
use lib.Dec.{eqb}
use borrow.Author.Tests.{eq-eqb, eqb-true}
use Rattle.frame.specs.Trees.{head, Tree, node, Forest, nil, cons}
use Rattle.frame.specs.Tags.{form_of, binders_of}
use Rattle.frame.specs.Operators.{#BoundIdent, #Mapsto}
use Rattle.frame.proofs.Inversion.{true_not}
use Rattle.frame.proofs.Booleans.{both_true}
use Rattle.rules.specs.Finite.{uses, uses_in, recovers, recovers_in}
use Rattle.rules.specs.Equations.{Among, Occurs, named, below, Leaf, alone, side}
use Rattle.rules.proofs.Shapes.{either}

or_right : (a b : Bool) → b ≡ true → (a || b) ≡ true
or_right true b e = refl
or_right false b e = e

or_left : (a b : Bool) → a ≡ true → (a || b) ≡ true
or_left true b e = refl
or_left false b e = true_not e

-- a test of the trees in a row, one by one
any_of : (test : Tree → ℕ → Bool) (tests : Forest → ℕ → Bool) → ((t : Tree) (ts : Forest) (i : ℕ) → tests (cons t ts) i ≡ (test t i || tests ts i))
    → (k : Tree) (ks : Forest) (i : ℕ) → Among k ks → test k i ≡ true → tests ks i ≡ true
any_of test tests is k nil i a e = absurd a
any_of test tests is k (cons t ts) i (inl q) e = rw (is t ts i) (or_left (test t i) (tests ts i) (rw q at e))
any_of test tests is k (cons t ts) i (inr a) e = rw (is t ts i) (or_right (test t i) (tests ts i) (any_of test tests is k ts i a e))

-- ---- occurring
pub occurs_used : {i : ℕ} {t : Tree} → Occurs i t → uses t i ≡ true
unfolding uses
occurs_used (named i us ks) = rw (eq-eqb i i refl)
occurs_used (below i g n us ks k a o) =
    or_right (eqb g #BoundIdent && eqb n i) (uses_in ks (i + length (binders_of (form_of g).layout us)))
    (any_of uses uses_in (λ t ts j. refl) k ks (i + length (binders_of (form_of g).layout us)) a (occurs_used o))

mutual
  unfolding uses

  pub used_occurs : (t : Tree) (i : ℕ) → uses t i ≡ true → Occurs i t
  used_occurs (node (head g n us) ks) i e =
      either (eqb g #BoundIdent && eqb n i) (uses_in ks (i + length (binders_of (form_of g).layout us))) e
      (λ h. let b = both_true (eqb g #BoundIdent) (eqb n i) h in rw (eqb-true g #BoundIdent b.0, eqb-true n i b.1) (named i us ks))
      (λ h. let r = used_in ks (i + length (binders_of (form_of g).layout us)) h in below i g n us ks r.0 r.1 r.2)

  used_in : (ks : Forest) (i : ℕ) → uses_in ks i ≡ true → (k : Tree) × Among k ks × Occurs i k
  used_in nil i e = true_not e
  used_in (cons t ts) i e =
      either (uses t i) (uses_in ts i) e (λ h. (t, inl refl, used_occurs t i h)) (λ h. let r = used_in ts i h in (r.0, inr r.1, r.2))

-- ---- leaves of maplets
pub leaf_recovered : {i : ℕ} {t : Tree} → Leaf i t → recovers t i ≡ true
unfolding recovers
leaf_recovered (alone i us ks) = rw (eq-eqb i i refl)
leaf_recovered (side i n us ks k a l) = any_of recovers recovers_in (λ t ts j. refl) k ks i a (leaf_recovered l)

mutual
  unfolding recovers

  pub recovered_leaf : (t : Tree) (i : ℕ) → recovers t i ≡ true → Leaf i t
  recovered_leaf (node (head g n us) ks) i e =
      either (eqb g #BoundIdent && eqb n i) (eqb g #Mapsto && recovers_in ks i) e
      (λ h. let b = both_true (eqb g #BoundIdent) (eqb n i) h in rw (eqb-true g #BoundIdent b.0, eqb-true n i b.1) (alone i us ks))
      (λ h. let b = both_true (eqb g #Mapsto) (recovers_in ks i) h in
      let r = leaf_in ks i b.1 in
      rw (eqb-true g #Mapsto b.0) (side i n us ks r.0 r.1 r.2))

  leaf_in : (ks : Forest) (i : ℕ) → recovers_in ks i ≡ true → (k : Tree) × Among k ks × Leaf i k
  leaf_in nil i e = true_not e
  leaf_in (cons t ts) i e =
      either (recovers t i) (recovers_in ts i) e (λ h. (t, inl refl, recovered_leaf t i h)) (λ h. let r = leaf_in ts i h in (r.0, inr r.1, r.2))
