-- ∧, ∨ and negations are replaced by accepted predicates; sides of equations of sets.
-- Main results: opposite_holds, junction_operands, junction_holds, neutral_holds, absorbing_holds, kept_holds (the operands
-- of ∧ and ∨ that are left), emptied, filled, emptiness_accepted, fullness_accepted (the set of a predicate that says that it is
-- empty, or its whole type).
use Prim.Native.Nat.{ℕ}
use native.Mathlib.Omega.{arith}
use Rattle.frame.specs.Types.{Ty, bool, pow}
use Rattle.frame.specs.Trees.{Tree, Forest, cons, leaf, many}
use Rattle.frame.specs.Tags.{predicate, expression, class_of, lookup, form_at}
use Rattle.frame.specs.Places.{Ctx}
use Rattle.typing.specs.Accepted.{Accepted}
use Rattle.rules.specs.Equations.{
  Junction,
  conjunction,
  disjunction,
  Dropped,
  Opposite,
  negated,
  restored,
  Emptiness,
  is-∅,
  in-∅,
  ∅-is,
  Fullness,
  is_Ty,
  Ty_is,
}
use Rattle.rules.proofs.Nodes.{Is, Holds, Has, Each}
use Rattle.rules.proofs.NewNodes.{true_holds, false_holds, not_holds, and_holds, or_holds}
use Rattle.rules.proofs.OldNodes.{Operands, of_not, of_equal, of_subset, of_and, of_or}
use Rattle.rules.proofs.Operands.{dropped_count, dropped_every}

module _ {σ : ℕ → Ty} {Γ : Ctx} where
  pub opposite_holds : {p n : Tree} → Opposite p n → Holds σ Γ p → Holds σ Γ n
  opposite_holds (negated p) h = not_holds h
  opposite_holds (restored p) h = of_not h

  -- ---- ∧ and ∨
  pub neutral_holds : {g n d : ℕ} → Junction g n d → Holds σ Γ (leaf n)
  neutral_holds conjunction = true_holds
  neutral_holds disjunction = false_holds

  pub absorbing_holds : {g n d : ℕ} → Junction g n d → Holds σ Γ (leaf d)
  absorbing_holds conjunction = false_holds
  absorbing_holds disjunction = true_holds

  pub junction_operands : {g n d : ℕ} (ps : Forest) {t : Ty} → Junction g n d → Is σ Γ predicate (many g ps) t → Operands σ Γ predicate bool ps
  junction_operands ps conjunction h = of_and ps h
  junction_operands ps disjunction h = of_or ps h

  pub junction_holds : {g n d : ℕ} (ps : Forest) → Junction g n d → Operands σ Γ predicate bool ps → Holds σ Γ (many g ps)
  junction_holds ps conjunction o = and_holds ps o.some o.few o.each
  junction_holds ps disjunction o = or_holds ps o.some o.few o.each

  pub kept_holds : {n : ℕ} {ps qs : Forest} → Dropped n ps qs → Operands σ Γ predicate bool ps → Each σ Γ predicate bool qs
  kept_holds d o = dropped_every (λ k. Is σ Γ predicate k bool) d o.each

  -- two operands or more are left
  pub kept_operands : {n : ℕ} (ps : Forest) (p q : Tree) (qs : Forest) → Dropped n ps (cons p (cons q qs)) → Operands σ Γ predicate bool ps
      → Operands σ Γ predicate bool (cons p (cons q qs))
  kept_operands ps p q qs d o = let c = dropped_count d in record { some = omega arith; few = omega arith; each = kept_holds d o }

  -- ---- the set E of E = ∅, E ⊆ ∅, ∅ = E, E = Ty, Ty = E
  pub emptied : {e l : Tree} {t : Ty} → Emptiness e l → Is σ Γ predicate l t → (u : Ty) × Has σ Γ e u
  emptied (is-∅ e s) h = let x = of_equal h in (x.0, x.1)
  emptied (in-∅ e s) h = let x = of_subset h in (pow x.0, x.1)
  emptied (∅-is e s) h = let x = of_equal h in (x.0, x.2)

  pub filled : {e l : Tree} {t : Ty} → Fullness Γ e l → Is σ Γ predicate l t → (u : Ty) × Has σ Γ e u
  filled (is_Ty e) h = let x = of_equal h in (x.0, x.1)
  filled (Ty_is e) h = let x = of_equal h in (x.0, x.2)

-- that set is accepted
module _ (σ : ℕ → Ty) (Γ : Ctx) where
  pub emptiness_accepted : {e l : Tree} → Emptiness e l → Accepted σ l Γ predicate → Accepted σ e Γ expression
  unfolding Accepted class_of lookup form_at
  emptiness_accepted (is-∅ e t) a = a.kids.0
  emptiness_accepted (in-∅ e t) a = a.kids.0
  emptiness_accepted (∅-is e t) a = a.kids.1.0

  pub fullness_accepted : {e l : Tree} → Fullness Γ e l → Accepted σ l Γ predicate → Accepted σ e Γ expression
  unfolding Accepted class_of lookup form_at
  fullness_accepted (is_Ty e) a = a.kids.0
  fullness_accepted (Ty_is e) a = a.kids.1.0
