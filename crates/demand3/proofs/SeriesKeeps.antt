-- Demand 3 is met: each changing step keeps truth, premises and acceptance and takes at least one off the weight, and a series is
-- a row of steps.
-- Main results: demand3, any_length.
use mathlib.Core.Path.{◌≡◌, refl, sym, ap, ◌∙◌}
use mathlib.Core.List.{[]}
use Prim.Native.Nat.{ℕ, ◌+◌, ◌≤◌, ◌<◌}
use native.Mathlib.Omega.{arith}
use Rattle.frame.specs.Types.{Ty}
use Rattle.frame.specs.Trees.{Tree}
use Rattle.frame.specs.Tags.{predicate}
use Rattle.typing.specs.Accepted.{Accepted}
use Rattle.typing.specs.Signature.{signature}
use Rattle.typing.proofs.Checked.{check_accepts}
use Rattle.step.specs.Step.{changed, step_tree}
use Rattle.step.proofs.Steps.{step_inv, old_accepted, old_predicate, step_instance, step_accepted}
use Rattle.run.specs.Steps.{Steps, none, more}
use Rattle.run.proofs.Calls.{series_holds}
use Rattle.meaning.specs.Meaning.{Interpretation, truth, is_true}
use Rattle.meaning.specs.Premises.{SingleIntegers, NoInterOverNothing}
use Rattle.truth.proofs.Sound.{Keeps, keeps_at_place}
use Rattle.truth.proofs.EquationKeeps.{equation_keeps}
use Rattle.weight.specs.Weight.{weight}
use Rattle.weight.proofs.Positive.{weight_positive}
use Rattle.weight.proofs.Monotone.{weight_at_place}
use Rattle.weight.proofs.Equations.{equation_falls}
use Rattle.demand3.specs.Demand3.{Demand3, AnyLength}

-- ---- one changing step
module _ (σ : ℕ → Ty) (t : Tree) (k place : ℕ) (u : Tree) (a : Accepted σ t [] predicate) (e : step_tree t k ≡ changed place u) where
  step_falls : weight u < weight t
  step_falls =
      let i = step_inv t k place u e in
      rw i.result
      (weight_at_place t [] k i.Γ i.old i.new i.there
      (equation_falls σ i.Γ place i.old i.new (step_instance σ t k place u a e) (old_predicate σ t k place u a e)))

  step_keeps : (I : Interpretation) → SingleIntegers t [] → Keeps I [] t u
  step_keeps I s =
      let i = step_inv t k place u e in
      rw i.result
      (keeps_at_place I t [] k i.Γ i.old i.new i.there s
      (λ v. equation_keeps I σ i.Γ place i.old i.new (old_accepted σ t k place u a e).0 (step_instance σ t k place u a e)
      (old_predicate σ t k place u a e) v))

-- ---- a row of them
steps_fall : (σ : ℕ → Ty) {t u : Tree} {n : ℕ} → Steps t n u → Accepted σ t [] predicate → n + weight u ≤ weight t
steps_fall σ (none t) a = omega arith
steps_fall σ (more t v u k place n e s) a =
    omega (arith, step_falls σ t k place v a e, steps_fall σ s (step_accepted σ t k place v a e))

steps_keep : (σ : ℕ → Ty) (I : Interpretation) {t u : Tree} {n : ℕ} → Steps t n u → Accepted σ t [] predicate → SingleIntegers t []
    → NoInterOverNothing I t [] → is_true I u ≡ is_true I t
unfolding is_true
steps_keep σ I (none t) a s l = refl
steps_keep σ I (more t v u k place n e r) a s l =
    let h = step_keeps σ t k place v a e I s in
    steps_keep σ I r (step_accepted σ t k place v a e) h.single (h.alive l) ∙ sym (ap (λ d. truth I d tt) (h.same l))

-- ---- the claims
pub demand3 : Demand3
demand3 s b first e calls =
    let x = check_accepts s b first e in
    let σ = signature first in
    let fits = rw (← x.bytes) at x.fits in
    let r = series_holds σ s first (record { checks = e; bytes = sym x.bytes; accepted = x.accepted; fits = fits }) calls in
    record {
      last = r.tree;
      reads = r.holds.checks;
      truth = λ I single alive. steps_keep σ I r.steps x.accepted single alive;
      figure = omega (arith, steps_fall σ r.steps x.accepted, weight_positive r.tree);
    }

pub any_length : AnyLength
any_length s b first e n last r = omega (arith, steps_fall (signature first) r (check_accepts s b first e).accepted, weight_positive last)
