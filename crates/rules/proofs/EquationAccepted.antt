-- The right side of each equation is accepted where the left side is: no number from 3 to 10 arises from a step.
-- Main results: equation_holds, equation_accepted.
use mathlib.Core.List.{List}
use Prim.Native.Nat.{ℕ, ◌≤◌}
use lib.ListN.{length}
use lib.Dec.{lit≤}
use Rattle.frame.specs.Types.{Ty, prod}
use Rattle.frame.specs.Trees.{Tree, cons, two, typed, bodied}
use Rattle.frame.specs.Tags.{predicate}
use Rattle.frame.specs.Operators.{#Mapsto, #CSet}
use Rattle.frame.specs.Places.{Ctx}
use Rattle.frame.specs.Encoding.{enc_ty}
use Rattle.typing.specs.Typing.{relation}
use Rattle.typing.specs.TypeExpression.{to_expression}
use Rattle.typing.specs.Accepted.{TysOk, Accepted}
use Rattle.rules.specs.Equations.{
  fin,
  ∀ᵖ,
  ∃ᵖ,
  Equation,
  equal_type,
  equal_empty,
  SIMP_SPECIAL_FINITE,
  SIMP_FINITE_NATURAL,
  SIMP_FINITE_NATURAL1,
  SIMP_FINITE_INTEGER,
  SIMP_FINITE_BOOL,
  SIMP_FINITE_ID,
  SIMP_FINITE_SETENUM,
  SIMP_FINITE_BUNION,
  SIMP_FINITE_POW,
  DERIV_FINITE_CPROD,
  SIMP_FINITE_CONVERSE,
  SIMP_FINITE_UPTO,
  SIMP_FINITE_LAMBDA,
  SIMP_FINITE_ID_DOMRES,
  SIMP_FINITE_PRJ1_DOMRES,
  SIMP_FINITE_PRJ2_DOMRES,
  SIMP_FINITE_PRJ1,
  SIMP_FINITE_PRJ2,
  SIMP_EMPTY_PARTITION,
  SIMP_SINGLE_PARTITION,
  SIMP_NOT_LE,
  SIMP_NOT_GE,
  SIMP_NOT_GT,
  SIMP_NOT_LT,
  SIMP_SPECIAL_NOT_EQUAL_FALSE_R,
  SIMP_SPECIAL_NOT_EQUAL_TRUE_R,
  SIMP_SPECIAL_NOT_EQUAL_FALSE_L,
  SIMP_SPECIAL_NOT_EQUAL_TRUE_L,
  SIMP_SPECIAL_AND_BFALSE/SIMP_SPECIAL_OR_BTRUE,
  SIMP_MULTI_AND_NOT/SIMP_MULTI_OR_NOT,
  dropped_all,
  dropped_but_one,
  dropped_some,
  SIMP_SPECIAL_IMP_BTRUE_L,
  SIMP_SPECIAL_IMP_BFALSE_L,
  SIMP_SPECIAL_IMP_BTRUE_R,
  SIMP_SPECIAL_IMP_BFALSE_R,
  SIMP_MULTI_IMP,
  SIMP_MULTI_IMP_AND,
  SIMP_MULTI_IMP_AND_NOT_R/SIMP_MULTI_IMP_AND_NOT_L,
  SIMP_MULTI_IMP_NOT_L,
  SIMP_MULTI_IMP_NOT_R,
  SIMP_SPECIAL_EQV_BTRUE/right,
  SIMP_SPECIAL_EQV_BTRUE/left,
  SIMP_MULTI_EQV,
  SIMP_SPECIAL_EQV_BFALSE/right,
  SIMP_SPECIAL_EQV_BFALSE/left,
  SIMP_MULTI_EQV_NOT/right,
  SIMP_MULTI_EQV_NOT/left,
  SIMP_SPECIAL_NOT_BTRUE,
  SIMP_SPECIAL_NOT_BFALSE,
  SIMP_NOT_NOT,
  SIMP_FORALL_AND,
  SIMP_EXISTS_OR,
  SIMP_EXISTS_IMP,
}
use Rattle.rules.proofs.Nodes.{Is, Holds, Has, holds, short}
use Rattle.rules.proofs.NewNodes.{
  short_dom,
  true_holds,
  false_holds,
  not_holds,
  finite_holds,
  equal_holds,
  lt_holds,
  le_holds,
  gt_holds,
  ge_holds,
  imp_holds,
  and_two,
  or_holds,
  forall_holds,
  exists_holds,
  true_has,
  false_has,
  set_has,
  type_has,
  is_empty_lem,
}
use Rattle.rules.proofs.OldNodes.{
  of_not,
  of_finite,
  of_lt,
  of_le,
  of_gt,
  of_ge,
  of_imp,
  of_eqv,
  of_and,
  of_or,
  of_forall,
  of_exists,
  of_part,
  of_parts,
  beside_false,
  beside_true,
  after_false,
  after_true,
  of_pow,
  of_converse,
  of_times,
  of_domres,
  of_cup,
  of_set,
  of_maplet,
  of_carried,
}
use Rattle.rules.proofs.Operands.{all_hold, some_hold}
use Rattle.rules.proofs.EmptyAccepted.{empties_holds}
use Rattle.rules.proofs.TypeAccepted.{fills_holds}
use Rattle.rules.proofs.LogicAccepted.{
  opposite_holds,
  neutral_holds,
  absorbing_holds,
  junction_operands,
  junction_holds,
  kept_holds,
  kept_operands,
  emptied,
  filled,
}

module _ {σ : ℕ → Ty} {Γ : Ctx} where
  -- ---- finite(..)
  -- a node that carries ℙ(t × u): finite(t)
  finite_source_lem : {g : ℕ} (t u : Ty) {w : Ty} → Has σ Γ (typed g (relation t u)) w → Holds σ Γ (fin (to_expression t))
  finite_source_lem t u h = let x = of_carried h in finite_holds (type_has t x.0.0 (short_dom t u x.1))

  -- {x · P ∣ E ↦ F}: {x · P ∣ E}
  finite_sources : (xs : List Ty) (p e f : Tree) {w : Ty} → Has σ Γ (bodied #CSet xs p (two #Mapsto e f)) w → Holds σ Γ (fin (bodied #CSet xs p e))
  finite_sources xs p e f h =
      let x = of_set h in
      let b = x.2 in
      let m = of_maplet b.expr in
      let l : length (enc_ty (relation m.0 m.1)) ≤ 64 = rw (← m.2, ← x.1) (short h) in
      finite_holds (set_has b.binders (short_dom m.0 m.1 l) b.pred m.3)

  module _ (ok : TysOk σ Γ) where
    pub equation_holds : {rule : ℕ} {l r : Tree} {t : Ty} → Equation Γ rule l r → Is σ Γ predicate l t → Holds σ Γ r
    equation_holds (SIMP_SPECIAL_FINITE t) h = true_holds
    equation_holds SIMP_FINITE_NATURAL h = false_holds
    equation_holds SIMP_FINITE_NATURAL1 h = false_holds
    equation_holds SIMP_FINITE_INTEGER h = false_holds
    equation_holds SIMP_FINITE_BOOL h = true_holds
    equation_holds (SIMP_FINITE_ID s) h = finite_source_lem s s (of_finite h).1
    equation_holds (SIMP_FINITE_SETENUM as') h = true_holds
    equation_holds (SIMP_FINITE_BUNION ks) h = all_hold fin (λ k x. finite_holds x) (of_cup ks (of_finite h).1).1
    equation_holds (SIMP_FINITE_POW s) h = finite_holds (of_pow (of_finite h).1).1
    equation_holds (DERIV_FINITE_CPROD s t) h =
        let x = of_times (of_finite h).1 in
        or_holds _ (lit≤ tt) (lit≤ tt) (is_empty_lem ok x.2, (is_empty_lem ok x.3, (and_two (finite_holds x.2) (finite_holds x.3), tt)))
    equation_holds (SIMP_FINITE_CONVERSE r) h = finite_holds (of_converse (of_finite h).1).2
    equation_holds (SIMP_FINITE_UPTO i j) h = true_holds
    equation_holds (SIMP_FINITE_LAMBDA xs p e f c) h = finite_sources xs p e f (of_finite h).1
    equation_holds (SIMP_FINITE_ID_DOMRES e t) h = finite_holds (of_domres (of_finite h).1).2
    equation_holds (SIMP_FINITE_PRJ1_DOMRES e t) h = finite_holds (of_domres (of_finite h).1).2
    equation_holds (SIMP_FINITE_PRJ2_DOMRES e t) h = finite_holds (of_domres (of_finite h).1).2
    equation_holds (SIMP_FINITE_PRJ1 s t) h = finite_source_lem (prod s t) s (of_finite h).1
    equation_holds (SIMP_FINITE_PRJ2 s t) h = finite_source_lem (prod s t) t (of_finite h).1
    equation_holds (SIMP_EMPTY_PARTITION s) h = is_empty_lem ok (of_part h).1
    equation_holds (SIMP_SINGLE_PARTITION s t) h = let x = of_parts h in equal_holds x.1 x.2
    equation_holds (SIMP_NOT_LE a b) h = let x = of_le (of_not h) in gt_holds x.0 x.1
    equation_holds (SIMP_NOT_GE a b) h = let x = of_ge (of_not h) in lt_holds x.0 x.1
    equation_holds (SIMP_NOT_GT a b) h = let x = of_gt (of_not h) in le_holds x.0 x.1
    equation_holds (SIMP_NOT_LT a b) h = let x = of_lt (of_not h) in ge_holds x.0 x.1
    equation_holds (SIMP_SPECIAL_NOT_EQUAL_FALSE_R e) h = equal_holds (beside_false (of_not h)) true_has
    equation_holds (SIMP_SPECIAL_NOT_EQUAL_TRUE_R e) h = equal_holds (beside_true (of_not h)) false_has
    equation_holds (SIMP_SPECIAL_NOT_EQUAL_FALSE_L e) h = equal_holds true_has (after_false (of_not h))
    equation_holds (SIMP_SPECIAL_NOT_EQUAL_TRUE_L e) h = equal_holds false_has (after_true (of_not h))
    equation_holds (equal_type f x) h = fills_holds ok x (filled f h).1
    equation_holds (equal_empty f x) h = empties_holds ok x (emptied f h).1
    equation_holds (SIMP_SPECIAL_AND_BFALSE/SIMP_SPECIAL_OR_BTRUE g n d ps j a) h = absorbing_holds j
    equation_holds (SIMP_MULTI_AND_NOT/SIMP_MULTI_OR_NOT g n d ps q j a b) h = absorbing_holds j
    equation_holds (dropped_all g n d ps j x) h = neutral_holds j
    equation_holds (dropped_but_one g n d ps p j x) h = (kept_holds x (junction_operands ps j h)).0
    equation_holds (dropped_some g n d ps p q qs j x c) h = junction_holds (cons p (cons q qs)) j
        (kept_operands ps p q qs x (junction_operands ps j h))
    equation_holds (SIMP_SPECIAL_IMP_BTRUE_L p) h = (of_imp h).1
    equation_holds (SIMP_SPECIAL_IMP_BFALSE_L p) h = true_holds
    equation_holds (SIMP_SPECIAL_IMP_BTRUE_R p) h = true_holds
    equation_holds (SIMP_SPECIAL_IMP_BFALSE_R p n o) h = opposite_holds o (of_imp h).0
    equation_holds (SIMP_MULTI_IMP p) h = true_holds
    equation_holds (SIMP_MULTI_IMP_AND ps q a) h = true_holds
    equation_holds (SIMP_MULTI_IMP_AND_NOT_R/SIMP_MULTI_IMP_AND_NOT_L ps q m o a) h = not_holds (of_imp h).0
    equation_holds (SIMP_MULTI_IMP_NOT_L p) h = (of_imp h).1
    equation_holds (SIMP_MULTI_IMP_NOT_R p) h = (of_imp h).1
    equation_holds (SIMP_SPECIAL_EQV_BTRUE/right p) h = (of_eqv h).0
    equation_holds (SIMP_SPECIAL_EQV_BTRUE/left p) h = (of_eqv h).1
    equation_holds (SIMP_MULTI_EQV p) h = true_holds
    equation_holds (SIMP_SPECIAL_EQV_BFALSE/right p n o) h = opposite_holds o (of_eqv h).0
    equation_holds (SIMP_SPECIAL_EQV_BFALSE/left p n o) h = opposite_holds o (of_eqv h).1
    equation_holds (SIMP_MULTI_EQV_NOT/right p) h = false_holds
    equation_holds (SIMP_MULTI_EQV_NOT/left p) h = false_holds
    equation_holds SIMP_SPECIAL_NOT_BTRUE h = false_holds
    equation_holds SIMP_SPECIAL_NOT_BFALSE h = true_holds
    equation_holds (SIMP_NOT_NOT p) h = of_not (of_not h)
    equation_holds (SIMP_FORALL_AND xs ps) h = let x = of_forall h in all_hold (∀ᵖ xs) (λ k y. forall_holds x.0 y) (of_and ps x.1)
    equation_holds (SIMP_EXISTS_OR xs ps) h = let x = of_exists h in some_hold (∃ᵖ xs) (λ k y. exists_holds x.0 y) (of_or ps x.1)
    equation_holds (SIMP_EXISTS_IMP xs p q) h =
        let x = of_exists h in
        let y = of_imp x.1 in
        imp_holds (forall_holds x.0 y.0) (exists_holds x.0 y.1)

pub equation_accepted : (σ : ℕ → Ty) (Γ : Ctx) (rule : ℕ) (l r : Tree) → TysOk σ Γ → Equation Γ rule l r → Accepted σ l Γ predicate
    → Accepted σ r Γ predicate
equation_accepted σ Γ rule l r ok e a = (equation_holds ok e (holds σ l Γ a)).accepted
