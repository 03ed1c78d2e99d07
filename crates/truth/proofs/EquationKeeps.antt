-- Every equation keeps what a predicate means.
-- Main result: equation_keeps.
use Prim.Native.Nat.{ℕ}
use Rattle.frame.specs.Types.{Ty, prod}
use Rattle.frame.specs.Trees.{Tree, nil, cons, leaf, two, typed, sole}
use Rattle.frame.specs.Tags.{predicate}
use Rattle.frame.specs.Operators.{#Bool, #Pow, #Converse, #DomRes, #UpTo, #KIdGen, #KPrj1Gen, #KPrj2Gen}
use Rattle.frame.specs.Places.{Ctx}
use Rattle.typing.specs.Accepted.{TysOk, Accepted}
use Rattle.rules.specs.Equations.{
  ∅,
  ext,
  Equation,
  equal_type,
  equal_empty,
  SIMP_SPECIAL_FINITE,
  SIMP_FINITE_NATURAL,
  SIMP_FINITE_NATURAL1,
  SIMP_FINITE_INTEGER,
  SIMP_FINITE_BOOL,
  SIMP_FINITE_ID,
  SIMP_FINITE_SETENUM,
  SIMP_FINITE_BUNION,
  SIMP_FINITE_POW,
  DERIV_FINITE_CPROD,
  SIMP_FINITE_CONVERSE,
  SIMP_FINITE_UPTO,
  SIMP_FINITE_LAMBDA,
  SIMP_FINITE_ID_DOMRES,
  SIMP_FINITE_PRJ1_DOMRES,
  SIMP_FINITE_PRJ2_DOMRES,
  SIMP_FINITE_PRJ1,
  SIMP_FINITE_PRJ2,
  SIMP_EMPTY_PARTITION,
  SIMP_SINGLE_PARTITION,
  SIMP_NOT_LE,
  SIMP_NOT_GE,
  SIMP_NOT_GT,
  SIMP_NOT_LT,
  SIMP_SPECIAL_NOT_EQUAL_FALSE_R,
  SIMP_SPECIAL_NOT_EQUAL_TRUE_R,
  SIMP_SPECIAL_NOT_EQUAL_FALSE_L,
  SIMP_SPECIAL_NOT_EQUAL_TRUE_L,
  SIMP_SPECIAL_AND_BFALSE/SIMP_SPECIAL_OR_BTRUE,
  SIMP_MULTI_AND_NOT/SIMP_MULTI_OR_NOT,
  dropped_all,
  dropped_but_one,
  dropped_some,
  SIMP_SPECIAL_IMP_BTRUE_L,
  SIMP_SPECIAL_IMP_BFALSE_L,
  SIMP_SPECIAL_IMP_BTRUE_R,
  SIMP_SPECIAL_IMP_BFALSE_R,
  SIMP_MULTI_IMP,
  SIMP_MULTI_IMP_AND,
  SIMP_MULTI_IMP_AND_NOT_R/SIMP_MULTI_IMP_AND_NOT_L,
  SIMP_MULTI_IMP_NOT_L,
  SIMP_MULTI_IMP_NOT_R,
  SIMP_SPECIAL_EQV_BTRUE/right,
  SIMP_SPECIAL_EQV_BTRUE/left,
  SIMP_MULTI_EQV,
  SIMP_SPECIAL_EQV_BFALSE/right,
  SIMP_SPECIAL_EQV_BFALSE/left,
  SIMP_MULTI_EQV_NOT/right,
  SIMP_MULTI_EQV_NOT/left,
  SIMP_SPECIAL_NOT_BTRUE,
  SIMP_SPECIAL_NOT_BFALSE,
  SIMP_NOT_NOT,
  SIMP_FORALL_AND,
  SIMP_EXISTS_OR,
  SIMP_EXISTS_IMP,
}
use Rattle.rules.proofs.LogicAccepted.{emptiness_accepted, fullness_accepted}
use Rattle.meaning.specs.Meaning.{Interpretation}
use Rattle.meaning.specs.Premises.{SingleIntegers}
use Rattle.truth.proofs.Sound.{Keeps}
use Rattle.truth.proofs.Emptied.{emptiness_keeps, emptiness_single, fullness_keeps, fullness_single}
use Rattle.truth.proofs.FiniteRules as fin
use Rattle.truth.proofs.Connectives as con
use Rattle.truth.proofs.Junctions as jun
use Rattle.truth.proofs.Quantifiers as qua
use Rattle.truth.proofs.EmptyRulesAll.{empties_emptied}
use Rattle.truth.proofs.TypeRules.{fills_filled}

pub equation_keeps : (I : Interpretation) (σ : ℕ → Ty) (Γ : Ctx) (rule : ℕ) (l r : Tree) → TysOk σ Γ → Equation Γ rule l r
    → Accepted σ l Γ predicate → SingleIntegers l Γ → Keeps I Γ l r
equation_keeps I σ Γ z l r k (SIMP_SPECIAL_FINITE t) a s = fin.finite_top_keeps I σ Γ (∅ t)
equation_keeps I σ Γ z l r k SIMP_FINITE_NATURAL a s = fin.finite_naturals_keeps I σ Γ s
equation_keeps I σ Γ z l r k SIMP_FINITE_NATURAL1 a s = fin.finite_positives_keeps I σ Γ s
equation_keeps I σ Γ z l r k SIMP_FINITE_INTEGER a s = fin.finite_integers_keeps I σ Γ s
equation_keeps I σ Γ z l r k SIMP_FINITE_BOOL a s = fin.finite_top_keeps I σ Γ (leaf #Bool)
equation_keeps I σ Γ z l r k (SIMP_FINITE_ID t) a s = fin.finite_carried_keeps I σ Γ #KIdGen t t s
equation_keeps I σ Γ z l r k (SIMP_FINITE_SETENUM ks) a s = fin.finite_top_keeps I σ Γ (ext ks)
equation_keeps I σ Γ z l r k (SIMP_FINITE_BUNION ks) a s = fin.finite_union_keeps I σ Γ ks s
equation_keeps I σ Γ z l r k (SIMP_FINITE_POW e) a s = fin.finite_first_keeps I σ Γ #Pow e nil s
equation_keeps I σ Γ z l r k (DERIV_FINITE_CPROD e f) a s = fin.finite_product_keeps I σ Γ e f s
equation_keeps I σ Γ z l r k (SIMP_FINITE_CONVERSE e) a s = fin.finite_first_keeps I σ Γ #Converse e nil s
equation_keeps I σ Γ z l r k (SIMP_FINITE_UPTO i j) a s = fin.finite_top_keeps I σ Γ (two #UpTo i j)
equation_keeps I σ Γ z l r k (SIMP_FINITE_LAMBDA xs p e f _) a s = fin.finite_lambda_keeps I σ Γ xs p e f s
equation_keeps I σ Γ z l r k (SIMP_FINITE_ID_DOMRES e t) a s = fin.finite_first_keeps I σ Γ #DomRes e (sole (typed #KIdGen t)) s
equation_keeps I σ Γ z l r k (SIMP_FINITE_PRJ1_DOMRES e t) a s = fin.finite_first_keeps I σ Γ #DomRes e (sole (typed #KPrj1Gen t)) s
equation_keeps I σ Γ z l r k (SIMP_FINITE_PRJ2_DOMRES e t) a s = fin.finite_first_keeps I σ Γ #DomRes e (sole (typed #KPrj2Gen t)) s
equation_keeps I σ Γ z l r k (SIMP_FINITE_PRJ1 t u) a s = fin.finite_carried_keeps I σ Γ #KPrj1Gen (prod t u) t s
equation_keeps I σ Γ z l r k (SIMP_FINITE_PRJ2 t u) a s = fin.finite_carried_keeps I σ Γ #KPrj2Gen (prod t u) u s
equation_keeps I σ Γ z l r k (SIMP_EMPTY_PARTITION e) a s = fin.partition_none_keeps I σ Γ e a s
equation_keeps I σ Γ z l r k (SIMP_SINGLE_PARTITION e f) a s = fin.partition_one_keeps I σ Γ e f a s
equation_keeps I σ Γ z l r k (SIMP_NOT_LE x y) a s = con.not_le_keeps I σ Γ x y s
equation_keeps I σ Γ z l r k (SIMP_NOT_GE x y) a s = con.not_ge_keeps I σ Γ x y s
equation_keeps I σ Γ z l r k (SIMP_NOT_GT x y) a s = con.not_gt_keeps I σ Γ x y s
equation_keeps I σ Γ z l r k (SIMP_NOT_LT x y) a s = con.not_lt_keeps I σ Γ x y s
equation_keeps I σ Γ z l r k (SIMP_SPECIAL_NOT_EQUAL_FALSE_R e) a s = con.not_false_right_keeps I σ Γ e a s
equation_keeps I σ Γ z l r k (SIMP_SPECIAL_NOT_EQUAL_TRUE_R e) a s = con.not_true_right_keeps I σ Γ e a s
equation_keeps I σ Γ z l r k (SIMP_SPECIAL_NOT_EQUAL_FALSE_L e) a s = con.not_false_left_keeps I σ Γ e s
equation_keeps I σ Γ z l r k (SIMP_SPECIAL_NOT_EQUAL_TRUE_L e) a s = con.not_true_left_keeps I σ Γ e s
equation_keeps I σ Γ z x y k (equal_type {rule} {e} {l} {r} i f) a s = fullness_keeps I σ Γ i a
    (fills_filled I σ Γ rule e r k f (fullness_accepted σ Γ i a) (fullness_single I σ Γ i s))
equation_keeps I σ Γ z x y k (equal_empty {rule} {e} {l} {r} i f) a s = emptiness_keeps I σ Γ i a
    (empties_emptied I σ Γ rule e r k f (emptiness_accepted σ Γ i a) (emptiness_single I σ Γ i s))
equation_keeps I σ Γ z l r k (SIMP_SPECIAL_AND_BFALSE/SIMP_SPECIAL_OR_BTRUE g n d ps j i) a s = jun.junction_decided_keeps I σ Γ g n d ps j i
equation_keeps I σ Γ z l r k (SIMP_MULTI_AND_NOT/SIMP_MULTI_OR_NOT g n d ps q j i h) a s = jun.junction_opposite_keeps I σ Γ g n d ps j q i h
equation_keeps I σ Γ z l r k (dropped_all g n d ps j h) a s = jun.junction_none_keeps I σ Γ g n d ps j h
equation_keeps I σ Γ z l r k (dropped_but_one g n d ps p j h) a
    s = jun.junction_one_keeps I σ Γ g n d ps j p h a s
equation_keeps I σ Γ z l r k (dropped_some g n d ps p q qs j h c) a s = jun.junction_fewer_keeps I σ Γ g
    n d ps j (cons p (cons q qs)) h s
equation_keeps I σ Γ z l r k (SIMP_SPECIAL_IMP_BTRUE_L p) a s = con.imp_top_left_keeps I σ Γ p a s
equation_keeps I σ Γ z l r k (SIMP_SPECIAL_IMP_BFALSE_L p) a s = con.imp_bottom_left_keeps I σ Γ p
equation_keeps I σ Γ z l r k (SIMP_SPECIAL_IMP_BTRUE_R p) a s = con.imp_top_right_keeps I σ Γ p
equation_keeps I σ Γ z l r k (SIMP_SPECIAL_IMP_BFALSE_R p n o) a s = con.imp_bottom_right_keeps I σ Γ p n o a s
equation_keeps I σ Γ z l r k (SIMP_MULTI_IMP p) a s = con.imp_self_keeps I σ Γ p
equation_keeps I σ Γ z l r k (SIMP_MULTI_IMP_AND ps q i) a s = con.imp_among_keeps I σ Γ ps q i
equation_keeps I σ Γ z l r k (SIMP_MULTI_IMP_AND_NOT_R/SIMP_MULTI_IMP_AND_NOT_L ps q m o i) a s = con.imp_opposite_keeps I σ Γ ps q m o i s
equation_keeps I σ Γ z l r k (SIMP_MULTI_IMP_NOT_L p) a s = con.imp_not_left_keeps I σ Γ p a s
equation_keeps I σ Γ z l r k (SIMP_MULTI_IMP_NOT_R p) a s = con.imp_not_right_keeps I σ Γ p s
equation_keeps I σ Γ z l r k (SIMP_SPECIAL_EQV_BTRUE/right p) a s = con.eqv_top_right_keeps I σ Γ p a s
equation_keeps I σ Γ z l r k (SIMP_SPECIAL_EQV_BTRUE/left p) a s = con.eqv_top_left_keeps I σ Γ p a s
equation_keeps I σ Γ z l r k (SIMP_MULTI_EQV p) a s = con.eqv_self_keeps I σ Γ p
equation_keeps I σ Γ z l r k (SIMP_SPECIAL_EQV_BFALSE/right p n o) a s = con.eqv_bottom_right_keeps I σ Γ p n o a s
equation_keeps I σ Γ z l r k (SIMP_SPECIAL_EQV_BFALSE/left p n o) a s = con.eqv_bottom_left_keeps I σ Γ p n o a s
equation_keeps I σ Γ z l r k (SIMP_MULTI_EQV_NOT/right p) a s = con.eqv_not_right_keeps I σ Γ p
equation_keeps I σ Γ z l r k (SIMP_MULTI_EQV_NOT/left p) a s = con.eqv_not_left_keeps I σ Γ p
equation_keeps I σ Γ z l r k SIMP_SPECIAL_NOT_BTRUE a s = con.not_top_keeps I σ Γ
equation_keeps I σ Γ z l r k SIMP_SPECIAL_NOT_BFALSE a s = con.not_bottom_keeps I σ Γ
equation_keeps I σ Γ z l r k (SIMP_NOT_NOT p) a s = con.not_not_keeps I σ Γ p a s
equation_keeps I σ Γ z l r k (SIMP_FORALL_AND xs ps) a s = qua.forall_and_keeps I σ Γ xs ps a s
equation_keeps I σ Γ z l r k (SIMP_EXISTS_OR xs ps) a s = qua.exists_or_keeps I σ Γ xs ps a s
equation_keeps I σ Γ z l r k (SIMP_EXISTS_IMP xs p q) a s = qua.exists_imp_keeps I σ Γ xs p q s
