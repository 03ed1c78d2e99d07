-- E = Ty, where Ty is the type of E's elements, is replaced by an accepted predicate.
-- Main result: fills_holds.
use Prim.Native.Nat.{ℕ}
use Rattle.frame.specs.Types.{Ty, pow}
use Rattle.frame.specs.Trees.{Tree, sole}
use Rattle.frame.specs.Places.{Ctx}
use Rattle.typing.specs.Typing.{element, type_of}
use Rattle.typing.specs.TypeExpression.{to_expression}
use Rattle.typing.specs.Accepted.{TysOk}
use Rattle.typing.proofs.Derived.{push_all_ok}
use Rattle.rules.specs.Equations.{
  ◌≐◌,
  ext,
  Fills,
  ◌≐Ty,
  SIMP_BINTER_EQUAL_TYPE,
  SIMP_SETMINUS_EQUAL_TYPE,
  SIMP_CPROD_EQUAL_TYPE,
  SIMP_UPTO_EQUAL_INTEGER,
  SIMP_DOMRES_EQUAL_TYPE,
  SIMP_DOMSUB_EQUAL_TYPE,
  SIMP_RANRES_EQUAL_TYPE,
  SIMP_RANSUB_EQUAL_TYPE,
  SIMP_DPROD_EQUAL_TYPE,
  SIMP_PPROD_EQUAL_TYPE,
  SIMP_KINTER_EQUAL_TYPE,
  SIMP_CONVERSE_EQUAL_TYPE,
  SIMP_QINTER_EQUAL_TYPE,
}
use Rattle.rules.proofs.Nodes.{Holds, Has, short, ok_of}
use Rattle.rules.proofs.NewNodes.{
  short_member,
  false_holds,
  equal_holds,
  imp_holds,
  and_two,
  forall_holds,
  single_has,
  type_has,
  is_empty_lem,
  is_type_lem,
}
use Rattle.rules.proofs.OldNodes.{
  of_inter,
  of_converse,
  of_minus,
  of_times,
  of_domres,
  of_domsub,
  of_ranres,
  of_ransub,
  of_dprod,
  of_pprod,
  of_cap,
  of_qinter,
}
use Rattle.rules.proofs.Operands.{all_hold}

module _ {σ : ℕ → Ty} {Γ : Ctx} (ok : TysOk σ Γ) where
  -- inter(S) = Ty
  pub only_member : (s : Tree) (u : Ty) → Has σ Γ s (pow (pow u)) → Holds σ Γ (s ≐ ext (sole (to_expression (element (element (type_of s Γ))))))
  only_member s u h = rw h.type (equal_holds h (single_has (short h) (type_has u (ok_of ok h) (short_member (pow u) (short h)))))

  pub fills_holds : {rule : ℕ} {e r : Tree} {t : Ty} → Fills Γ rule e r → Has σ Γ e t → Holds σ Γ r
  fills_holds (SIMP_BINTER_EQUAL_TYPE ks) h = all_hold (◌≐Ty Γ) (λ k x. is_type_lem ok x) (of_cap ks h).1
  fills_holds (SIMP_SETMINUS_EQUAL_TYPE a b) h = let x = of_minus h in and_two (is_type_lem ok x.1) (is_empty_lem ok x.2)
  fills_holds (SIMP_CPROD_EQUAL_TYPE s t) h = let x = of_times h in and_two (is_type_lem ok x.2) (is_type_lem ok x.3)
  fills_holds (SIMP_UPTO_EQUAL_INTEGER i j) h = false_holds
  fills_holds (SIMP_DOMRES_EQUAL_TYPE s r) h = let x = of_domres h in and_two (is_type_lem ok x.2) (is_type_lem ok x.3)
  fills_holds (SIMP_DOMSUB_EQUAL_TYPE s r) h = let x = of_domsub h in and_two (is_empty_lem ok x.2) (is_type_lem ok x.3)
  fills_holds (SIMP_RANRES_EQUAL_TYPE r s) h = let x = of_ranres h in and_two (is_type_lem ok x.3) (is_type_lem ok x.2)
  fills_holds (SIMP_RANSUB_EQUAL_TYPE r s) h = let x = of_ransub h in and_two (is_empty_lem ok x.3) (is_type_lem ok x.2)
  fills_holds (SIMP_DPROD_EQUAL_TYPE p q) h = let x = of_dprod h in and_two (is_type_lem ok x.3) (is_type_lem ok x.4)
  fills_holds (SIMP_PPROD_EQUAL_TYPE p q) h = let x = of_pprod h in and_two (is_type_lem ok x.4) (is_type_lem ok x.5)
  fills_holds (SIMP_KINTER_EQUAL_TYPE s) h = let x = of_inter h in only_member s x.0 x.1
  fills_holds (SIMP_CONVERSE_EQUAL_TYPE r) h = is_type_lem ok (of_converse h).2
  fills_holds (SIMP_QINTER_EQUAL_TYPE xs p e) h =
      let x = of_qinter h in
      let b = x.1 in
      forall_holds b.binders (imp_holds b.pred (is_type_lem (push_all_ok σ xs Γ b.binders.types ok) b.expr))
