-- E = ∅ is replaced by an accepted predicate.
-- Main result: empties_holds.
use Prim.Native.Nat.{ℕ}
use native.Mathlib.Omega.{arith}
use Rattle.frame.specs.Types.{Ty, pow}
use Rattle.frame.specs.Trees.{Tree, Forest, cons, sole, append}
use Rattle.frame.specs.Tags.{expression}
use Rattle.frame.specs.Operators.{#BInter, #BUnion}
use Rattle.frame.specs.Places.{Ctx}
use Rattle.typing.specs.Typing.{element, type_of}
use Rattle.typing.specs.Accepted.{TysOk}
use Rattle.typing.proofs.Derived.{push_all_ok}
use Rattle.rules.specs.Equations.{
  ¬ᵖ,
  ◌∈ᵖ◌,
  ◌⊆◌,
  ext,
  over,
  ∅,
  Subtracted,
  Empties,
  ◌≐∅,
  SIMP_SETENUM_EQUAL_EMPTY,
  SIMP_BINTER_SING_EQUAL_EMPTY,
  SIMP_BINTER_SETMINUS_EQUAL_EMPTY,
  SIMP_BUNION_EQUAL_EMPTY,
  SIMP_SETMINUS_EQUAL_EMPTY,
  SIMP_CPROD_EQUAL_EMPTY,
  SIMP_UPTO_EQUAL_EMPTY,
  SIMP_SREL_EQUAL_EMPTY,
  SIMP_STREL_EQUAL_EMPTY,
  SIMP_DOMRES_EQUAL_EMPTY,
  SIMP_DOMSUB_EQUAL_EMPTY,
  SIMP_RANRES_EQUAL_EMPTY,
  SIMP_RANSUB_EQUAL_EMPTY,
  SIMP_RELIMAGE_EQUAL_EMPTY,
  SIMP_DPROD_EQUAL_EMPTY,
  SIMP_PPROD_EQUAL_EMPTY,
  SIMP_POW_EQUAL_EMPTY,
  SIMP_POW1_EQUAL_EMPTY,
  SIMP_KUNION_EQUAL_EMPTY,
  SIMP_DOM_EQUAL_EMPTY,
  SIMP_RAN_EQUAL_EMPTY,
  SIMP_CONVERSE_EQUAL_EMPTY,
  SIMP_FCOMP_EQUAL_EMPTY,
  SIMP_BCOMP_EQUAL_EMPTY,
  SIMP_OVERL_EQUAL_EMPTY,
  SIMP_QUNION_EQUAL_EMPTY,
  SIMP_NATURAL_EQUAL_EMPTY,
  SIMP_NATURAL1_EQUAL_EMPTY,
  SIMP_ID_EQUAL_EMPTY,
  SIMP_PRJ1_EQUAL_EMPTY,
  SIMP_PRJ2_EQUAL_EMPTY,
}
use Rattle.rules.proofs.Nodes.{Holds, Has, short, ok_of}
use Rattle.rules.proofs.NewNodes.{
  short_member,
  false_holds,
  not_holds,
  gt_holds,
  in_holds,
  subset_holds,
  imp_holds,
  eqv_holds,
  and_two,
  or_two,
  forall_holds,
  empty_has,
  single_has,
  dom_has,
  ran_has,
  restrict_has,
  cap_two,
  over_cap,
  over_cup,
  is_empty_lem,
}
use Rattle.rules.proofs.OldNodes.{
  Operands,
  of_pow1,
  of_union,
  of_dom_lem,
  of_ran_lem,
  of_converse,
  of_single,
  of_minus,
  of_times,
  of_upto,
  of_srel,
  of_strel,
  of_domres,
  of_domsub,
  of_ranres,
  of_ransub,
  of_image,
  of_dprod,
  of_pprod,
  of_fcomp,
  of_bcomp,
  of_cap,
  of_cup,
  of_ovr,
  of_qunion,
}
use Rattle.rules.proofs.Operands.{count_without, subtracted_same, subtracted_fewer, every_mid, minuends, subtrahends, all_hold}

module _ {σ : ℕ → Ty} {Γ : Ctx} where
  -- A ∩ {a} ∩ B = ∅
  pub apart_holds : (a : Tree) (left right : Forest) (u : Ty) → Operands σ Γ expression (pow u) (append left (cons (ext (sole a)) right))
      → Holds σ Γ (¬ᵖ (a ∈ᵖ over #BInter (append left right)))
  apart_holds a left right u o =
      let c = count_without left (ext (sole a)) right in
      not_holds
      (in_holds (of_single (every_mid (λ k. Has σ Γ k (pow u)) left (ext (sole a)) right o.each).0)
      (over_cap (append left right) u (omega arith) (omega arith) (every_mid (λ k. Has σ Γ k (pow u)) left (ext (sole a)) right o.each).1))

  -- (A ∖ B) ∩ C ∩ (D ∖ E) = ∅
  pub within_holds : (ks ls : Forest) (b : Tree) (ms : Forest) (u : Ty) → Subtracted ks ls (cons b ms) → Operands σ Γ expression (pow u) ks
      → Holds σ Γ (over #BInter ls ⊆ over #BUnion (cons b ms))
  within_holds ks ls b ms u d o =
      let c = subtracted_same d in
      let f = subtracted_fewer d in
      subset_holds (over_cap ls u (omega arith) (omega arith) (minuends σ Γ u d o.each))
      (over_cup (cons b ms) u (omega arith) (omega arith) (subtrahends σ Γ u d o.each))

  module _ (ok : TysOk σ Γ) where
    -- union(S) = ∅
    pub no_members : (s : Tree) (u : Ty) → Has σ Γ s (pow (pow u)) → Holds σ Γ (s ⊆ ext (sole (∅ (element (type_of s Γ)))))
    no_members s u h = rw h.type (subset_holds h (single_has (short h) (empty_has u (ok_of ok h) (short_member (pow u) (short h)))))

    pub empties_holds : {rule : ℕ} {e r : Tree} {t : Ty} → Empties Γ rule e r → Has σ Γ e t → Holds σ Γ r
    empties_holds (SIMP_SETENUM_EQUAL_EMPTY a as') h = false_holds
    empties_holds (SIMP_BINTER_SING_EQUAL_EMPTY a ks left right p) h =
        let k = rw p at h in
        let o = of_cap (append left (cons (ext (sole a)) right)) k in
        apart_holds a left right o.0 o.1
    empties_holds (SIMP_BINTER_SETMINUS_EQUAL_EMPTY ks ls b ms d) h = let o = of_cap ks h in within_holds ks ls b ms o.0 d o.1
    empties_holds (SIMP_BUNION_EQUAL_EMPTY ks) h = all_hold (◌≐∅ Γ) (λ k x. is_empty_lem ok x) (of_cup ks h).1
    empties_holds (SIMP_SETMINUS_EQUAL_EMPTY a b) h = let x = of_minus h in subset_holds x.1 x.2
    empties_holds (SIMP_CPROD_EQUAL_EMPTY s t) h = let x = of_times h in or_two (is_empty_lem ok x.2) (is_empty_lem ok x.3)
    empties_holds (SIMP_UPTO_EQUAL_EMPTY i j) h = let x = of_upto h in gt_holds x.0 x.1
    empties_holds (SIMP_SREL_EQUAL_EMPTY a b) h = let x = of_srel h in and_two (is_empty_lem ok x.2) (not_holds (is_empty_lem ok x.3))
    empties_holds (SIMP_STREL_EQUAL_EMPTY a b) h = let x = of_strel h in eqv_holds (is_empty_lem ok x.2) (not_holds (is_empty_lem ok x.3))
    empties_holds (SIMP_DOMRES_EQUAL_EMPTY s r) h = let x = of_domres h in is_empty_lem ok (cap_two (dom_has x.3) x.2)
    empties_holds (SIMP_DOMSUB_EQUAL_EMPTY s r) h = let x = of_domsub h in subset_holds (dom_has x.3) x.2
    empties_holds (SIMP_RANRES_EQUAL_EMPTY r s) h = let x = of_ranres h in is_empty_lem ok (cap_two (ran_has x.2) x.3)
    empties_holds (SIMP_RANSUB_EQUAL_EMPTY r s) h = let x = of_ransub h in subset_holds (ran_has x.2) x.3
    empties_holds (SIMP_RELIMAGE_EQUAL_EMPTY r s) h = let x = of_image h in is_empty_lem ok (restrict_has x.3 x.2)
    empties_holds (SIMP_DPROD_EQUAL_EMPTY p q) h = let x = of_dprod h in is_empty_lem ok (cap_two (dom_has x.3) (dom_has x.4))
    empties_holds (SIMP_PPROD_EQUAL_EMPTY p q) h = let x = of_pprod h in or_two (is_empty_lem ok x.4) (is_empty_lem ok x.5)
    empties_holds (SIMP_POW_EQUAL_EMPTY s) h = false_holds
    empties_holds (SIMP_POW1_EQUAL_EMPTY s) h = is_empty_lem ok (of_pow1 h).1
    empties_holds (SIMP_KUNION_EQUAL_EMPTY s) h = let x = of_union h in no_members s x.0 x.1
    empties_holds (SIMP_DOM_EQUAL_EMPTY r) h = is_empty_lem ok (of_dom_lem h).2
    empties_holds (SIMP_RAN_EQUAL_EMPTY r) h = is_empty_lem ok (of_ran_lem h).2
    empties_holds (SIMP_CONVERSE_EQUAL_EMPTY r) h = is_empty_lem ok (of_converse h).2
    empties_holds (SIMP_FCOMP_EQUAL_EMPTY p q) h = let x = of_fcomp h in is_empty_lem ok (cap_two (ran_has x.3) (dom_has x.4))
    empties_holds (SIMP_BCOMP_EQUAL_EMPTY p q) h = let x = of_bcomp h in is_empty_lem ok (cap_two (ran_has x.4) (dom_has x.3))
    empties_holds (SIMP_OVERL_EQUAL_EMPTY ks) h = all_hold (◌≐∅ Γ) (λ k x. is_empty_lem ok x) (of_ovr ks h).1
    empties_holds (SIMP_QUNION_EQUAL_EMPTY xs p e) h =
        let x = of_qunion h in
        let b = x.1 in
        forall_holds b.binders (imp_holds b.pred (is_empty_lem (push_all_ok σ xs Γ b.binders.types ok) b.expr))
    empties_holds SIMP_NATURAL_EQUAL_EMPTY h = false_holds
    empties_holds SIMP_NATURAL1_EQUAL_EMPTY h = false_holds
    empties_holds (SIMP_ID_EQUAL_EMPTY t) h = false_holds
    empties_holds (SIMP_PRJ1_EQUAL_EMPTY t) h = false_holds
    empties_holds (SIMP_PRJ2_EQUAL_EMPTY t) h = false_holds
