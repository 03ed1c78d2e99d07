-- Every equation of E = ∅ is true: what stands for E = ∅ says that E is empty.
-- Main result: empties_emptied.
use mathlib.Core.Path.{◌≡◌, refl}
use Prim.Native.Nat.{ℕ}
use native.Mathlib.Omega.{arith}
use Rattle.frame.specs.Types.{Ty, pow}
use Rattle.frame.specs.Trees.{Tree, Forest, nil, cons, count, leaf, two, many, sole, append, map_f}
use Rattle.frame.specs.Tags.{Sort, expression, class_of, lookup, form_at}
use Rattle.frame.specs.Operators.{#UpTo, #BInter, #BUnion, #Ovr, #Natural, #Natural1}
use Rattle.frame.specs.Places.{Ctx}
use Rattle.typing.specs.Typing.{first, second, source, target, relation, ty, type_of, types_in}
use Rattle.typing.specs.Accepted.{TysOk, Accepted}
use Rattle.rules.specs.Equations.{
  ⊥ᵖ,
  ¬ᵖ,
  ⋀,
  ◌∈ᵖ◌,
  ◌⊆◌,
  ext,
  inters,
  over,
  Subtracted,
  Empties,
  ◌≐∅,
  SIMP_SETENUM_EQUAL_EMPTY,
  SIMP_BINTER_SING_EQUAL_EMPTY,
  SIMP_BINTER_SETMINUS_EQUAL_EMPTY,
  SIMP_BUNION_EQUAL_EMPTY,
  SIMP_SETMINUS_EQUAL_EMPTY,
  SIMP_CPROD_EQUAL_EMPTY,
  SIMP_UPTO_EQUAL_EMPTY,
  SIMP_SREL_EQUAL_EMPTY,
  SIMP_STREL_EQUAL_EMPTY,
  SIMP_DOMRES_EQUAL_EMPTY,
  SIMP_DOMSUB_EQUAL_EMPTY,
  SIMP_RANRES_EQUAL_EMPTY,
  SIMP_RANSUB_EQUAL_EMPTY,
  SIMP_RELIMAGE_EQUAL_EMPTY,
  SIMP_DPROD_EQUAL_EMPTY,
  SIMP_PPROD_EQUAL_EMPTY,
  SIMP_POW_EQUAL_EMPTY,
  SIMP_POW1_EQUAL_EMPTY,
  SIMP_KUNION_EQUAL_EMPTY,
  SIMP_DOM_EQUAL_EMPTY,
  SIMP_RAN_EQUAL_EMPTY,
  SIMP_CONVERSE_EQUAL_EMPTY,
  SIMP_FCOMP_EQUAL_EMPTY,
  SIMP_BCOMP_EQUAL_EMPTY,
  SIMP_OVERL_EQUAL_EMPTY,
  SIMP_QUNION_EQUAL_EMPTY,
  SIMP_NATURAL_EQUAL_EMPTY,
  SIMP_NATURAL1_EQUAL_EMPTY,
  SIMP_ID_EQUAL_EMPTY,
  SIMP_PRJ1_EQUAL_EMPTY,
  SIMP_PRJ2_EQUAL_EMPTY,
}
use Rattle.rules.proofs.Nodes.{Has, within, opened, top}
use Rattle.rules.proofs.Nodes as nodes
use Rattle.rules.proofs.NewNodes.{over_cap}
use Rattle.rules.proofs.OldNodes.{
  Operands,
  of_pow,
  of_pow1,
  of_union,
  of_dom_lem,
  of_ran_lem,
  of_converse,
  of_single,
  of_minus,
  of_times,
  of_srel,
  of_strel,
  of_domres,
  of_domsub,
  of_ranres,
  of_ransub,
  of_image,
  of_dprod,
  of_pprod,
  of_fcomp,
  of_bcomp,
  of_cap,
  of_cup,
  of_ovr,
  of_qunion,
}
use Rattle.rules.proofs.Operands.{subtracted_same, every_mid, minuends}
use Rattle.meaning.specs.Meaning.{Interpretation}
use Rattle.meaning.specs.Premises.{SingleIntegers}
use Rattle.truth.proofs.Many.{Each, each_alike}
use Rattle.truth.proofs.Emptied.{Emptied}
use Rattle.truth.proofs.EmptyRules as rule
use Rattle.truth.proofs.EmptyRulesMany as many-rule
use Rattle.truth.proofs.EmptyRulesCaps as cap-rule

-- operands of one type have that type
types_of : (σ : ℕ → Ty) (Γ : Ctx) (e : Sort) (t : Ty) (ks : Forest) → nodes.Each σ Γ e t ks → Each t (types_in ks Γ)
unfolding type_of
types_of σ Γ e t nil h = tt
types_of σ Γ e t (cons k ks) h = (h.0.type, types_of σ Γ e t ks h.1)

module _ (I : Interpretation) (σ : ℕ → Ty) (Γ : Ctx) where
  -- ---- operands and types, out of what is accepted
  cap_type : (ks : Forest) (u : Ty) → Operands σ Γ expression (pow u) ks → type_of (inters ks) Γ ≡ pow u
  unfolding type_of class_of lookup form_at
  cap_type ks u o = let l = o.some in many-rule.head_type (pow u) ks Γ (omega arith) (types_of σ Γ expression (pow u) ks o.each)

  ext_rule : (as' : Forest) {t : Ty} → Has σ Γ (ext as') t → SingleIntegers (ext as') Γ → Emptied I σ Γ (ext as') ⊥ᵖ
  unfolding class_of lookup form_at
  ext_rule as' h s = many-rule.ext_emptied I σ Γ as' (within 1 255 (count as') (top h).formed.range).0 s

  single_rule : (a : Tree) (left right : Forest) {t : Ty} → Has σ Γ (inters (append left (cons (ext (sole a)) right))) t
      → SingleIntegers (inters (append left (cons (ext (sole a)) right))) Γ
      → Emptied I σ Γ (inters (append left (cons (ext (sole a)) right))) (¬ᵖ (a ∈ᵖ over #BInter (append left right)))
  single_rule a left right h s =
      let ks = append left (cons (ext (sole a)) right) in
      let o = of_cap ks h in
      cap-rule.single_emptied I σ Γ a left right o.0 (cap_type ks o.0 o.1)
      (of_single (every_mid (λ k. Has σ Γ k (pow o.0)) left (ext (sole a)) right o.1.each).0).type s

  subtracted_rule : (ks ls ms : Forest) → Subtracted ks ls ms → {t : Ty} → Has σ Γ (inters ks) t → SingleIntegers (inters ks) Γ
      → Emptied I σ Γ (inters ks) (over #BInter ls ⊆ over #BUnion ms)
  subtracted_rule ks ls ms d h s =
      let o = of_cap ks h in
      let c = subtracted_same d in
      let l = o.1.some in
      let m = o.1.few in
      cap-rule.subtracted_emptied I Γ σ ks ls ms o.0 d (cap_type ks o.0 o.1)
      (over_cap ls o.0 (omega arith) (omega arith) (minuends σ Γ o.0 d o.1.each)).type s

  cup_rule : (ks : Forest) {t : Ty} → Has σ Γ (many #BUnion ks) t → SingleIntegers (many #BUnion ks) Γ
      → Emptied I σ Γ (many #BUnion ks) (⋀ (map_f (◌≐∅ Γ) ks))
  cup_rule ks h s =
      let o = of_cup ks h in
      let l = o.1.some in
      many-rule.cup_emptied I σ Γ ks (omega arith) o.0 (types_of σ Γ expression (pow o.0) ks o.1.each) s

  override_rule : (ks : Forest) {t : Ty} → Has σ Γ (many #Ovr ks) t → SingleIntegers (many #Ovr ks) Γ
      → Emptied I σ Γ (many #Ovr ks) (⋀ (map_f (◌≐∅ Γ) ks))
  unfolding class_of lookup form_at
  override_rule ks h s =
      let l = (of_ovr ks h).1.some in
      let w = ty 0 (types_in ks Γ) in
      many-rule.override_emptied I σ Γ ks (omega arith) (source w) (target w)
      (each_alike (relation (source w) (target w)) (types_in ks Γ) (opened h).types) s

  -- ---- no sets of integers
  module _ {A : Type 0} where
    no_upto : (i j : Tree) → SingleIntegers (two #UpTo i j) Γ → A
    unfolding SingleIntegers type_of class_of lookup form_at
    no_upto i j s = absurd s.1

    no_natural : SingleIntegers (leaf #Natural) Γ → A
    unfolding SingleIntegers type_of class_of lookup form_at
    no_natural s = absurd s.1

    no_natural1 : SingleIntegers (leaf #Natural1) Γ → A
    unfolding SingleIntegers type_of class_of lookup form_at
    no_natural1 s = absurd s.1

  -- ---- the equations
  rule_emptied : {place : ℕ} {e new : Tree} {t : Ty} → Empties Γ place e new → Has σ Γ e t → SingleIntegers e Γ → Emptied I σ Γ e new
  rule_emptied (SIMP_SETENUM_EQUAL_EMPTY a as') h s = ext_rule (cons a as') h s
  rule_emptied (SIMP_BINTER_SING_EQUAL_EMPTY a ks left right p) h s = rw p (single_rule a left right (rw p at h) (rw p at s))
  rule_emptied (SIMP_BINTER_SETMINUS_EQUAL_EMPTY ks ls b ms d) h s = subtracted_rule ks ls (cons b ms) d h s
  rule_emptied (SIMP_BUNION_EQUAL_EMPTY ks) h s = cup_rule ks h s
  rule_emptied (SIMP_SETMINUS_EQUAL_EMPTY a b) h s = let x = of_minus h in rule.minus_emptied I σ Γ a b x.0 x.0 x.1.type x.2.type s
  rule_emptied (SIMP_CPROD_EQUAL_EMPTY a b) h s = let x = of_times h in rule.times_emptied I σ Γ a b x.0 x.1 x.2.type x.3.type s
  rule_emptied (SIMP_UPTO_EQUAL_EMPTY i j) h s = no_upto i j s
  rule_emptied (SIMP_SREL_EQUAL_EMPTY a b) h s = let x = of_srel h in rule.srel_emptied I σ Γ a b x.0 x.1 x.2.type x.3.type s
  rule_emptied (SIMP_STREL_EQUAL_EMPTY a b) h s = let x = of_strel h in rule.strel_emptied I σ Γ a b x.0 x.1 x.2.type x.3.type s
  rule_emptied (SIMP_DOMRES_EQUAL_EMPTY q r) h s = let x = of_domres h in rule.domres_emptied I σ Γ q r x.0 x.1 x.2.type x.3.type s
  rule_emptied (SIMP_DOMSUB_EQUAL_EMPTY q r) h s = let x = of_domsub h in rule.domsub_emptied I σ Γ q r x.0 x.1 x.2.type x.3.type s
  rule_emptied (SIMP_RANRES_EQUAL_EMPTY r q) h s = let x = of_ranres h in rule.ranres_emptied I σ Γ r q x.0 x.1 x.2.type x.3.type s
  rule_emptied (SIMP_RANSUB_EQUAL_EMPTY r q) h s = let x = of_ransub h in rule.ransub_emptied I σ Γ r q x.0 x.1 x.2.type x.3.type s
  rule_emptied (SIMP_RELIMAGE_EQUAL_EMPTY r q) h s = let x = of_image h in rule.image_emptied I σ Γ q r x.0 x.1 x.3.type x.2.type s
  rule_emptied (SIMP_DPROD_EQUAL_EMPTY p q) h s = let x = of_dprod h in
      rule.dprod_emptied I σ Γ p q x.0 x.1 x.2 x.3.type x.4.type s
  rule_emptied (SIMP_PPROD_EQUAL_EMPTY p q) h s = let x = of_pprod h in
      rule.pprod_emptied I σ Γ p q x.0 x.1 x.2 x.3 x.4.type x.5.type s
  rule_emptied (SIMP_POW_EQUAL_EMPTY q) h s = let x = of_pow h in rule.pow_emptied I σ Γ q x.0 x.1.type s
  rule_emptied (SIMP_POW1_EQUAL_EMPTY q) h s = let x = of_pow1 h in rule.pow1_emptied I σ Γ q x.0 x.1.type s
  rule_emptied (SIMP_KUNION_EQUAL_EMPTY q) h s = let x = of_union h in rule.union_emptied I σ Γ q x.0 x.1.type s
  rule_emptied (SIMP_DOM_EQUAL_EMPTY r) h s = let x = of_dom_lem h in rule.dom_emptied I σ Γ r x.0 x.1 x.2.type s
  rule_emptied (SIMP_RAN_EQUAL_EMPTY r) h s = let x = of_ran_lem h in rule.ran_emptied I σ Γ r x.0 x.1 x.2.type s
  rule_emptied (SIMP_CONVERSE_EQUAL_EMPTY r) h s = let x = of_converse h in rule.converse_emptied I σ Γ r x.0 x.1 x.2.type s
  rule_emptied (SIMP_FCOMP_EQUAL_EMPTY p q) h s = let x = of_fcomp h in
      rule.forward_emptied I σ Γ p q x.0 x.1 x.2 x.3.type x.4.type s
  rule_emptied (SIMP_BCOMP_EQUAL_EMPTY p q) h s = let x = of_bcomp h in
      rule.backward_emptied I σ Γ p q x.0 x.1 x.2 x.3.type x.4.type s
  rule_emptied (SIMP_OVERL_EQUAL_EMPTY ks) h s = override_rule ks h s
  rule_emptied (SIMP_QUNION_EQUAL_EMPTY xs p e) h s = let x = of_qunion h in many-rule.qunion_emptied I σ Γ xs p e x.0 x.1.expr.type s
  rule_emptied SIMP_NATURAL_EQUAL_EMPTY h s = no_natural s
  rule_emptied SIMP_NATURAL1_EQUAL_EMPTY h s = no_natural1 s
  rule_emptied (SIMP_ID_EQUAL_EMPTY t) h s = many-rule.id_emptied I σ Γ t (source t) (top h).shaped s
  rule_emptied (SIMP_PRJ1_EQUAL_EMPTY t) h s = many-rule.prj1_emptied I σ Γ t (first (source t)) (second (source t)) (top h).shaped s
  rule_emptied (SIMP_PRJ2_EQUAL_EMPTY t) h s = many-rule.prj2_emptied I σ Γ t (first (source t)) (second (source t)) (top h).shaped s

pub empties_emptied : (I : Interpretation) (σ : ℕ → Ty) (Γ : Ctx) (place : ℕ) (e new : Tree) → TysOk σ Γ → Empties Γ place e new
    → Accepted σ e Γ expression → SingleIntegers e Γ → Emptied I σ Γ e new
empties_emptied I σ Γ place e new ok d a s = rule_emptied I σ Γ d (record { accepted = a; type = refl }) s
