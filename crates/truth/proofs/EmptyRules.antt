-- The equations of E = ∅ for operators with one operand or two: what stands for E = ∅ says that E is empty.
-- Main results: NAME-emptied, NAME the operator; u, v, w are the types of the elements of its operands.
use mathlib.Core.Path.{◌≡◌, refl, sym, ap, ap₂, ◌∙◌}
use mathlib.Core.Bool.{Bool, true, false, not, ◌&&◌, ◌||◌, beq}
use Prim.Native.Nat.{ℕ}
use Rattle.frame.specs.Types.{Ty, pow, prod}
use Rattle.frame.specs.Trees.{Tree, one, two, many, sole, pair}
use Rattle.frame.specs.Tags.{class_of, lookup, form_at}
use Rattle.frame.specs.Operators.{
  #KDom,
  #KRan,
  #LAnd,
  #SRel,
  #STRel,
  #SetMinus,
  #CProd,
  #DProd,
  #PProd,
  #DomRes,
  #DomSub,
  #RanRes,
  #RanSub,
  #RelImage,
  #BComp,
  #FComp,
  #Pow,
  #Pow1,
  #KUnion,
  #Converse,
  #LEqv,
  #Not,
}
use Rattle.frame.specs.Places.{Ctx}
use Rattle.typing.specs.Typing.{element, relation, type_of}
use Rattle.rules.specs.Equations.{⊥ᵖ, ¬ᵖ, ◌⇔◌, ⋀, ⋁, ◌⊆◌, ext, dom, ran, inters, ∅, ◌≐∅}
use Rattle.meaning.specs.Lists.{any}
use Rattle.meaning.specs.Operations.{op_at, op_of}
use Rattle.meaning.specs.Meaning.{Interpretation, Vals, set_of, rel_of, some, every, holds, value_of, means}
use Rattle.meaning.specs.Premises.{SingleIntegers, NoInterOverNothing}
use Rattle.meaning.proofs.Sets.{within_is}
use Rattle.meaning.proofs.Kit as kit
use Rattle.truth.proofs.EmptySets as set
use Rattle.truth.proofs.EmptySetsMore as more
use Rattle.truth.proofs.Premises as premise
use Rattle.truth.proofs.Emptied.{Emptied, emptied, emptied_by}
use Rattle.truth.proofs.EmptyRulesKit as empty

module _ (I : Interpretation) (σ : ℕ → Ty) (Γ : Ctx) where
  -- ---- two sets
  module _ (a b : Tree) (u v : Ty) (ha : type_of a Γ ≡ pow u) (hb : type_of b Γ ≡ pow v) where
    pub minus_emptied : SingleIntegers (two #SetMinus a b) Γ → Emptied I σ Γ (two #SetMinus a b) (a ⊆ b)
    unfolding SingleIntegers NoInterOverNothing means value_of type_of op_of op_at class_of lookup form_at
    minus_emptied s =
        empty.within_emptied I Γ σ (two #SetMinus a b) u ha a b u ha s.3.0 s.3.1.0 (λ l. l.2.0) (λ l. l.2.1.0)
        (λ ρ. within_is I.size u (set_of I (means I a Γ) ρ u) (set_of I (means I b Γ) ρ u))

    pub times_emptied : SingleIntegers (two #CProd a b) Γ → Emptied I σ Γ (two #CProd a b) (⋁ (pair (◌≐∅ Γ a) (◌≐∅ Γ b)))
    unfolding SingleIntegers NoInterOverNothing means value_of type_of op_of op_at class_of lookup form_at
    times_emptied s =
        empty.either_emptied I Γ σ (two #CProd a b) (prod u v) (rw (ha, hb)) a b u ha s.3.0 s.3.1.0 (λ l. l.2.0) (λ l. l.2.1.0) v hb
        (λ ρ. set.times_some I.size u v (premise.no_int a Γ u s.3.0 ha) (premise.no_int b Γ v s.3.1.0 hb) (set_of I (means I a Γ) ρ u)
        (set_of I (means I b Γ) ρ v))

  -- ---- a set and a relation
  module _ (s r : Tree) (u v : Ty) (hs : type_of s Γ ≡ pow u) (hr : type_of r Γ ≡ relation u v) where
    pub domres_emptied : SingleIntegers (two #DomRes s r) Γ → Emptied I σ Γ (two #DomRes s r) (◌≐∅ Γ (inters (pair (dom r) s)))
    unfolding SingleIntegers NoInterOverNothing means value_of type_of op_of op_at class_of lookup form_at
    domres_emptied f =
        let n = premise.no_int r Γ (prod u v) f.3.1.0 hr in
        empty.meet_emptied I Γ σ (two #DomRes s r) (prod u v) hr (dom r) s u (empty.dom_type Γ r u v hr)
        (empty.dom_single Γ r u v hr f.3.1.0) f.3.0
        (λ l. premise.one_alive I Γ #KDom (refl, refl) r l.2.1.0) (λ l. l.2.0)
        (λ ρ. ap (λ d. some I u (λ x. d x && set_of I (means I s Γ) ρ u x)) (empty.dom_is I Γ r u v hr ρ)
        ∙ set.domres_some I.size u v n.0 n.1 (set_of I (means I s Γ) ρ u) (set_of I (means I r Γ) ρ (prod u v)))

    pub domsub_emptied : SingleIntegers (two #DomSub s r) Γ → Emptied I σ Γ (two #DomSub s r) (dom r ⊆ s)
    unfolding SingleIntegers NoInterOverNothing means value_of type_of op_of op_at class_of lookup form_at
    domsub_emptied f =
        let n = premise.no_int r Γ (prod u v) f.3.1.0 hr in
        empty.within_emptied I Γ σ (two #DomSub s r) (prod u v) hr (dom r) s u (empty.dom_type Γ r u v hr)
        (empty.dom_single Γ r u v hr f.3.1.0) f.3.0
        (λ l. premise.one_alive I Γ #KDom (refl, refl) r l.2.1.0) (λ l. l.2.0)
        (λ ρ. ap (λ d. every I u (λ x. not (d x) || set_of I (means I s Γ) ρ u x)) (empty.dom_is I Γ r u v hr ρ)
        ∙ set.domsub_none I.size u v n.0 n.1 (set_of I (means I s Γ) ρ u) (set_of I (means I r Γ) ρ (prod u v)))

    pub image_emptied : SingleIntegers (two #RelImage r s) Γ → Emptied I σ Γ (two #RelImage r s) (◌≐∅ Γ (two #DomRes s r))
    unfolding SingleIntegers NoInterOverNothing means value_of type_of op_of op_at class_of lookup form_at
    image_emptied f =
        let n = premise.no_int r Γ (prod u v) f.3.0 hr in
        emptied_by I σ Γ (two #RelImage r s) (two #DomRes s r) v (prod u v) (rw hr) hr
        (tt, premise.single_type r Γ f.3.0, tt, (f.3.1.0, (f.3.0, tt)))
        (λ l. (tt, tt, (l.2.1.0, (l.2.0, tt))))
        (λ l ρ. set.image_some I.size u v n.0 n.1 (set_of I (means I s Γ) ρ u) (set_of I (means I r Γ) ρ (prod u v))
        ∙ ap (some I v) (sym (empty.image_is I Γ r u v hr ρ s)))

  module _ (r s : Tree) (u v : Ty) (hr : type_of r Γ ≡ relation u v) (hs : type_of s Γ ≡ pow v) where
    pub ranres_emptied : SingleIntegers (two #RanRes r s) Γ → Emptied I σ Γ (two #RanRes r s) (◌≐∅ Γ (inters (pair (ran r) s)))
    unfolding SingleIntegers NoInterOverNothing means value_of type_of op_of op_at class_of lookup form_at
    ranres_emptied f =
        let n = premise.no_int r Γ (prod u v) f.3.0 hr in
        empty.meet_emptied I Γ σ (two #RanRes r s) (prod u v) hr (ran r) s v (empty.ran_type Γ r u v hr)
        (empty.ran_single Γ r u v hr f.3.0) f.3.1.0
        (λ l. premise.one_alive I Γ #KRan (refl, refl) r l.2.0) (λ l. l.2.1.0)
        (λ ρ. ap (λ d. some I v (λ x. d x && set_of I (means I s Γ) ρ v x)) (empty.ran_is I Γ r u v hr ρ)
        ∙ set.ranres_some I.size u v n.0 n.1 (set_of I (means I r Γ) ρ (prod u v)) (set_of I (means I s Γ) ρ v))

    pub ransub_emptied : SingleIntegers (two #RanSub r s) Γ → Emptied I σ Γ (two #RanSub r s) (ran r ⊆ s)
    unfolding SingleIntegers NoInterOverNothing means value_of type_of op_of op_at class_of lookup form_at
    ransub_emptied f =
        let n = premise.no_int r Γ (prod u v) f.3.0 hr in
        empty.within_emptied I Γ σ (two #RanSub r s) (prod u v) hr (ran r) s v (empty.ran_type Γ r u v hr)
        (empty.ran_single Γ r u v hr f.3.0) f.3.1.0
        (λ l. premise.one_alive I Γ #KRan (refl, refl) r l.2.0) (λ l. l.2.1.0)
        (λ ρ. ap (λ d. every I v (λ x. not (d x) || set_of I (means I s Γ) ρ v x)) (empty.ran_is I Γ r u v hr ρ)
        ∙ set.ransub_none I.size u v n.0 n.1 (set_of I (means I r Γ) ρ (prod u v)) (set_of I (means I s Γ) ρ v))

  -- ---- two relations
  module _ (p q : Tree) (u v w : Ty) where
    pub dprod_emptied : type_of p Γ ≡ relation u v → type_of q Γ ≡ relation u w → SingleIntegers (two #DProd p q) Γ
        → Emptied I σ Γ (two #DProd p q) (◌≐∅ Γ (inters (pair (dom p) (dom q))))
    unfolding SingleIntegers NoInterOverNothing means value_of type_of op_of op_at class_of lookup form_at
    dprod_emptied hp hq f =
        let n = premise.no_int p Γ (prod u v) f.3.0 hp in
        let m = premise.no_int q Γ (prod u w) f.3.1.0 hq in
        empty.meet_emptied I Γ σ (two #DProd p q) (prod u (prod v w)) (rw (hp, hq)) (dom p) (dom q) u (empty.dom_type Γ p u v hp)
        (empty.dom_single Γ p u v hp f.3.0) (empty.dom_single Γ q u w hq f.3.1.0)
        (λ l. premise.one_alive I Γ #KDom (refl, refl) p l.2.0) (λ l. premise.one_alive I Γ #KDom (refl, refl) q l.2.1.0)
        (λ ρ. ap₂ (λ d e. some I u (λ x. d x && e x)) (empty.dom_is I Γ p u v hp ρ) (empty.dom_is I Γ q u w hq ρ)
        ∙ set.dprod_some I.size u v w n.0 n.1 m.1 (set_of I (means I p Γ) ρ (prod u v)) (set_of I (means I q Γ) ρ (prod u w)))

    -- p leads from u to v, q from v to w; e is p, then q
    composed : (e : Tree) → type_of e Γ ≡ relation u w → type_of p Γ ≡ relation u v → type_of q Γ ≡ relation v w → SingleIntegers p Γ
        → SingleIntegers q Γ → (NoInterOverNothing I e Γ → NoInterOverNothing I p Γ) → (NoInterOverNothing I e Γ → NoInterOverNothing I q Γ)
        → ((ρ : Vals I Γ) → set_of I (means I e Γ) ρ (prod u w) ≡
        (λ a. some I v (λ z. rel_of I (means I p Γ) ρ u v a.0 z && rel_of I (means I q Γ) ρ v w z a.1)))
        → Emptied I σ Γ e (◌≐∅ Γ (inters (pair (ran p) (dom q))))
    composed e he hp hq s r k l is =
        let n = premise.no_int p Γ (prod u v) s hp in
        let m = premise.no_int q Γ (prod v w) r hq in
        empty.meet_emptied I Γ σ e (prod u w) he (ran p) (dom q) v (empty.ran_type Γ p u v hp) (empty.ran_single Γ p u v hp s)
        (empty.dom_single Γ q v w hq r)
        (λ x. premise.one_alive I Γ #KRan (refl, refl) p (k x)) (λ x. premise.one_alive I Γ #KDom (refl, refl) q (l x))
        (λ ρ. ap₂ (λ d f. some I v (λ x. d x && f x)) (empty.ran_is I Γ p u v hp ρ) (empty.dom_is I Γ q v w hq ρ)
        ∙ set.fcomp_some I.size u v w n.0 n.1 m.1 (set_of I (means I p Γ) ρ (prod u v)) (set_of I (means I q Γ) ρ (prod v w)) ∙ ap
        (some I (prod u w)) (sym (is ρ)))

  module _ (p q : Tree) (u v w : Ty) where
    pub forward_emptied : type_of p Γ ≡ relation u v → type_of q Γ ≡ relation v w → SingleIntegers (many #FComp (pair p q)) Γ
        → Emptied I σ Γ (many #FComp (pair p q)) (◌≐∅ Γ (inters (pair (ran p) (dom q))))
    unfolding SingleIntegers NoInterOverNothing type_of op_of op_at class_of lookup form_at
    forward_emptied hp hq f =
        composed p q u v w (many #FComp (pair p q)) (rw (hp, hq)) hp hq f.3.0 f.3.1.0 (λ l. l.2.0) (λ l. l.2.1.0)
        (λ ρ. empty.forward_is I Γ p u v hp ρ q w)

    pub backward_emptied : type_of p Γ ≡ relation v w → type_of q Γ ≡ relation u v → SingleIntegers (many #BComp (pair p q)) Γ
        → Emptied I σ Γ (many #BComp (pair p q)) (◌≐∅ Γ (inters (pair (ran q) (dom p))))
    unfolding SingleIntegers NoInterOverNothing type_of op_of op_at class_of lookup form_at
    backward_emptied hp hq f =
        composed q p u v w (many #BComp (pair p q)) (rw (hp, hq)) hq hp f.3.1.0 f.3.0 (λ l. l.2.1.0) (λ l. l.2.0)
        (λ ρ. empty.backward_is I Γ p v w hp ρ q u)

  pub pprod_emptied : (p q : Tree) (u v w z : Ty) → type_of p Γ ≡ relation u v → type_of q Γ ≡ relation w z → SingleIntegers (two #PProd p q) Γ
      → Emptied I σ Γ (two #PProd p q) (⋁ (pair (◌≐∅ Γ p) (◌≐∅ Γ q)))
  unfolding SingleIntegers NoInterOverNothing means value_of type_of op_of op_at class_of lookup form_at
  pprod_emptied p q u v w z hp hq f =
      let n = premise.no_int p Γ (prod u v) f.3.0 hp in
      let m = premise.no_int q Γ (prod w z) f.3.1.0 hq in
      empty.either_emptied I Γ σ (two #PProd p q) (prod (prod u w) (prod v z)) (rw (hp, hq)) p q (prod u v) hp f.3.0 f.3.1.0
      (λ l. l.2.0) (λ l. l.2.1.0) (prod w z) hq
      (λ ρ. set.pprod_some I.size u w v z n.0 m.0 n.1 m.1 (set_of I (means I p Γ) ρ (prod u v)) (set_of I (means I q Γ) ρ (prod w z)))

  -- ---- one relation
  module _ (r : Tree) (u v : Ty) (hr : type_of r Γ ≡ relation u v) where
    pub dom_emptied : SingleIntegers (dom r) Γ → Emptied I σ Γ (dom r) (◌≐∅ Γ r)
    unfolding SingleIntegers NoInterOverNothing op_of op_at class_of lookup form_at
    dom_emptied f =
        let n = premise.no_int r Γ (prod u v) f.3.0 hr in
        emptied_by I σ Γ (dom r) r u (prod u v) (empty.dom_type Γ r u v hr) hr f.3.0 (λ l. l.2.0)
        (λ l ρ. set.dom_some I.size u v n.0 n.1 (set_of I (means I r Γ) ρ (prod u v)) ∙ ap (some I u) (sym (empty.dom_is I Γ r u v hr ρ)))

    pub ran_emptied : SingleIntegers (ran r) Γ → Emptied I σ Γ (ran r) (◌≐∅ Γ r)
    unfolding SingleIntegers NoInterOverNothing op_of op_at class_of lookup form_at
    ran_emptied f =
        let n = premise.no_int r Γ (prod u v) f.3.0 hr in
        emptied_by I σ Γ (ran r) r v (prod u v) (empty.ran_type Γ r u v hr) hr f.3.0 (λ l. l.2.0)
        (λ l ρ. set.ran_some I.size u v n.0 n.1 (set_of I (means I r Γ) ρ (prod u v)) ∙ ap (some I v) (sym (empty.ran_is I Γ r u v hr ρ)))

    pub converse_emptied : SingleIntegers (one #Converse r) Γ → Emptied I σ Γ (one #Converse r) (◌≐∅ Γ r)
    unfolding SingleIntegers NoInterOverNothing means value_of type_of op_of op_at class_of lookup form_at
    converse_emptied f =
        let n = premise.no_int r Γ (prod u v) f.3.0 hr in
        emptied_by I σ Γ (one #Converse r) r (prod v u) (prod u v) (rw hr) hr f.3.0 (λ l. l.2.0)
        (λ l ρ. set.converse_some I.size u v n.0 n.1 (set_of I (means I r Γ) ρ (prod u v)))

  -- ---- sets of sets
  module _ (s : Tree) (u : Ty) (hs : type_of s Γ ≡ pow u) where
    pub pow_emptied : SingleIntegers (one #Pow s) Γ → Emptied I σ Γ (one #Pow s) ⊥ᵖ
    unfolding SingleIntegers means value_of type_of op_of op_at class_of lookup form_at
    pow_emptied f =
        empty.false_emptied I Γ σ (one #Pow s) (pow u) (rw hs)
        (λ ρ. set.pow_some I.size u (premise.no_int s Γ u f.3.0 hs) (set_of I (means I s Γ) ρ u))

    pub pow1_emptied : SingleIntegers (one #Pow1 s) Γ → Emptied I σ Γ (one #Pow1 s) (◌≐∅ Γ s)
    unfolding SingleIntegers NoInterOverNothing means value_of type_of op_of op_at class_of lookup form_at
    pow1_emptied f =
        emptied_by I σ Γ (one #Pow1 s) s (pow u) u (rw hs) hs f.3.0 (λ l. l.2.0)
        (λ l ρ. set.pow1_some I.size u (premise.no_int s Γ u f.3.0 hs) (set_of I (means I s Γ) ρ u))

  pub union_emptied : (s : Tree) (u : Ty) → type_of s Γ ≡ pow (pow u) → SingleIntegers (one #KUnion s) Γ
      → Emptied I σ Γ (one #KUnion s) (s ⊆ ext (sole (∅ (element (type_of s Γ)))))
  unfolding SingleIntegers NoInterOverNothing means value_of type_of op_of op_at class_of lookup form_at any
  union_emptied s u hs f =
      let n = premise.no_int s Γ (pow u) f.3.0 hs in
      empty.within_emptied I Γ σ (one #KUnion s) u (rw hs) s (ext (sole (∅ (element (type_of s Γ))))) (pow u) hs f.3.0
      (rw hs (tt, n, tt, (((n, tt), n, tt, tt), tt))) (λ l. l.2.0) (λ l. (tt, tt, ((tt, tt, tt), tt)))
      (λ ρ. set.kunion_none I.size u n (set_of I (means I s Γ) ρ (pow u)))

  -- ---- sets of relations
  module _ (a b : Tree) (u v : Ty) (ha : type_of a Γ ≡ pow u) (hb : type_of b Γ ≡ pow v) where
    pub srel_emptied : SingleIntegers (two #SRel a b) Γ → Emptied I σ Γ (two #SRel a b) (⋀ (pair (◌≐∅ Γ a) (¬ᵖ (◌≐∅ Γ b))))
    unfolding SingleIntegers NoInterOverNothing means holds value_of type_of op_of op_at class_of lookup form_at
    srel_emptied f =
        emptied I σ Γ (two #SRel a b) (⋀ (pair (◌≐∅ Γ a) (¬ᵖ (◌≐∅ Γ b)))) (pow (prod u v)) (rw (ha, hb)) (refl, refl)
        (premise.two_single I Γ #LAnd (refl, refl) (◌≐∅ Γ a) (¬ᵖ (◌≐∅ Γ b)) (premise.empty_single I Γ a f.3.0)
        (premise.one_single I Γ #Not (refl, refl) (◌≐∅ Γ b) (premise.empty_single I Γ b f.3.1.0)))
        (λ l. premise.two_alive I Γ #LAnd (refl, refl) (◌≐∅ Γ a) (¬ᵖ (◌≐∅ Γ b)) (premise.empty_alive I Γ a l.2.0)
        (premise.one_alive I Γ #Not (refl, refl) (◌≐∅ Γ b) (premise.empty_alive I Γ b l.2.1.0)))
        (λ l ρ. empty.and_two_truth I Γ (◌≐∅ Γ a) (¬ᵖ (◌≐∅ Γ b)) ρ ∙ ap₂ ◌&&◌ (kit.empty_truth I Γ a u ha ρ) (ap not (kit.empty_truth I Γ b v hb ρ))
        ∙ law (some I u (set_of I (means I a Γ) ρ u)) (some I v (set_of I (means I b Γ) ρ v))
        ∙ ap not (sym (more.srel_some I.size u v (premise.no_int a Γ u f.3.0 ha) (premise.no_int b Γ v f.3.1.0 hb)
        (set_of I (means I a Γ) ρ u) (set_of I (means I b Γ) ρ v))))
      where
        law : (x y : Bool) → (not x && not (not y)) ≡ not (not y || x)
        law true true = refl
        law true false = refl
        law false true = refl
        law false false = refl

    pub strel_emptied : SingleIntegers (two #STRel a b) Γ → Emptied I σ Γ (two #STRel a b) (◌≐∅ Γ a ⇔ ¬ᵖ (◌≐∅ Γ b))
    unfolding SingleIntegers NoInterOverNothing means holds value_of type_of op_of op_at class_of lookup form_at
    strel_emptied f =
        emptied I σ Γ (two #STRel a b) (◌≐∅ Γ a ⇔ ¬ᵖ (◌≐∅ Γ b)) (pow (prod u v)) (rw (ha, hb)) (refl, refl)
        (premise.two_single I Γ #LEqv (refl, refl) (◌≐∅ Γ a) (¬ᵖ (◌≐∅ Γ b)) (premise.empty_single I Γ a f.3.0)
        (premise.one_single I Γ #Not (refl, refl) (◌≐∅ Γ b) (premise.empty_single I Γ b f.3.1.0)))
        (λ l. premise.two_alive I Γ #LEqv (refl, refl) (◌≐∅ Γ a) (¬ᵖ (◌≐∅ Γ b)) (premise.empty_alive I Γ a l.2.0)
        (premise.one_alive I Γ #Not (refl, refl) (◌≐∅ Γ b) (premise.empty_alive I Γ b l.2.1.0)))
        (λ l ρ. kit.equiv_truth I Γ (◌≐∅ Γ a) (¬ᵖ (◌≐∅ Γ b)) ρ ∙ ap₂ beq (kit.empty_truth I Γ a u ha ρ) (ap not (kit.empty_truth I Γ b v hb ρ))
        ∙ law (some I u (set_of I (means I a Γ) ρ u)) (some I v (set_of I (means I b Γ) ρ v))
        ∙ ap not (sym (more.strel_some I.size u v (premise.no_int a Γ u f.3.0 ha) (premise.no_int b Γ v f.3.1.0 hb)
        (set_of I (means I a Γ) ρ u) (set_of I (means I b Γ) ρ v))))
      where
        law : (x y : Bool) → beq (not x) (not (not y)) ≡ not (beq x y)
        law true true = refl
        law true false = refl
        law false true = refl
        law false false = refl
