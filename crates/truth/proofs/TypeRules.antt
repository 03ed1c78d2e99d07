-- The equations of E = Ty: the new predicate says that E has every element of its type.
-- Main result: fills_filled.
use mathlib.Core.Path.{◌≡◌, refl, ap, ap₂, ◌∙◌, fun_ext}
use mathlib.Core.Bool.{Bool, true, false, not, ◌&&◌, ◌||◌, So}
use mathlib.Core.List.{List}
use Prim.Native.Nat.{ℕ}
use Rattle.frame.specs.Types.{Ty, pow, prod}
use Rattle.frame.specs.Trees.{Tree, Forest, one, two, sole, pair, bodied, map_f}
use Rattle.frame.specs.Tags.{expression, class_of, lookup, form_at}
use Rattle.frame.specs.Operators.{
  #SetMinus,
  #CProd,
  #DProd,
  #PProd,
  #DomRes,
  #DomSub,
  #RanRes,
  #RanSub,
  #UpTo,
  #KInter,
  #Converse,
  #QInter,
  #Equal,
  #Forall,
  #LAnd,
  #LImp,
}
use Rattle.frame.specs.Places.{Ctx, push}
use Rattle.typing.specs.Typing.{element, relation, type_of, types_in}
use Rattle.typing.specs.TypeExpression.{to_expression}
use Rattle.typing.specs.Accepted.{Accepted, TysOk}
use Rattle.typing.proofs.TypeExpression.{express_type}
use Rattle.rules.specs.Equations.{
  ◌⇒◌,
  ⋀,
  ∀ᵖ,
  ◌≐◌,
  ext,
  inters,
  Fills,
  ◌≐∅,
  ◌≐Ty,
  SIMP_BINTER_EQUAL_TYPE,
  SIMP_SETMINUS_EQUAL_TYPE,
  SIMP_CPROD_EQUAL_TYPE,
  SIMP_UPTO_EQUAL_INTEGER,
  SIMP_DOMRES_EQUAL_TYPE,
  SIMP_DOMSUB_EQUAL_TYPE,
  SIMP_RANRES_EQUAL_TYPE,
  SIMP_RANSUB_EQUAL_TYPE,
  SIMP_DPROD_EQUAL_TYPE,
  SIMP_PPROD_EQUAL_TYPE,
  SIMP_KINTER_EQUAL_TYPE,
  SIMP_CONVERSE_EQUAL_TYPE,
  SIMP_QINTER_EQUAL_TYPE,
}
use Rattle.rules.proofs.Nodes.{Has}
use Rattle.rules.proofs.OldNodes.{
  of_inter,
  of_converse,
  of_minus,
  of_times,
  of_domres,
  of_domsub,
  of_ranres,
  of_ransub,
  of_dprod,
  of_pprod,
  of_qinter,
}
use Rattle.meaning.specs.Lists.{any, all}
use Rattle.meaning.specs.Operations.{op_at, op_of}
use Rattle.meaning.specs.Meaning.{Interpretation, Vals, truth, set_of, some, every, equals, choices, value_of, bound_set, means, means_all}
use Rattle.meaning.specs.Premises.{NoInt, SingleIntegers, NoInterOverNothing}
use Rattle.meaning.proofs.Kit as kit
use Rattle.truth.proofs.TypeSets as set
use Rattle.truth.proofs.Premises as premise
use Rattle.truth.proofs.Emptied.{Filled, filled, filled_by}
use Rattle.truth.proofs.Many.{Each, each_alike, map_single, map_alive, fulls_all}

module _ (I : Interpretation) (σ : ℕ → Ty) (Γ : Ctx) where
  -- ---- E = Ty is p ∧ q, where p and q say that a set is full or empty
  both : (e p q : Tree) (u : Ty) → type_of e Γ ≡ pow u → SingleIntegers p Γ → SingleIntegers q Γ
      → (NoInterOverNothing I e Γ → NoInterOverNothing I p Γ × NoInterOverNothing I q Γ)
      → ((ρ : Vals I Γ) → (truth I (means I p Γ) ρ && (truth I (means I q Γ) ρ && true)) ≡ every I u (set_of I (means I e Γ) ρ u))
      → Filled I σ Γ e (⋀ (pair p q))
  unfolding SingleIntegers NoInterOverNothing means class_of lookup form_at all
  both e p q u he sp sq l k =
      filled I σ Γ e (⋀ (pair p q)) u he (refl, refl) (premise.many_single I Γ #LAnd (refl, refl) (pair p q) (sp, (sq, tt)))
      (λ a. premise.many_alive I Γ #LAnd (refl, refl) (pair p q) ((l a).0, ((l a).1, tt))) (λ a ρ. kit.and_truth I Γ (pair p q) ρ ∙ k ρ)

  -- p says of a set a what f tells: that it is full, that it is empty
  record Says (a p : Tree) (f : Vals I Γ → Bool) : Type 0 where
    single : SingleIntegers a Γ → SingleIntegers p Γ
    alive : NoInterOverNothing I a Γ → NoInterOverNothing I p Γ
    truly : (ρ : Vals I Γ) → truth I (means I p Γ) ρ ≡ f ρ

  full_says : (a : Tree) (u : Ty) → type_of a Γ ≡ pow u → Says a (◌≐Ty Γ a) (λ ρ. every I u (set_of I (means I a Γ) ρ u))
  full_says a u h = record { single = premise.full_single I Γ a; alive = premise.full_alive I Γ a; truly = kit.full_truth I Γ a u h }

  none_says : (a : Tree) (u : Ty) → type_of a Γ ≡ pow u → Says a (◌≐∅ Γ a) (λ ρ. not (some I u (set_of I (means I a Γ) ρ u)))
  none_says a u h = record { single = premise.empty_single I Γ a; alive = premise.empty_alive I Γ a; truly = kit.empty_truth I Γ a u h }

  module _ (e a b : Tree) (t : Ty) (he : type_of e Γ ≡ pow t) (s : SingleIntegers a Γ × SingleIntegers b Γ)
      (l : NoInterOverNothing I e Γ → NoInterOverNothing I a Γ × NoInterOverNothing I b Γ) where
    both_say : {p q : Tree} {f g : Vals I Γ → Bool} → Says a p f → Says b q g
        → ((ρ : Vals I Γ) → (f ρ && (g ρ && true)) ≡ every I t (set_of I (means I e Γ) ρ t)) → Filled I σ Γ e (⋀ (pair p q))
    both_say {p} {q} x y k =
        both e p q t he (x.single s.0) (y.single s.1) (λ z. (x.alive (l z).0, y.alive (l z).1))
        (λ ρ. ap₂ (λ c d. c && (d && true)) (x.truly ρ) (y.truly ρ) ∙ k ρ)

  module _ (e a b : Tree) (t u v : Ty) (he : type_of e Γ ≡ pow t) (ha : type_of a Γ ≡ pow u) (hb : type_of b Γ ≡ pow v)
      (s : SingleIntegers a Γ × SingleIntegers b Γ) (l : NoInterOverNothing I e Γ → NoInterOverNothing I a Γ × NoInterOverNothing I b Γ) where
    full_full : ((ρ : Vals I Γ) → (every I u (set_of I (means I a Γ) ρ u) && (every I v (set_of I (means I b Γ) ρ v) && true)) ≡ every I t
        (set_of I (means I e Γ) ρ t)) → Filled I σ Γ e (⋀ (pair (◌≐Ty Γ a) (◌≐Ty Γ b)))
    full_full = both_say e a b t he s l (full_says a u ha) (full_says b v hb)

    full_none : ((ρ : Vals I Γ) → (every I u (set_of I (means I a Γ) ρ u) && (not (some I v (set_of I (means I b Γ) ρ v)) && true)) ≡ every I
        t (set_of I (means I e Γ) ρ t)) → Filled I σ Γ e (⋀ (pair (◌≐Ty Γ a) (◌≐∅ Γ b)))
    full_none = both_say e a b t he s l (full_says a u ha) (none_says b v hb)

    none_full : ((ρ : Vals I Γ) → (not (some I u (set_of I (means I a Γ) ρ u)) && (every I v (set_of I (means I b Γ) ρ v) && true)) ≡ every I
        t (set_of I (means I e Γ) ρ t)) → Filled I σ Γ e (⋀ (pair (◌≐∅ Γ a) (◌≐Ty Γ b)))
    none_full = both_say e a b t he s l (none_says a u ha) (full_says b v hb)

  -- ---- A ∖ B, S × T
  minus_filled : (a b : Tree) (u : Ty) → type_of a Γ ≡ pow u → type_of b Γ ≡ pow u → SingleIntegers (two #SetMinus a b) Γ
      → Filled I σ Γ (two #SetMinus a b) (⋀ (pair (◌≐Ty Γ a) (◌≐∅ Γ b)))
  unfolding SingleIntegers NoInterOverNothing type_of means value_of op_of op_at class_of lookup form_at
  minus_filled a b u ha hb s =
      full_none (two #SetMinus a b) a b u u u ha ha hb (s.3.0, s.3.1.0) (λ l. (l.2.0, l.2.1.0))
      (λ ρ. set.minus_full I.size u (premise.no_int a Γ u s.3.0 ha) (set_of I (means I a Γ) ρ u) (set_of I (means I b Γ) ρ u))

  times_filled : (a b : Tree) (u v : Ty) → type_of a Γ ≡ pow u → type_of b Γ ≡ pow v → SingleIntegers (two #CProd a b) Γ
      → Filled I σ Γ (two #CProd a b) (⋀ (pair (◌≐Ty Γ a) (◌≐Ty Γ b)))
  unfolding SingleIntegers NoInterOverNothing type_of means value_of op_of op_at class_of lookup form_at
  times_filled a b u v ha hb s =
      full_full (two #CProd a b) a b (prod u v) u v (rw (ha, hb)) ha hb (s.3.0, s.3.1.0) (λ l. (l.2.0, l.2.1.0))
      (λ ρ. set.times_full I.size u v (premise.no_int a Γ u s.3.0 ha) (premise.no_int b Γ v s.3.1.0 hb) (set_of I (means I a Γ) ρ u)
      (set_of I (means I b Γ) ρ v))

  -- ---- S ◁ r, S ⩤ r
  module _ (a r : Tree) (u v : Ty) (ha : type_of a Γ ≡ pow u) (hr : type_of r Γ ≡ relation u v) where
    domres_filled : SingleIntegers (two #DomRes a r) Γ → Filled I σ Γ (two #DomRes a r) (⋀ (pair (◌≐Ty Γ a) (◌≐Ty Γ r)))
    unfolding SingleIntegers NoInterOverNothing type_of means value_of op_of op_at class_of lookup form_at
    domres_filled s =
        let n = premise.no_int r Γ (prod u v) s.3.1.0 hr in
        full_full (two #DomRes a r) a r (prod u v) u (prod u v) hr ha hr (s.3.0, s.3.1.0) (λ l. (l.2.0, l.2.1.0))
        (λ ρ. set.domres_full I.size u v n.0 n.1 (set_of I (means I r Γ) ρ (prod u v)) (set_of I (means I a Γ) ρ u))

    domsub_filled : SingleIntegers (two #DomSub a r) Γ → Filled I σ Γ (two #DomSub a r) (⋀ (pair (◌≐∅ Γ a) (◌≐Ty Γ r)))
    unfolding SingleIntegers NoInterOverNothing type_of means value_of op_of op_at class_of lookup form_at
    domsub_filled s =
        let n = premise.no_int r Γ (prod u v) s.3.1.0 hr in
        none_full (two #DomSub a r) a r (prod u v) u (prod u v) hr ha hr (s.3.0, s.3.1.0) (λ l. (l.2.0, l.2.1.0))
        (λ ρ. set.domsub_full I.size u v n.0 n.1 (set_of I (means I r Γ) ρ (prod u v)) (set_of I (means I a Γ) ρ u))

  -- ---- r ▷ T, r ⩥ T
  module _ (r b : Tree) (u v : Ty) (hr : type_of r Γ ≡ relation u v) (hb : type_of b Γ ≡ pow v) where
    ranres_filled : SingleIntegers (two #RanRes r b) Γ → Filled I σ Γ (two #RanRes r b) (⋀ (pair (◌≐Ty Γ b) (◌≐Ty Γ r)))
    unfolding SingleIntegers NoInterOverNothing type_of means value_of op_of op_at class_of lookup form_at
    ranres_filled s =
        let n = premise.no_int r Γ (prod u v) s.3.0 hr in
        full_full (two #RanRes r b) b r (prod u v) v (prod u v) hr hb hr (s.3.1.0, s.3.0) (λ l. (l.2.1.0, l.2.0))
        (λ ρ. set.ranres_full I.size u v n.0 n.1 (set_of I (means I r Γ) ρ (prod u v)) (set_of I (means I b Γ) ρ v))

    ransub_filled : SingleIntegers (two #RanSub r b) Γ → Filled I σ Γ (two #RanSub r b) (⋀ (pair (◌≐∅ Γ b) (◌≐Ty Γ r)))
    unfolding SingleIntegers NoInterOverNothing type_of means value_of op_of op_at class_of lookup form_at
    ransub_filled s =
        let n = premise.no_int r Γ (prod u v) s.3.0 hr in
        none_full (two #RanSub r b) b r (prod u v) v (prod u v) hr hb hr (s.3.1.0, s.3.0) (λ l. (l.2.1.0, l.2.0))
        (λ ρ. set.ransub_full I.size u v n.0 n.1 (set_of I (means I r Γ) ρ (prod u v)) (set_of I (means I b Γ) ρ v))

  -- ---- p ⊗ q, p ∥ q
  dprod_filled : (p q : Tree) (u v w : Ty) → type_of p Γ ≡ relation u v → type_of q Γ ≡ relation u w → SingleIntegers (two #DProd p q) Γ
      → Filled I σ Γ (two #DProd p q) (⋀ (pair (◌≐Ty Γ p) (◌≐Ty Γ q)))
  unfolding SingleIntegers NoInterOverNothing type_of means value_of op_of op_at class_of lookup form_at
  dprod_filled p q u v w hp hq s =
      let n = premise.no_int p Γ (prod u v) s.3.0 hp in
      let m = premise.no_int q Γ (prod u w) s.3.1.0 hq in
      full_full (two #DProd p q) p q (prod u (prod v w)) (prod u v) (prod u w) (rw (hp, hq)) hp hq (s.3.0, s.3.1.0) (λ l. (l.2.0, l.2.1.0))
      (λ ρ. set.dprod_full I.size u v w n.0 n.1 m.1 (set_of I (means I p Γ) ρ (prod u v)) (set_of I (means I q Γ) ρ (prod u w)))

  pprod_filled : (p q : Tree) (u v w x : Ty) → type_of p Γ ≡ relation u v → type_of q Γ ≡ relation w x → SingleIntegers (two #PProd p q) Γ
      → Filled I σ Γ (two #PProd p q) (⋀ (pair (◌≐Ty Γ p) (◌≐Ty Γ q)))
  unfolding SingleIntegers NoInterOverNothing type_of means value_of op_of op_at class_of lookup form_at
  pprod_filled p q u v w x hp hq s =
      let n = premise.no_int p Γ (prod u v) s.3.0 hp in
      let m = premise.no_int q Γ (prod w x) s.3.1.0 hq in
      full_full (two #PProd p q) p q (prod (prod u w) (prod v x)) (prod u v) (prod w x) (rw (hp, hq)) hp hq (s.3.0, s.3.1.0)
      (λ l. (l.2.0, l.2.1.0))
      (λ ρ. set.pprod_full I.size u v w x n.0 n.1 m.0 m.1 (set_of I (means I p Γ) ρ (prod u v)) (set_of I (means I q Γ) ρ (prod w x)))

  -- ---- r∼
  converse_filled : (r : Tree) (u v : Ty) → type_of r Γ ≡ relation u v → SingleIntegers (one #Converse r) Γ → Filled I σ Γ (one #Converse r) (◌≐Ty Γ r)
  unfolding SingleIntegers NoInterOverNothing type_of means value_of op_of op_at class_of lookup form_at
  converse_filled r u v hr s =
      let n = premise.no_int r Γ (prod u v) s.3.0 hr in
      filled_by I σ Γ (one #Converse r) r (prod v u) (prod u v) (rw hr) hr s.3.0 (λ l. l.2.0)
      (λ a ρ. set.converse_full I.size u v n.0 n.1 (set_of I (means I r Γ) ρ (prod u v)))

  -- ---- i ‥ j is a set of integers: the premise says that there is none
  upto_filled : (i j new : Tree) → SingleIntegers (two #UpTo i j) Γ → Filled I σ Γ (two #UpTo i j) new
  unfolding SingleIntegers type_of class_of lookup form_at
  upto_filled i j new s = absurd s.1

  -- ---- A ∩ … ∩ B
  cap_filled : (ks : Forest) → Each (pow (element (type_of (inters ks) Γ))) (types_in ks Γ) → SingleIntegers (inters ks) Γ
      → Filled I σ Γ (inters ks) (⋀ (map_f (◌≐Ty Γ) ks))
  unfolding SingleIntegers NoInterOverNothing type_of means value_of op_of op_at class_of lookup form_at
  cap_filled ks h s =
      let u = element (type_of (inters ks) Γ) in
      record {
        formula = (refl, refl);
        single = premise.many_single I Γ #LAnd (refl, refl) (map_f (◌≐Ty Γ) ks) (map_single (◌≐Ty Γ) Γ Γ (λ k. premise.full_single I Γ k) ks s.3);
        alive = λ a.
            premise.many_alive I Γ #LAnd (refl, refl) (map_f (◌≐Ty Γ) ks) (map_alive I (◌≐Ty Γ) Γ Γ (λ k. premise.full_alive I Γ k) ks a.2);
        says = λ a ρ.
            kit.and_truth I Γ (map_f (◌≐Ty Γ) ks) ρ ∙ fulls_all I Γ u ρ ks h ∙ set.cap_full I.size u (λ d. set_of I d ρ u) (means_all I ks Γ);
      }

  -- ---- inter(S)
  module _ (s : Tree) (u : Ty) (hs : type_of s Γ ≡ pow (pow u)) where
    -- {Ty}
    only : Tree
    only = ext (sole (to_expression u))

    only_single : NoInt u → SingleIntegers only Γ
    unfolding only SingleIntegers type_of class_of lookup form_at
    only_single n = (tt, rw (express_type u Γ) n, tt, (premise.type_single u Γ n, tt))

    only_alive : NoInterOverNothing I only Γ
    unfolding only NoInterOverNothing op_of op_at class_of lookup
    only_alive = (tt, tt, (premise.type_alive I u Γ, tt))

    only_set : (ρ : Vals I Γ) → set_of I (means I only Γ) ρ (pow u) ≡ (λ a. equals I (pow u) a (λ x. true) || false)
    unfolding only means value_of any op_of op_at class_of lookup
    only_set ρ = ap (λ f. λ a. equals I (pow u) a f || false) (kit.type_full I u Γ ρ)

    member_of : NoInterOverNothing I (one #KInter s) Γ → (ρ : Vals I Γ) → So (some I (pow u) (set_of I (means I s Γ) ρ (pow u)))
    unfolding NoInterOverNothing type_of means op_of op_at class_of lookup
    member_of a ρ = rw hs at (a.0 ρ)

    kinter_at : SingleIntegers (one #KInter s) Γ → Filled I σ Γ (one #KInter s) (s ≐ only)
    unfolding SingleIntegers NoInterOverNothing type_of means value_of op_of op_at class_of lookup form_at
    kinter_at i =
        let n = premise.no_int s Γ (pow u) i.3.0 hs in
        filled I σ Γ (one #KInter s) (s ≐ only) u (rw hs) (refl, refl) (premise.two_single I Γ #Equal (refl, refl) s only i.3.0 (only_single n))
        (λ a. premise.two_alive I Γ #Equal (refl, refl) s only a.2.0 only_alive)
        (λ a ρ. kit.equal_truth I Γ s only (pow (pow u)) hs ρ
        ∙ ap (λ x. equals I (pow (pow u)) (set_of I (means I s Γ) ρ (pow u)) x) (only_set ρ)
        ∙ set.kinter_full I.size u n (set_of I (means I s Γ) ρ (pow u)) (member_of a ρ))

    kinter_filled : SingleIntegers (one #KInter s) Γ → Filled I σ Γ (one #KInter s) (s ≐ ext (sole (to_expression (element (element (type_of s Γ))))))
    unfolding only
    kinter_filled i = rw hs (kinter_at i)

  -- ---- ⋂ xs · p ∣ e
  qinter_filled : (xs : List Ty) (p e : Tree) (u : Ty) → type_of e (push xs Γ) ≡ pow u → SingleIntegers (bodied #QInter xs p e) Γ
      → Filled I σ Γ (bodied #QInter xs p e) (∀ᵖ xs (p ⇒ ◌≐Ty (push xs Γ) e))
  unfolding SingleIntegers NoInterOverNothing type_of means bound_set op_of op_at class_of lookup form_at
  qinter_filled xs p e u he s =
      let Δ = push xs Γ in
      filled I σ Γ (bodied #QInter xs p e) (∀ᵖ xs (p ⇒ ◌≐Ty Δ e)) u he (refl, refl)
      (premise.bound_single I Γ #Forall (refl, refl) (λ us. refl) xs (p ⇒ ◌≐Ty Δ e) s.0 s.2
      (premise.two_single I Δ #LImp (refl, refl) p (◌≐Ty Δ e) s.3.0 (premise.full_single I Δ e s.3.1.0)))
      (λ a. premise.bound_alive I Γ #Forall (refl, refl) (λ us. refl) xs (p ⇒ ◌≐Ty Δ e) (refl, refl)
      (premise.two_alive I Δ #LImp (refl, refl) p (◌≐Ty Δ e) a.2.0 (premise.full_alive I Δ e a.2.1.0)))
      (λ a ρ. kit.forall_truth I Γ xs (p ⇒ ◌≐Ty Δ e) ρ
      ∙ ap (λ f. all f (choices I xs Γ ρ)) (fun_ext (λ τ. kit.implies_truth I Δ p (◌≐Ty Δ e) τ ∙ ap
      (λ b. not (truth I (means I p Δ) τ) || b) (kit.full_truth I Δ e u he τ)))
      ∙ set.qinter_full I.size u (premise.no_int e Δ u s.3.1.0 he) (truth I (means I p Δ))
      (λ τ. set_of I (means I e Δ) τ u) (choices I xs Γ ρ))

  -- ---- every equation
  capped : (ks : Forest) → Accepted σ (inters ks) Γ expression → Each (pow (element (type_of (inters ks) Γ))) (types_in ks Γ)
  unfolding Accepted type_of class_of lookup form_at
  capped ks a = each_alike (pow (element (type_of (inters ks) Γ))) (types_in ks Γ) a.fits

  filled_of : {place : ℕ} {e new : Tree} → Fills Γ place e new → Accepted σ e Γ expression → SingleIntegers e Γ
      → Has σ Γ e (type_of e Γ) → Filled I σ Γ e new
  filled_of (SIMP_BINTER_EQUAL_TYPE ks) a s h = cap_filled ks (capped ks a) s
  filled_of (SIMP_SETMINUS_EQUAL_TYPE a b) _ s h = let x = of_minus h in minus_filled a b x.0 x.1.type x.2.type s
  filled_of (SIMP_CPROD_EQUAL_TYPE a b) _ s h = let x = of_times h in times_filled a b x.0 x.1 x.2.type x.3.type s
  filled_of (SIMP_UPTO_EQUAL_INTEGER i j) _ s h = upto_filled i j _ s
  filled_of (SIMP_DOMRES_EQUAL_TYPE a r) _ s h = let x = of_domres h in domres_filled a r x.0 x.1 x.2.type x.3.type s
  filled_of (SIMP_DOMSUB_EQUAL_TYPE a r) _ s h = let x = of_domsub h in domsub_filled a r x.0 x.1 x.2.type x.3.type s
  filled_of (SIMP_RANRES_EQUAL_TYPE r b) _ s h = let x = of_ranres h in ranres_filled r b x.0 x.1 x.2.type x.3.type s
  filled_of (SIMP_RANSUB_EQUAL_TYPE r b) _ s h = let x = of_ransub h in ransub_filled r b x.0 x.1 x.2.type x.3.type s
  filled_of (SIMP_DPROD_EQUAL_TYPE p q) _ s h = let x = of_dprod h in dprod_filled p q x.0 x.1 x.2 x.3.type x.4.type s
  filled_of (SIMP_PPROD_EQUAL_TYPE p q) _ s h = let x = of_pprod h in pprod_filled p q x.0 x.1 x.2 x.3 x.4.type x.5.type s
  filled_of (SIMP_KINTER_EQUAL_TYPE t) _ s h = let x = of_inter h in kinter_filled t x.0 x.1.type s
  filled_of (SIMP_CONVERSE_EQUAL_TYPE r) _ s h = let x = of_converse h in converse_filled r x.0 x.1 x.2.type s
  filled_of (SIMP_QINTER_EQUAL_TYPE xs p e) _ s h = let x = of_qinter h in qinter_filled xs p e x.0 x.1.expr.type s

pub fills_filled : (I : Interpretation) (σ : ℕ → Ty) (Γ : Ctx) (place : ℕ) (e new : Tree) → TysOk σ Γ → Fills Γ place e new
    → Accepted σ e Γ expression → SingleIntegers e Γ → Filled I σ Γ e new
fills_filled I σ Γ place e new ok f a s = filled_of I σ Γ f a s (record { accepted = a; type = refl })
