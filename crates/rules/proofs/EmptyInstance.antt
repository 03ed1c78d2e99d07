-- Every answer of `rewrite_equals_empty_set` is an instance of an equation of `Empties`.
-- Main results: empties; joined_many, joined_over.
use mathlib.Core.Path.{◌≡◌, refl, sym, ap, ◌∙◌}
use mathlib.Core.Bool.{Bool, true, false, not, ◌||◌}
use Prim.Native.Nat.{ℕ, ◌≤◌}
use native.Mathlib.Omega.{arith}
use lib.Dec.{eqb}
use borrow.Author.Tests.{eq-eqb}
use Rattle.frame.specs.Types.{Ty}
use Rattle.frame.specs.Trees.{head, Tree, node, Forest, nil, cons, tag_of, count, leaf, two, many, sole, pair, append, map_f}
use Rattle.frame.specs.Tags.{pick, class_of, lookup, form_at}
use Rattle.frame.specs.Operators.{
  #SetExt,
  #SRel,
  #STRel,
  #SetMinus,
  #CProd,
  #DProd,
  #PProd,
  #DomRes,
  #DomSub,
  #RanRes,
  #RanSub,
  #UpTo,
  #RelImage,
  #BUnion,
  #BInter,
  #BComp,
  #FComp,
  #Ovr,
  #LAnd,
  #Natural,
  #Natural1,
  #KPrj1Gen,
  #KPrj2Gen,
  #KIdGen,
  #BFalse,
  #Pow,
  #Pow1,
  #KUnion,
  #KDom,
  #KRan,
  #Converse,
  #QUnion,
}
use Rattle.frame.specs.Places.{Ctx}
use Rattle.frame.proofs.Inversion.{true_not}
use Rattle.typing.specs.Typing.{type_of}
use Rattle.rules.specs.Change.{Change, is_tag, with2, joined}
use Rattle.rules.specs.Negation.{is_empty}
use Rattle.rules.specs.EqualsEmptySet.{
  Single,
  single,
  none,
  sole_of,
  single_of,
  any_single,
  Singled,
  singled,
  none_singled,
  besides,
  or_next,
  first_single,
  inter_single,
  Minus,
  minus,
  whole,
  parts_of,
  minus_of,
  is_minus,
  minuend,
  with_subtrahend,
  any_minus,
  minuends,
  subtrahends,
  inter_empty,
  rewrite_equals_empty_set,
}
use Rattle.rules.specs.Equations
use Rattle.rules.specs.Equations.{Empties, Subtracted, over, ext, inters}
use Rattle.rules.proofs.Shapes.{
  Is,
  gives,
  nothing,
  or_else_lem,
  by_test,
  either,
  Ok,
  OkAll,
  on_many,
  on_two,
  on_one,
  on_bodied,
  is_leaf,
  is_many,
  is_two,
  is_typed_lem,
}

-- ---- joined lists
pub joined_many : (g : ℕ) (f : Tree → Tree) (ks : Forest) → 2 ≤ count ks → joined g (map_f f ks) ≡ many g (map_f f ks)
joined_many g f nil h = absurd (omega arith)
joined_many g f (cons a nil) h = absurd (omega arith)
joined_many g f (cons a (cons b ks)) h = refl

pub joined_over : (g : ℕ) (ks : Forest) → joined g ks ≡ over g ks
joined_over g nil = refl
joined_over g (cons a nil) = refl
joined_over g (cons a (cons b ks)) = refl

-- ---- A ∩ … ∩ {a} ∩ … ∩ B
abbrev SingleAt : Tree → Single → Type 0
SingleAt k (single a) = k ≡ ext (sole a)
SingleAt k none = Unit {0}

single_at : (σ : ℕ → Ty) (Γ : Ctx) (k : Tree) → Ok σ Γ k → SingleAt k (single_of k)
unfolding class_of lookup form_at
single_at σ Γ (node (head g n ts) ks) a = go (eqb g #SetExt) refl
  where
    sole_at : (t : Tree) (ks : Forest) → t ≡ ext ks → SingleAt t (sole_of ks)
    sole_at t nil e = tt
    sole_at t (cons x nil) e = e
    sole_at t (cons x (cons y ks)) e = tt

    go : (b : Bool) → eqb g #SetExt ≡ b → SingleAt (node (head g n ts) ks) (pick b (sole_of ks) none)
    go true h = let w = is_many #SetExt a h 1 refl in let q : ks ≡ w.0 = cc w.1 in sole_at (node (head g n ts) ks) ks (w.1 ∙ ap ext (sym q))
    go false h = tt

abbrev SingledIn : Forest → Singled → Type 0
SingledIn ks (singled a rest) = (left : Forest) × (right : Forest) × (ks ≡ append left (cons (ext (sole a)) right)) × (rest ≡ append left right)
SingledIn ks none_singled = Unit {0}

besides_in : (k : Tree) (ks : Forest) (s : Singled) → SingledIn ks s → SingledIn (cons k ks) (besides k s)
besides_in k ks (singled a rest) w = (cons k w.0, w.1, ap (cons k) w.2, ap (cons k) w.3)
besides_in k ks none_singled w = tt

next_in : (k : Tree) (ks : Forest) (s : Single) (next : Singled) → SingleAt k s → SingledIn ks next → SingledIn (cons k ks) (or_next s k ks next)
next_in k ks (single a) next h w = (nil, ks, ap (λ (x : Tree). cons x ks) h, refl)
next_in k ks none next h w = besides_in k ks next w

first_in : (σ : ℕ → Ty) (Γ : Ctx) (ks : Forest) → OkAll σ Γ ks → SingledIn ks (first_single ks)
unfolding first_single
first_in σ Γ nil a = tt
first_in σ Γ (cons k ks) a = next_in k ks (single_of k) (first_single ks) (single_at σ Γ k a.0) (first_in σ Γ ks a.1)

single_empties : (Γ : Ctx) (ks : Forest) (s : Singled) → SingledIn ks s → Is (λ p u. Empties Γ p (inters ks) u) (inter_single s)
single_empties Γ ks (singled a rest) w =
    by_test (eqb (count rest) 1 || not (any_single rest)) (λ h. gives
    (rw (joined_over #BInter rest, w.3) (Equations.SIMP_BINTER_SING_EQUAL_EMPTY a ks w.0 w.1 w.2)))
single_empties Γ ks none_singled w = nothing

-- ---- (A ∖ B) ∩ C ∩ (D ∖ E)
abbrev MinusAt : Tree → Minus → Type 0
MinusAt k (minus a b) = k ≡ two #SetMinus a b
MinusAt k (whole t) = (k ≡ t) × (tag_of t ≡ #SetMinus → ⊥)

minus_at : (σ : ℕ → Ty) (Γ : Ctx) (k : Tree) → Ok σ Γ k → MinusAt k (minus_of k)
unfolding class_of lookup form_at
minus_at σ Γ (node (head g n ts) ks) a = go (eqb g #SetMinus) refl
  where
    parts_at : (ks : Forest) (x y : Tree) → node (head g n ts) ks ≡ two #SetMinus x y
        → MinusAt (node (head g n ts) ks) (parts_of (node (head g n ts) ks) ks)
    parts_at nil x y e = let p : nil ≡ pair x y = cc in absurd (omega (arith, ap count p))
    parts_at (cons a nil) x y e = let p : sole a ≡ pair x y = cc in absurd (omega (arith, ap count p))
    parts_at (cons a (cons b nil)) x y e = let p : a ≡ x = cc in let q : b ≡ y = cc in rw (p, q) (rw (p, q) at e)
    parts_at (cons a (cons b (cons c ks))) x y e = let p : cons a (cons b (cons c ks)) ≡ pair x y = cc in absurd (omega (arith, ap count p))

    go : (b : Bool) → eqb g #SetMinus ≡ b
        → MinusAt (node (head g n ts) ks) (pick b (parts_of (node (head g n ts) ks) ks) (whole (node (head g n ts) ks)))
    go true h = let w = is_two #SetMinus a h refl in parts_at ks w.0 w.1 w.2
    go false h = (refl, λ e. true_not (sym h ∙ eq-eqb g #SetMinus e))

subtracted_in : (k : Tree) (ks : Forest) (m : Minus) → MinusAt k m → Subtracted ks (minuends ks) (subtrahends ks)
    → Subtracted (cons k ks) (cons (minuend m) (minuends ks)) (with_subtrahend m (subtrahends ks))
subtracted_in k ks (minus a b) e r = rw e (Subtracted.minus a b ks (minuends ks) (subtrahends ks) r)
subtracted_in k ks (whole t) e r = rw e.0 (Subtracted.other t ks (minuends ks) (subtrahends ks) e.1 r)

subtracted : (σ : ℕ → Ty) (Γ : Ctx) (ks : Forest) → OkAll σ Γ ks → Subtracted ks (minuends ks) (subtrahends ks)
unfolding minuends subtrahends
subtracted σ Γ nil a = Subtracted.none
subtracted σ Γ (cons k ks) a = subtracted_in k ks (minus_of k) (minus_at σ Γ k a.0) (subtracted σ Γ ks a.1)

some_subtrahend : (ks : Forest) → any_minus ks ≡ true → (b : Tree) × (ms : Forest) × (subtrahends ks ≡ cons b ms)
unfolding any_minus subtrahends
some_subtrahend nil h = true_not h
some_subtrahend (cons k ks) h = go (minus_of k) h (some_subtrahend ks)
  where
    go : (m : Minus) → (is_minus m || any_minus ks) ≡ true → (any_minus ks ≡ true → (b : Tree) × (ms : Forest) × (subtrahends ks ≡ cons b ms))
        → (b : Tree) × (ms : Forest) × (with_subtrahend m (subtrahends ks) ≡ cons b ms)
    go (minus a b) h r = (b, subtrahends ks, refl)
    go (whole t) h r = r h

minus_empties : (σ : ℕ → Ty) (Γ : Ctx) (ks : Forest) → OkAll σ Γ ks → any_minus ks ≡ true
    → Empties Γ 38 (inters ks) (two 111 (joined #BInter (minuends ks)) (joined #BUnion (subtrahends ks)))
minus_empties σ Γ ks a h =
    let w = some_subtrahend ks h in
    let s = rw w.2 at (subtracted σ Γ ks a) in
    rw (joined_over #BInter (minuends ks), joined_over #BUnion (subtrahends ks), w.2)
    (Equations.SIMP_BINTER_SETMINUS_EQUAL_EMPTY ks (minuends ks) w.0 w.1 s)

inter_empties : (σ : ℕ → Ty) (Γ : Ctx) (ks : Forest) → OkAll σ Γ ks → Is (λ p u. Empties Γ p (inters ks) u) (inter_empty ks)
unfolding inter_empty
inter_empties σ Γ ks a =
    or_else_lem (single_empties Γ ks (first_single ks) (first_in σ Γ ks a)) (by_test (any_minus ks) (λ h. gives (minus_empties σ Γ ks a h)))

-- ---- the others
of_two_lem : {R : ℕ → Tree → Type 0} (k : Tree → Tree → Change) (ks : Forest) → ((x y : Tree) → ks ≡ pair x y → Is R (k x y)) → Is R (with2 ks k)
of_two_lem k nil f = nothing
of_two_lem k (cons x nil) f = nothing
of_two_lem k (cons x (cons y nil)) f = f x y refl
of_two_lem k (cons x (cons y (cons z ks))) f = nothing

some_member : (ks : Forest) → 1 ≤ count ks → (k : Tree) × (rest : Forest) × (ks ≡ cons k rest)
some_member nil h = absurd (omega arith)
some_member (cons k rest) h = (k, rest, refl)

natural_empties : {σ : ℕ → Ty} {Γ : Ctx} {e : Tree} → Ok σ Γ e → (is_tag #Natural e || is_tag #Natural1 e) ≡ true → Empties Γ 60 e (leaf #BFalse)
unfolding class_of lookup form_at
natural_empties {e} a h =
    either (is_tag #Natural e) (is_tag #Natural1 e) h
    (λ i. rw (is_leaf #Natural a i refl) Equations.SIMP_NATURAL_EQUAL_EMPTY)
    (λ i. rw (is_leaf #Natural1 a i refl) Equations.SIMP_NATURAL1_EQUAL_EMPTY)

projection_empties : {σ : ℕ → Ty} {Γ : Ctx} {e : Tree} → Ok σ Γ e → (is_tag #KIdGen e || (is_tag #KPrj1Gen e || is_tag #KPrj2Gen e)) ≡ true
    → Empties Γ 61 e (leaf #BFalse)
unfolding class_of lookup form_at
projection_empties {e} a h =
    either (is_tag #KIdGen e) (is_tag #KPrj1Gen e || is_tag #KPrj2Gen e) h
    (λ i. let w = is_typed_lem #KIdGen a i refl in rw w.1 (Equations.SIMP_ID_EQUAL_EMPTY w.0))
    (λ j. either (is_tag #KPrj1Gen e) (is_tag #KPrj2Gen e) j
    (λ i. let w = is_typed_lem #KPrj1Gen a i refl in rw w.1 (Equations.SIMP_PRJ1_EQUAL_EMPTY w.0))
    (λ i. let w = is_typed_lem #KPrj2Gen a i refl in rw w.1 (Equations.SIMP_PRJ2_EQUAL_EMPTY w.0)))

pub empties : {σ : ℕ → Ty} {Γ : Ctx} {e : Tree} → Ok σ Γ e → Is (λ p u. Empties Γ p e u) (rewrite_equals_empty_set Γ e)
unfolding rewrite_equals_empty_set class_of lookup form_at type_of
empties {σ} {Γ} {e} a =
    or_else_lem (by_test (is_tag #SetExt e) (λ h.
    let w = is_many #SetExt a h 1 refl in
    let k = some_member w.0 w.2 in
    rw (w.1 ∙ ap ext k.2) (gives (Equations.SIMP_SETENUM_EQUAL_EMPTY k.0 k.1))))
    (or_else_lem (on_many _ #BInter a 2 refl (λ ks q m w. rw q (inter_empties σ Γ ks w)))
    (or_else_lem (on_many _ #BUnion a 2 refl (λ ks q m w. rw (joined_many #LAnd (is_empty Γ) ks m, q) (gives (Equations.SIMP_BUNION_EQUAL_EMPTY ks))))
    (or_else_lem (on_two _ #SetMinus a refl (λ x y q v w. rw q (gives (Equations.SIMP_SETMINUS_EQUAL_EMPTY x y))))
    (or_else_lem (on_two _ #CProd a refl (λ x y q v w. rw q (gives (Equations.SIMP_CPROD_EQUAL_EMPTY x y))))
    (or_else_lem (on_two _ #UpTo a refl (λ x y q v w. rw q (gives (Equations.SIMP_UPTO_EQUAL_EMPTY x y))))
    (or_else_lem (on_two _ #SRel a refl (λ x y q v w. rw q (gives (Equations.SIMP_SREL_EQUAL_EMPTY x y))))
    (or_else_lem (on_two _ #STRel a refl (λ x y q v w. rw q (gives (Equations.SIMP_STREL_EQUAL_EMPTY x y))))
    (or_else_lem (on_two _ #DomRes a refl (λ x y q v w. rw q (gives (Equations.SIMP_DOMRES_EQUAL_EMPTY x y))))
    (or_else_lem (on_two _ #DomSub a refl (λ x y q v w. rw q (gives (Equations.SIMP_DOMSUB_EQUAL_EMPTY x y))))
    (or_else_lem (on_two _ #RanRes a refl (λ x y q v w. rw q (gives (Equations.SIMP_RANRES_EQUAL_EMPTY x y))))
    (or_else_lem (on_two _ #RanSub a refl (λ x y q v w. rw q (gives (Equations.SIMP_RANSUB_EQUAL_EMPTY x y))))
    (or_else_lem (on_two _ #RelImage a refl (λ x y q v w. rw q (gives (Equations.SIMP_RELIMAGE_EQUAL_EMPTY x y))))
    (or_else_lem (on_two _ #DProd a refl (λ x y q v w. rw q (gives (Equations.SIMP_DPROD_EQUAL_EMPTY x y))))
    (or_else_lem (on_two _ #PProd a refl (λ x y q v w. rw q (gives (Equations.SIMP_PPROD_EQUAL_EMPTY x y))))
    (or_else_lem (on_one _ #Pow a refl (λ x q w. rw q (gives (Equations.SIMP_POW_EQUAL_EMPTY x))))
    (or_else_lem (on_one _ #Pow1 a refl (λ x q w. rw q (gives (Equations.SIMP_POW1_EQUAL_EMPTY x))))
    (or_else_lem (on_one _ #KUnion a refl (λ x q w. rw q (gives (Equations.SIMP_KUNION_EQUAL_EMPTY x))))
    (or_else_lem (on_one _ #KDom a refl (λ x q w. rw q (gives (Equations.SIMP_DOM_EQUAL_EMPTY x))))
    (or_else_lem (on_one _ #KRan a refl (λ x q w. rw q (gives (Equations.SIMP_RAN_EQUAL_EMPTY x))))
    (or_else_lem (on_one _ #Converse a refl (λ x q w. rw q (gives (Equations.SIMP_CONVERSE_EQUAL_EMPTY x))))
    (or_else_lem (on_many _ #FComp a 2 refl (λ ks q m w. of_two_lem _ ks
    (λ x y p. rw (q ∙ ap (many #FComp) p) (gives (Equations.SIMP_FCOMP_EQUAL_EMPTY x y)))))
    (or_else_lem (on_many _ #BComp a 2 refl (λ ks q m w. of_two_lem _ ks
    (λ x y p. rw (q ∙ ap (many #BComp) p) (gives (Equations.SIMP_BCOMP_EQUAL_EMPTY x y)))))
    (or_else_lem (on_many _ #Ovr a 2 refl (λ ks q m w. rw (joined_many #LAnd (is_empty Γ) ks m, q) (gives (Equations.SIMP_OVERL_EQUAL_EMPTY ks))))
    (or_else_lem (on_bodied _ #QUnion a refl (λ us x y q v w. rw q (gives (Equations.SIMP_QUNION_EQUAL_EMPTY us x y))))
    (or_else_lem (by_test (is_tag #Natural e || is_tag #Natural1 e) (λ h. gives (natural_empties a h)))
    (by_test (is_tag #KIdGen e || (is_tag #KPrj1Gen e || is_tag #KPrj2Gen e)) (λ h. gives (projection_empties a h))))))))))))))))))))))))))))
