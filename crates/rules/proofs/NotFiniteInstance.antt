-- Every answer of `rewrite_not`, `rewrite_finite` and `rewrite_partition` is an instance of an equation.
-- Main results: not_instance, finite_instance, partition_instance.
use mathlib.Core.Path.{◌≡◌, refl}
use mathlib.Core.Bool.{Bool, true, false, not, ◌||◌}
use mathlib.Core.List.{List}
use Prim.Native.Nat.{ℕ, zero, suc, ◌<◌}
use native.Mathlib.Omega.{arith}
use lib.ListN.{length}
use lib.Dec.{eqb}
use borrow.Author.Tests.{eqb-true, eqb-false}
use Rattle.frame.specs.Types.{Ty}
use Rattle.frame.specs.Trees.{Tree, Forest, nil, cons, leaf, two, many, bodied}
use Rattle.frame.specs.Tags.{class_of, lookup, form_at}
use Rattle.frame.specs.Operators.{
  #SetExt,
  #Equal,
  #Lt,
  #Le,
  #Gt,
  #Ge,
  #Mapsto,
  #CProd,
  #DomRes,
  #UpTo,
  #BUnion,
  #Integer,
  #Natural,
  #Natural1,
  #Bool,
  #True,
  #False,
  #EmptySet,
  #KPrj1Gen,
  #KPrj2Gen,
  #KIdGen,
  #BFalse,
  #Not,
  #Pow,
  #Converse,
  #CSet,
  #Partition,
}
use Rattle.frame.specs.Places.{Ctx, push}
use Rattle.frame.proofs.Booleans.{both_true, or_then}
use Rattle.typing.specs.Typing.{source, first, second}
use Rattle.rules.specs.Change.{to, ◌or_else◌, when, is_tag, is_id_or_projection}
use Rattle.rules.specs.Negation.{rewrite_not_inner, rewrite_not, rewrite_partition}
use Rattle.rules.specs.Finite.{uses, recovers, functional_check, finite_lambda, rewrite_finite}
use Rattle.rules.specs.Equations
use Rattle.rules.specs.Equations.{Equation, fin, ¬ᵖ, ◌≐◌}
use Rattle.rules.proofs.Recovery.{occurs_used, recovered_leaf}
use Rattle.rules.proofs.Shapes.{
  Is,
  gives,
  nothing,
  or_else_lem,
  by_test,
  either,
  Ok,
  on_many,
  on_two,
  on_one,
  on_typed,
  on_bodied,
  is_leaf,
  is_many,
  is_two,
  is_typed_lem,
}

-- ---- ¬
not_equal : {σ : ℕ → Ty} {Γ : Ctx} {x y : Tree} → Ok σ Γ x → Ok σ Γ y
    → Is (λ p u. Equation Γ p (¬ᵖ (x ≐ y)) u)
    (when (is_tag #False y) (to 20 (two #Equal x (leaf #True)))
    or_else when (is_tag #True y) (to 21 (two #Equal x (leaf #False)))
    or_else when (is_tag #False x) (to 22 (two #Equal (leaf #True) y))
    or_else when (is_tag #True x) (to 23 (two #Equal (leaf #False) y)))
unfolding class_of lookup form_at
not_equal {σ} {Γ} {x} {y} v w =
    or_else_lem (by_test (is_tag #False y) (λ h. rw (is_leaf #False w h refl) (gives (Equations.SIMP_SPECIAL_NOT_EQUAL_FALSE_R x))))
    (or_else_lem (by_test (is_tag #True y) (λ h. rw (is_leaf #True w h refl) (gives (Equations.SIMP_SPECIAL_NOT_EQUAL_TRUE_R x))))
    (or_else_lem (by_test (is_tag #False x) (λ h. rw (is_leaf #False v h refl) (gives (Equations.SIMP_SPECIAL_NOT_EQUAL_FALSE_L y))))
    (by_test (is_tag #True x) (λ h. rw (is_leaf #True v h refl) (gives (Equations.SIMP_SPECIAL_NOT_EQUAL_TRUE_L y))))))

inner_instance : {σ : ℕ → Ty} {Γ : Ctx} {t e : Tree} → Ok σ Γ e → t ≡ ¬ᵖ e → Is (λ p u. Equation Γ p t u) (rewrite_not_inner e)
unfolding class_of lookup form_at
inner_instance {σ} {Γ} {t} {e} a r =
    or_else_lem (on_two _ #Le a refl (λ x y q v w. rw (r, q) (gives (Equations.SIMP_NOT_LE x y))))
    (or_else_lem (on_two _ #Ge a refl (λ x y q v w. rw (r, q) (gives (Equations.SIMP_NOT_GE x y))))
    (or_else_lem (on_two _ #Gt a refl (λ x y q v w. rw (r, q) (gives (Equations.SIMP_NOT_GT x y))))
    (or_else_lem (on_two _ #Lt a refl (λ x y q v w. rw (r, q) (gives (Equations.SIMP_NOT_LT x y))))
    (on_two _ #Equal a refl (λ x y q v w. rw (r, q) (not_equal v w))))))

pub not_instance : {σ : ℕ → Ty} {Γ : Ctx} {t : Tree} → Ok σ Γ t → Is (λ p u. Equation Γ p t u) (rewrite_not t)
unfolding rewrite_not class_of lookup form_at
not_instance a = on_one _ #Not a refl (λ x q w. inner_instance w q)

-- ---- partition
pub partition_instance : {Γ : Ctx} {t : Tree} (ks : Forest) → t ≡ many #Partition ks → Is (λ p u. Equation Γ p t u) (rewrite_partition Γ ks)
unfolding rewrite_partition
partition_instance nil q = nothing
partition_instance (cons x nil) q = rw q (gives (Equations.SIMP_EMPTY_PARTITION x))
partition_instance (cons x (cons y nil)) q = rw q (gives (Equations.SIMP_SINGLE_PARTITION x y))
partition_instance (cons x (cons y (cons z ks))) q = nothing

-- ---- finite
finite_numbers : {σ : ℕ → Ty} {Γ : Ctx} {e : Tree} → Ok σ Γ e → (is_tag #Natural e || (is_tag #Natural1 e || is_tag #Integer e)) ≡ true
    → Equation Γ 2 (fin e) (leaf #BFalse)
unfolding class_of lookup form_at
finite_numbers {e} a h =
    either (is_tag #Natural e) (is_tag #Natural1 e || is_tag #Integer e) h
    (λ i. rw (is_leaf #Natural a i refl) Equations.SIMP_FINITE_NATURAL)
    (λ j. either (is_tag #Natural1 e) (is_tag #Integer e) j
    (λ i. rw (is_leaf #Natural1 a i refl) Equations.SIMP_FINITE_NATURAL1)
    (λ i. rw (is_leaf #Integer a i refl) Equations.SIMP_FINITE_INTEGER))

finite_domres : {σ : ℕ → Ty} {Γ : Ctx} (x : Tree) {e : Tree} → Ok σ Γ e → is_id_or_projection e ≡ true → Equation Γ 12 (fin (two #DomRes x e)) (fin x)
unfolding class_of lookup form_at
finite_domres x {e} a h =
    either (is_tag #KIdGen e) (is_tag #KPrj1Gen e || is_tag #KPrj2Gen e) h
    (λ i. let w = is_typed_lem #KIdGen a i refl in rw w.1 (Equations.SIMP_FINITE_ID_DOMRES x w.0))
    (λ j. either (is_tag #KPrj1Gen e) (is_tag #KPrj2Gen e) j
    (λ i. let w = is_typed_lem #KPrj1Gen a i refl in rw w.1 (Equations.SIMP_FINITE_PRJ1_DOMRES x w.0))
    (λ i. let w = is_typed_lem #KPrj2Gen a i refl in rw w.1 (Equations.SIMP_FINITE_PRJ2_DOMRES x w.0)))

-- each binder that the right side uses is recovered from the left
checked : (l r : Tree) (n : ℕ) → functional_check l r n ≡ true → (i : ℕ) → i < n → uses r i ≡ true → recovers l i ≡ true
unfolding functional_check
checked l r zero h i k e = absurd (omega arith)
checked l r (suc n) h i k e =
    let b = both_true (not (uses r n) || recovers l n) (functional_check l r n) h in
    go (eqb i n) refl b.0 (checked l r n b.1 i)
  where
    go : (c : Bool) → eqb i n ≡ c → (not (uses r n) || recovers l n) ≡ true → (i < n → uses r i ≡ true → recovers l i ≡ true) → recovers l i ≡ true
    go true q d f = let j : i ≡ n = eqb-true i n q in rw j (or_then (uses r n) (recovers l n) d (rw j at e))
    go false q d f = f (omega (arith, eqb-false i n q)) e

finite_lambda_lem : {σ : ℕ → Ty} {Γ : Ctx} (us : List Ty) (x : Tree) {e : Tree} → Ok σ (push us Γ) e
    → Is (λ p u. Equation Γ p (fin (bodied #CSet us x e)) u) (finite_lambda us x e)
unfolding class_of lookup form_at
finite_lambda_lem us x {e} a = on_two _ #Mapsto a refl (λ l r q v w. rw q (by_test (functional_check l r (length us))
    (λ h. gives (Equations.SIMP_FINITE_LAMBDA us x l r (λ i k o. recovered_leaf l i (checked l r (length us) h i k (occurs_used o)))))))

pub finite_instance : {σ : ℕ → Ty} {Γ : Ctx} {e : Tree} → Ok σ Γ e → Is (λ p u. Equation Γ p (fin e) u) (rewrite_finite Γ e)
unfolding rewrite_finite class_of lookup form_at
finite_instance {σ} {Γ} {e} a =
    or_else_lem (by_test (is_tag #EmptySet e) (λ h. let w = is_typed_lem #EmptySet a h refl in rw w.1 (gives (Equations.SIMP_SPECIAL_FINITE w.0))))
    (or_else_lem (by_test (is_tag #Natural e || (is_tag #Natural1 e || is_tag #Integer e)) (λ h. gives (finite_numbers a h)))
    (or_else_lem (by_test (is_tag #Bool e) (λ h. rw (is_leaf #Bool a h refl) (gives Equations.SIMP_FINITE_BOOL)))
    (or_else_lem (on_typed _ #KIdGen a refl (λ u q s. rw (q, s) (gives (Equations.SIMP_FINITE_ID (source u)))))
    (or_else_lem (by_test (is_tag #SetExt e) (λ h. let w = is_many #SetExt a h 1 refl in rw w.1 (gives (Equations.SIMP_FINITE_SETENUM w.0))))
    (or_else_lem (on_many _ #BUnion a 2 refl (λ ks q m w. rw q (gives (Equations.SIMP_FINITE_BUNION ks))))
    (or_else_lem (on_one _ #Pow a refl (λ x q w. rw q (gives (Equations.SIMP_FINITE_POW x))))
    (or_else_lem (on_two _ #CProd a refl (λ x y q v w. rw q (gives (Equations.DERIV_FINITE_CPROD x y))))
    (or_else_lem (on_one _ #Converse a refl (λ x q w. rw q (gives (Equations.SIMP_FINITE_CONVERSE x))))
    (or_else_lem (by_test (is_tag #UpTo e) (λ h. let w = is_two #UpTo a h refl in rw w.2 (gives (Equations.SIMP_FINITE_UPTO w.0 w.1))))
    (or_else_lem (on_bodied _ #CSet a refl (λ us x y q v w. rw q (finite_lambda_lem us x w)))
    (or_else_lem (on_two _ #DomRes a refl (λ x y q v w. rw q (by_test (is_id_or_projection y) (λ h. gives (finite_domres x w h)))))
    (or_else_lem (on_typed _ #KPrj1Gen a refl (λ u q s. rw (q, s) (gives (Equations.SIMP_FINITE_PRJ1 (first (source u)) (second (source u))))))
    (on_typed _ #KPrj2Gen a refl (λ u q s. rw (q, s) (gives (Equations.SIMP_FINITE_PRJ2 (first (source u)) (second (source u))))))))))))))))))
