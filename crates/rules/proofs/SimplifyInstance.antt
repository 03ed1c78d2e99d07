-- Every answer of `simplify_predicate_node` is an instance of an equation.
-- Main results: simplify_instance.
use mathlib.Core.Path.{refl}
use mathlib.Core.List.{List}
use Prim.Native.Nat.{ℕ}
use Rattle.frame.specs.Types.{Ty}
use Rattle.frame.specs.Trees.{Tree, Forest, leaf, many}
use Rattle.frame.specs.Tags.{class_of, lookup, form_at}
use Rattle.frame.specs.Operators.{#LImp, #LEqv, #LAnd, #LOr, #BTrue, #BFalse, #Not, #Forall, #Exists}
use Rattle.frame.specs.Places.{Ctx, push}
use Rattle.frame.specs.Sameness.{same_tree}
use Rattle.frame.proofs.SameTrees.{same_tree_lem}
use Rattle.rules.specs.Change.{to, ◌or_else◌, when, is_tag, contains}
use Rattle.rules.specs.Simplify.{make_neg, simplify_imp, simplify_eqv, simplify_not, simplify_forall, simplify_exists, simplify_predicate_node}
use Rattle.rules.specs.Equations
use Rattle.rules.specs.Equations.{Equation, conjunction, disjunction, ◌⇒◌, ◌⇔◌, ¬ᵖ, ⋀, ∀ᵖ, ∃ᵖ}
use Rattle.rules.proofs.Shapes.{Is, gives, or_else_lem, by_test, Ok, on_many, on_two, on_one, on_binder, is_leaf}
use Rattle.rules.proofs.JunctionInstance.{make_opposite, contains_among, junction_instance}

-- P ∧ … ∧ Q ⇒ y
among_instance : {σ : ℕ → Ty} {Γ : Ctx} {y : Tree} (ks : Forest) → Ok σ Γ y
    → Is (λ p u. Equation Γ p (⋀ ks ⇒ y) u)
    (when (contains y ks) (to 71 (leaf #BTrue)) or_else when (contains (make_neg y) ks) (to 72 (make_neg (many #LAnd ks))))
unfolding make_neg
among_instance {y} ks w =
    or_else_lem (by_test (contains y ks) (λ h. gives (Equations.SIMP_MULTI_IMP_AND ks y (contains_among y ks h))))
    (by_test (contains (make_neg y) ks) (λ h. gives (Equations.SIMP_MULTI_IMP_AND_NOT_R/SIMP_MULTI_IMP_AND_NOT_L ks y (make_neg y) (make_opposite w)
    (contains_among (make_neg y) ks h))))

imp_instance : {σ : ℕ → Ty} {Γ : Ctx} {x y : Tree} → Ok σ Γ x → Ok σ Γ y → Is (λ p u. Equation Γ p (x ⇒ y) u) (simplify_imp x y)
unfolding class_of lookup form_at
imp_instance {x} {y} v w =
    or_else_lem (by_test (is_tag #BTrue x) (λ h. rw (is_leaf #BTrue v h refl) (gives (Equations.SIMP_SPECIAL_IMP_BTRUE_L y))))
    (or_else_lem (by_test (is_tag #BFalse x) (λ h. rw (is_leaf #BFalse v h refl) (gives (Equations.SIMP_SPECIAL_IMP_BFALSE_L y))))
    (or_else_lem (by_test (is_tag #BTrue y) (λ h. rw (is_leaf #BTrue w h refl) (gives (Equations.SIMP_SPECIAL_IMP_BTRUE_R x))))
    (or_else_lem (by_test (is_tag #BFalse y) (λ h. rw (is_leaf #BFalse w h refl)
    (gives (Equations.SIMP_SPECIAL_IMP_BFALSE_R x (make_neg x) (make_opposite v)))))
    (or_else_lem (by_test (same_tree x y) (λ h. rw (same_tree_lem x y h) (gives (Equations.SIMP_MULTI_IMP y))))
    (or_else_lem (on_many _ #LAnd v 2 refl (λ ks q m u. rw q (among_instance ks w)))
    (or_else_lem (on_one _ #Not v refl (λ z q u. rw q (by_test (same_tree z y) (λ h. rw (same_tree_lem z y h) (gives (Equations.SIMP_MULTI_IMP_NOT_L y))))))
    (on_one _ #Not w refl (λ z q u. rw q (by_test (same_tree z x) (λ h. rw (same_tree_lem z x h) (gives (Equations.SIMP_MULTI_IMP_NOT_R x))))))))))))

eqv_instance : {σ : ℕ → Ty} {Γ : Ctx} {x y : Tree} → Ok σ Γ x → Ok σ Γ y → Is (λ p u. Equation Γ p (x ⇔ y) u) (simplify_eqv x y)
unfolding class_of lookup form_at
eqv_instance {x} {y} v w =
    or_else_lem (by_test (is_tag #BTrue y) (λ h. rw (is_leaf #BTrue w h refl) (gives (Equations.SIMP_SPECIAL_EQV_BTRUE/right x))))
    (or_else_lem (by_test (is_tag #BTrue x) (λ h. rw (is_leaf #BTrue v h refl) (gives (Equations.SIMP_SPECIAL_EQV_BTRUE/left y))))
    (or_else_lem (by_test (same_tree x y) (λ h. rw (same_tree_lem x y h) (gives (Equations.SIMP_MULTI_EQV y))))
    (or_else_lem (by_test (is_tag #BFalse y) (λ h. rw (is_leaf #BFalse w h refl)
    (gives (Equations.SIMP_SPECIAL_EQV_BFALSE/right x (make_neg x) (make_opposite v)))))
    (or_else_lem (by_test (is_tag #BFalse x) (λ h. rw (is_leaf #BFalse v h refl)
    (gives (Equations.SIMP_SPECIAL_EQV_BFALSE/left y (make_neg y) (make_opposite w)))))
    (or_else_lem (on_one _ #Not w refl (λ z q u. rw q (by_test (same_tree z x)
    (λ h. rw (same_tree_lem z x h) (gives (Equations.SIMP_MULTI_EQV_NOT/right x))))))
    (on_one _ #Not v refl (λ z q u. rw q (by_test (same_tree z y) (λ h. rw (same_tree_lem z y h) (gives (Equations.SIMP_MULTI_EQV_NOT/left y)))))))))))

neg_instance : {σ : ℕ → Ty} {Γ : Ctx} {x : Tree} → Ok σ Γ x → Is (λ p u. Equation Γ p (¬ᵖ x) u) (simplify_not x)
unfolding class_of lookup form_at
neg_instance {x} v =
    or_else_lem (by_test (is_tag #BTrue x) (λ h. rw (is_leaf #BTrue v h refl) (gives Equations.SIMP_SPECIAL_NOT_BTRUE)))
    (or_else_lem (by_test (is_tag #BFalse x) (λ h. rw (is_leaf #BFalse v h refl) (gives Equations.SIMP_SPECIAL_NOT_BFALSE)))
    (on_one _ #Not v refl (λ z q u. rw q (gives (Equations.SIMP_NOT_NOT z)))))

forall_instance : {σ : ℕ → Ty} {Γ : Ctx} (us : List Ty) {x : Tree} → Ok σ (push us Γ) x → Is (λ p u. Equation Γ p (∀ᵖ us x) u) (simplify_forall us x)
unfolding class_of lookup form_at
forall_instance us v = on_many _ #LAnd v 2 refl (λ ks q m w. rw q (gives (Equations.SIMP_FORALL_AND us ks)))

exists_instance : {σ : ℕ → Ty} {Γ : Ctx} (us : List Ty) {x : Tree} → Ok σ (push us Γ) x → Is (λ p u. Equation Γ p (∃ᵖ us x) u) (simplify_exists us x)
unfolding class_of lookup form_at
exists_instance us v =
    or_else_lem (on_many _ #LOr v 2 refl (λ ks q m w. rw q (gives (Equations.SIMP_EXISTS_OR us ks))))
    (on_two _ #LImp v refl (λ y z q m w. rw q (gives (Equations.SIMP_EXISTS_IMP us y z))))

pub simplify_instance : {σ : ℕ → Ty} {Γ : Ctx} {t : Tree} → Ok σ Γ t → Is (λ p u. Equation Γ p t u) (simplify_predicate_node t)
unfolding simplify_predicate_node class_of lookup form_at
simplify_instance {σ} {Γ} {t} a =
    or_else_lem (on_many _ #LAnd a 2 refl (λ ks q m w. rw q (junction_instance σ Γ conjunction ks w)))
    (or_else_lem (on_many _ #LOr a 2 refl (λ ks q m w. rw q (junction_instance σ Γ disjunction ks w)))
    (or_else_lem (on_two _ #LImp a refl (λ x y q v w. rw q (imp_instance v w)))
    (or_else_lem (on_two _ #LEqv a refl (λ x y q v w. rw q (eqv_instance v w)))
    (or_else_lem (on_one _ #Not a refl (λ x q w. rw q (neg_instance w)))
    (or_else_lem (on_binder _ #Forall a refl (λ us x q w. rw q (forall_instance us w)))
    (on_binder _ #Exists a refl (λ us x q w. rw q (exists_instance us w))))))))
