-- Whatever `dispatch` gives is an instance of an equation.
-- Main results: instance; instances (the same, of whatever is answered).
use mathlib.Core.Path.{◌≡◌, refl, sym, ap, ◌∙◌}
use mathlib.Core.Bool.{true}
use Prim.Native.Nat.{ℕ}
use Rattle.frame.specs.Types.{Ty}
use Rattle.frame.specs.Trees.{Tree}
use Rattle.frame.specs.Tags.{predicate, class_of, lookup, form_at}
use Rattle.frame.specs.Operators.{#Equal, #SubsetEq, #EmptySet, #Finite, #Partition}
use Rattle.frame.specs.Places.{Ctx}
use Rattle.frame.proofs.SameTrees.{same_tree_lem}
use Rattle.typing.specs.Typing.{type_of, element}
use Rattle.typing.specs.TypeExpression.{to_expression}
use Rattle.typing.specs.Accepted.{Accepted}
use Rattle.rules.specs.Change.{to, is_tag}
use Rattle.rules.specs.EqualsType.{base_expression}
use Rattle.rules.specs.Dispatch.{empty_rules, is_own_type, type_rules, equal_rules, subset_rules, dispatch}
use Rattle.rules.specs.Equations.{Equation, equal_type, equal_empty, is-∅, in-∅, ∅-is, is_Ty, Ty_is, ◌≐◌, ◌⊆◌, Ty_of}
use Rattle.rules.proofs.Shapes.{Is, given_by, or_else_lem, by_test, by_pick, is_map, Ok, on_many, on_two, on_one, is_typed_lem}
use Rattle.rules.proofs.EmptyInstance.{empties}
use Rattle.rules.proofs.TypeInstance.{fills}
use Rattle.rules.proofs.NotFiniteInstance.{not_instance, finite_instance, partition_instance}
use Rattle.rules.proofs.SimplifyInstance.{simplify_instance}

module _ {σ : ℕ → Ty} {Γ : Ctx} {x y : Tree} where
  -- the sides of an equality have one type
  pub equal_types : Ok σ Γ (x ≐ y) → type_of x Γ ≡ type_of y Γ
  unfolding Accepted type_of class_of lookup form_at
  equal_types a = let e = a.ok.fits in cc

  -- ---- E = ∅, E ⊆ ∅, ∅ = E
  empty_instance : Ok σ Γ x → Ok σ Γ y → Is (λ p u. Equation Γ p (x ≐ y) u) (empty_rules Γ x y)
  unfolding class_of lookup form_at
  empty_instance v w =
      by_pick (is_tag #EmptySet y)
      (λ h. let z = is_typed_lem #EmptySet w h refl in rw z.1 (is_map (λ p u r. equal_empty (is-∅ x z.0) r) (empties v)))
      (λ n. by_test (is_tag #EmptySet x)
      (λ h. let z = is_typed_lem #EmptySet v h refl in rw z.1 (is_map (λ p u r. equal_empty (∅-is y z.0) r) (empties w))))

  subset_instance : Ok σ Γ x → Ok σ Γ y → Is (λ p u. Equation Γ p (x ⊆ y) u) (subset_rules Γ x y)
  unfolding class_of lookup form_at
  subset_instance v w =
      by_test (is_tag #EmptySet y)
      (λ h. let z = is_typed_lem #EmptySet w h refl in rw z.1 (is_map (λ p u r. equal_empty (in-∅ x z.0) r) (empties v)))

-- ---- E = Ty, Ty = E
-- a side that is the type expression of its own elements is that of the other side's elements
own_type : (Γ : Ctx) (x y : Tree) → type_of x Γ ≡ type_of y Γ → is_own_type Γ y ≡ true → y ≡ Ty_of Γ x
own_type Γ x y e h = same_tree_lem y (base_expression Γ y) h ∙ ap (λ (t : Ty). to_expression (element t)) (sym e)

module _ {σ : ℕ → Ty} {Γ : Ctx} {x y : Tree} where
  type_instance : type_of x Γ ≡ type_of y Γ → Ok σ Γ x → Ok σ Γ y → Is (λ p u. Equation Γ p (x ≐ y) u) (type_rules Γ x y)
  type_instance e v w =
      or_else_lem (by_test (is_own_type Γ y) (λ h. rw (own_type Γ x y e h) (is_map (λ p u r. equal_type (is_Ty x) r) (fills v))))
      (by_test (is_own_type Γ x) (λ h. rw (own_type Γ y x (sym e) h) (is_map (λ p u r. equal_type (Ty_is y) r) (fills w))))

  equal_instance : type_of x Γ ≡ type_of y Γ → Ok σ Γ x → Ok σ Γ y → Is (λ p u. Equation Γ p (x ≐ y) u) (equal_rules Γ x y)
  equal_instance e v w = or_else_lem (empty_instance v w) (type_instance e v w)

pub instances : {σ : ℕ → Ty} {Γ : Ctx} {t : Tree} → Ok σ Γ t → Is (λ p u. Equation Γ p t u) (dispatch Γ t)
unfolding dispatch class_of lookup form_at
instances a =
    or_else_lem (simplify_instance a)
    (or_else_lem (not_instance a)
    (or_else_lem (on_one _ #Finite a refl (λ x q w. rw q (finite_instance w)))
    (or_else_lem (on_many _ #Partition a 1 refl (λ ks q m w. partition_instance ks q))
    (or_else_lem (on_two _ #Equal a refl (λ x y q v w. rw q (equal_instance (equal_types (rw q at a)) v w)))
    (on_two _ #SubsetEq a refl (λ x y q v w. rw q (subset_instance v w)))))))

pub instance : (σ : ℕ → Ty) (Γ : Ctx) (t : Tree) (rule : ℕ) (u : Tree) → Accepted σ t Γ predicate → dispatch Γ t ≡ to rule u → Equation Γ rule t u
instance σ Γ t rule u a e = given_by (rw e at (instances {t = t} (record { sort = predicate; ok = a })))
