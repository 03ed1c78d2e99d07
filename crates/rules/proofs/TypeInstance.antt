-- Every answer of `rewrite_equals_type` is an instance of an equation of `Fills`.
-- Main results: fills.
use Prim.Native.Nat.{ℕ}
use mathlib.Core.Path.{refl}
use Rattle.frame.specs.Types.{Ty}
use Rattle.frame.specs.Trees.{Tree}
use Rattle.frame.specs.Tags.{class_of, lookup, form_at}
use Rattle.frame.specs.Operators.{
  #SetMinus,
  #CProd,
  #DProd,
  #PProd,
  #DomRes,
  #DomSub,
  #RanRes,
  #RanSub,
  #UpTo,
  #BInter,
  #LAnd,
  #KInter,
  #Converse,
  #QInter,
}
use Rattle.frame.specs.Places.{Ctx}
use Rattle.typing.specs.Typing.{type_of}
use Rattle.rules.specs.EqualsType.{is_type, rewrite_equals_type}
use Rattle.rules.specs.Equations
use Rattle.rules.specs.Equations.{Fills}
use Rattle.rules.proofs.Shapes.{Is, gives, or_else_lem, Ok, on_many, on_two, on_one, on_bodied}
use Rattle.rules.proofs.EmptyInstance.{joined_many}

pub fills : {σ : ℕ → Ty} {Γ : Ctx} {e : Tree} → Ok σ Γ e → Is (λ p u. Fills Γ p e u) (rewrite_equals_type Γ e)
unfolding rewrite_equals_type class_of lookup form_at type_of
fills {σ} {Γ} {e} a =
    or_else_lem (on_many _ #BInter a 2 refl (λ ks q m w. rw (joined_many #LAnd (is_type Γ) ks m, q) (gives (Equations.SIMP_BINTER_EQUAL_TYPE ks))))
    (or_else_lem (on_two _ #SetMinus a refl (λ x y q v w. rw q (gives (Equations.SIMP_SETMINUS_EQUAL_TYPE x y))))
    (or_else_lem (on_two _ #CProd a refl (λ x y q v w. rw q (gives (Equations.SIMP_CPROD_EQUAL_TYPE x y))))
    (or_else_lem (on_two _ #UpTo a refl (λ x y q v w. rw q (gives (Equations.SIMP_UPTO_EQUAL_INTEGER x y))))
    (or_else_lem (on_two _ #DomRes a refl (λ x y q v w. rw q (gives (Equations.SIMP_DOMRES_EQUAL_TYPE x y))))
    (or_else_lem (on_two _ #DomSub a refl (λ x y q v w. rw q (gives (Equations.SIMP_DOMSUB_EQUAL_TYPE x y))))
    (or_else_lem (on_two _ #RanRes a refl (λ x y q v w. rw q (gives (Equations.SIMP_RANRES_EQUAL_TYPE x y))))
    (or_else_lem (on_two _ #RanSub a refl (λ x y q v w. rw q (gives (Equations.SIMP_RANSUB_EQUAL_TYPE x y))))
    (or_else_lem (on_two _ #DProd a refl (λ x y q v w. rw q (gives (Equations.SIMP_DPROD_EQUAL_TYPE x y))))
    (or_else_lem (on_two _ #PProd a refl (λ x y q v w. rw q (gives (Equations.SIMP_PPROD_EQUAL_TYPE x y))))
    (or_else_lem (on_one _ #KInter a refl (λ x q w. rw q (gives (Equations.SIMP_KINTER_EQUAL_TYPE x))))
    (or_else_lem (on_one _ #Converse a refl (λ x q w. rw q (gives (Equations.SIMP_CONVERSE_EQUAL_TYPE x))))
    (on_bodied _ #QInter a refl (λ us x y q v w. rw q (gives (Equations.SIMP_QINTER_EQUAL_TYPE us x y)))))))))))))))
