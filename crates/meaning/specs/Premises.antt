-- The premises of demand 3, on the first tree alone (document 01, "Meaning").
use Rattle.std.proofs.Math.Bool.{So}
use Rattle.std.specs.Prelude.{List, [], ◌∷◌, eqb}
use Rattle.frame.specs.Types.{Ty, bool, int, given, pow, prod}
use Rattle.frame.specs.Trees.{head, Tree, node, Forest, nil, cons}
use Rattle.frame.specs.Tags.{pick, binders_of, form_of}
use Rattle.frame.specs.Operators.{#KInter, #QInter}
use Rattle.frame.specs.Places.{Ctx, push, under}
use Rattle.typing.specs.Typing.{element, ty, type_of, types_in}
use Rattle.meaning.specs.Lists.{any}
use Rattle.meaning.specs.Operations.{op_of}
use Rattle.meaning.specs.Meaning.{Interpretation, Vals, truth, kid, set_of, some, choices, binders_in, means_all}

-- ---- "Integers only as single numbers": "no type in the first tree, carried or derived, holds 01 inside another type, and
-- no binder has type 01"
-- `NoInt`: 01 stands nowhere in the type. `Single`: 01 stands nowhere inside another type
abbrev pub NoInt : Ty → Type 0
NoInt bool = Unit {0}
NoInt int = ⊥
NoInt (given n) = Unit {0}
NoInt (pow t) = NoInt t
NoInt (prod t u) = NoInt t × NoInt u

abbrev pub Single : Ty → Type 0
Single bool = Unit {0}
Single int = Unit {0}
Single (given n) = Unit {0}
Single (pow t) = NoInt t
Single (prod t u) = NoInt t × NoInt u

abbrev pub AllNoInt : List Ty → Type 0
AllNoInt [] = Unit {0}
AllNoInt (t ∷ ts) = NoInt t × AllNoInt ts

abbrev pub AllSingle : List Ty → Type 0
AllSingle [] = Unit {0}
AllSingle (t ∷ ts) = Single t × AllSingle ts

unfoldable mutual
  pub SingleIntegers : Tree → Ctx → Type 0
  SingleIntegers (node (head g n us) ks) Γ =
      AllSingle us × Single (type_of (node (head g n us) ks) Γ) × AllNoInt (binders_of (form_of g).layout us) × SingleIntegersIn ks (under g us Γ)

  pub SingleIntegersIn : Forest → Ctx → Type 0
  SingleIntegersIn nil Γ = Unit {0}
  SingleIntegersIn (cons t ts) Γ = SingleIntegers t Γ × SingleIntegersIn ts Γ

-- ---- "No intersection over nothing": "at each 755 and 802 of the first tree, for every choice of values of the binders
-- around that node, the operand of 755 has a member, and the predicate of 802 is true for some values of its own binders". 755 has no
-- binders of its own, so there Δ is Γ.
module _ (I : Interpretation) where
  unfoldable mutual
    pub NoInterOverNothing : Tree → Ctx → Type 0
    NoInterOverNothing (node (head g n us) ks) Γ =
        let bs = binders_in I (op_of g) us in
        let Δ = push bs Γ in
        let u = element (ty 0 (types_in ks Δ)) in
        pick {X = Type 0} (eqb g #KInter) ((ρ : Vals I Δ) → So (some I u (set_of I (kid I 0 (means_all I ks Δ)) ρ u))) (Unit {0})
        × pick {X = Type 0} (eqb g #QInter) ((ρ : Vals I Γ) → So (any (truth I (kid I 0 (means_all I ks Δ))) (choices I bs Γ ρ))) (Unit {0})
        × NoInterOverNothingIn ks Δ

    pub NoInterOverNothingIn : Forest → Ctx → Type 0
    NoInterOverNothingIn nil Γ = Unit {0}
    NoInterOverNothingIn (cons t ts) Γ = NoInterOverNothing t Γ × NoInterOverNothingIn ts Γ
