-- Which trees are the type expression of their own elements: by their nodes alone, whatever their type is.
-- Main results: own_bool, own_int, own_ident, own_pow, own_times, own_other.
use mathlib.Core.Path.{◌≡◌, refl, sym, ap, ◌∙◌}
use mathlib.Core.Bool.{Bool, true, false, ◌&&◌, and-true}
use mathlib.Core.List.{[], ◌∷◌}
use Prim.Native.Nat.{ℕ}
use native.Mathlib.Omega.{arith}
use lib.Dec.{eqb}
use borrow.Author.Tests.{eq-eqb, ne_eqb, eqb-true, eqb-false}
use Rattle.frame.specs.Types.{Ty, bool, int, given, pow, prod}
use Rattle.frame.specs.Trees.{head, Tree, node, nil, tag_of, leaf, one, two}
use Rattle.frame.specs.Tags.{lookup, class_of, form_at}
use Rattle.frame.specs.Places.{Ctx}
use Rattle.frame.specs.Sameness.{same_ty, same_tys, same_tree}
use Rattle.frame.proofs.SameTrees.{same_tree_lem}
use Rattle.typing.specs.Typing.{element, type_of}
use Rattle.typing.specs.TypeExpression.{to_expression}
use Rattle.typing.proofs.TypeExpression.{express_type}
use Rattle.rules.specs.Dispatch.{is_own_type}

-- a tree whose type is no power is no type expression
no_power : (a : Tree) (Γ : Ctx) (x : Ty) → ((u : Ty) → type_of a Γ ≡ pow u → ⊥) → same_tree a (to_expression x) ≡ false
no_power a Γ x h = go (same_tree a (to_expression x)) refl
  where
    go : (b : Bool) → same_tree a (to_expression x) ≡ b → b ≡ false
    go true e = absurd (h x (ap (λ (y : Tree). type_of y Γ) (same_tree_lem a (to_expression x) e) ∙ express_type x Γ))
    go false e = refl

pub own_bool : (Γ : Ctx) → is_own_type Γ (leaf 404) ≡ true
unfolding same_tree same_tys to_expression type_of class_of lookup form_at
own_bool Γ = refl

pub own_int : (Γ : Ctx) → is_own_type Γ (leaf 401) ≡ true
unfolding same_tree same_tys to_expression type_of class_of lookup form_at
own_int Γ = refl

-- an identifier is, whose type is the power of the given set of its number
pub own_ident : (n : ℕ) (u : Ty) (Γ : Ctx) → is_own_type Γ (node (head 1 n (u ∷ [])) nil) ≡ same_ty u (pow (given n))
unfolding same_tree same_tys same_ty to_expression type_of class_of lookup form_at
own_ident n bool Γ = refl
own_ident n int Γ = refl
own_ident n (given m) Γ = refl
own_ident n (prod t u) Γ = refl
own_ident n (pow bool) Γ = refl
own_ident n (pow int) Γ = refl
own_ident n (pow (pow t)) Γ = refl
own_ident n (pow (prod t u)) Γ = refl
own_ident n (pow (given m)) Γ = go (eqb n m) refl
  where
    go : (b : Bool) → eqb n m ≡ b → (b && ((eqb m m && true) && true)) ≡ eqb m n
    go true e = rw (eqb-true n m e, eq-eqb m m refl)
    go false e = sym (ne_eqb m n (λ z. eqb-false n m e (sym z)))

-- a power is, whose operand is
pub own_pow : (a : Tree) (Γ : Ctx) → is_own_type Γ (one 752 a) ≡ is_own_type Γ a
unfolding same_tree same_tys to_expression type_of class_of lookup form_at
own_pow a Γ = go (type_of a Γ) refl
  where
    go : (t : Ty) → type_of a Γ ≡ t → same_tree (one 752 a) (to_expression t) ≡ same_tree a (to_expression (element t))
    go bool e = sym (no_power a Γ bool (λ u z. let y : ◌≡◌ {A = ℕ} 0 1 = cc in omega arith))
    go int e = sym (no_power a Γ bool (λ u z. let y : ◌≡◌ {A = ℕ} 0 1 = cc in omega arith))
    go (given n) e = sym (no_power a Γ bool (λ u z. let y : ◌≡◌ {A = ℕ} 0 1 = cc in omega arith))
    go (prod t u) e = sym (no_power a Γ bool (λ u z. let y : ◌≡◌ {A = ℕ} 0 1 = cc in omega arith))
    go (pow t) e = and-true (same_tree a (to_expression t))

-- a product is, of two that are
pub own_times : (a b : Tree) (Γ : Ctx) → is_own_type Γ (two 214 a b) ≡ (is_own_type Γ a && is_own_type Γ b)
unfolding same_tree same_tys to_expression type_of class_of lookup form_at
own_times a b Γ = ap (λ (x : Bool). is_own_type Γ a && x) (and-true (is_own_type Γ b))

-- no other tree is
pub own_other : (v : Tree) (Γ : Ctx) → (tag_of v ≡ 404 → ⊥) → (tag_of v ≡ 401 → ⊥) → (tag_of v ≡ 1 → ⊥) → (tag_of v ≡ 752 → ⊥) → (tag_of v ≡ 214 → ⊥)
    → is_own_type Γ v ≡ false
unfolding same_tree to_expression
own_other (node (head g n us) ks) Γ b i c p q = go (element (type_of (node (head g n us) ks) Γ))
  where
    go : (t : Ty) → same_tree (node (head g n us) ks) (to_expression t) ≡ false
    go bool = rw (ne_eqb g 404 b)
    go int = rw (ne_eqb g 401 i)
    go (given m) = rw (ne_eqb g 1 c)
    go (pow t) = rw (ne_eqb g 752 p)
    go (prod t u) = rw (ne_eqb g 214 q)
