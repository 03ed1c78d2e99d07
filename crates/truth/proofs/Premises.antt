-- The premises of demand 3 at the trees that the equations build: single integers, no intersection over nothing.
-- Main results: many_single, leaf_single, one_single, two_single (any predicate without binders), bound_single (a quantifier),
-- many_alive, leaf_alive, one_alive, two_alive, bound_alive (any node that is no intersection), kids_single, kids_alive (the
-- operands); NAME-single, NAME-alive for empty (E = ∅), full (E = Ty) and type (a type's expression); single_type, no_int (the
-- integers premise at a tree's type).
use mathlib.Core.Path.{◌≡◌, refl, sym}
use mathlib.Core.Bool.{false}
use mathlib.Core.List.{List, []}
use lib.Dec.{eqb}
use Rattle.frame.specs.Types.{Ty, bool, int, given, pow, prod}
use Rattle.frame.specs.Trees.{head, Tree, node, Forest, nil, leaf, one, two, many, sole, pair}
use Rattle.frame.specs.Tags.{Layout, these, payload, counted, binding, binders_of, class_of, lookup, form_at, form_of}
use Rattle.frame.specs.Operators.{#Equal, #KInter, #QInter}
use Rattle.frame.specs.Places.{Ctx, push}
use Prim.Native.Nat.{ℕ}
use Rattle.typing.specs.Typing.{element, type_of}
use Rattle.typing.specs.TypeExpression.{to_expression}
use Rattle.typing.proofs.TypeExpression.{express_type}
use Rattle.rules.specs.Equations.{Ty_of, ◌≐∅, ◌≐Ty}
use Rattle.meaning.specs.Operations.{op_at, op_of}
use Rattle.meaning.specs.Meaning.{Interpretation}
use Rattle.meaning.specs.Premises.{
  NoInt,
  Single,
  AllNoInt,
  AllSingle,
  SingleIntegers,
  SingleIntegersIn,
  NoInterOverNothing,
  NoInterOverNothingIn,
}
use Rattle.truth.proofs.Sound.{Formula, formula_type, binders_agree}

-- ---- the integers premise at types
pub single_type : (t : Tree) (Γ : Ctx) → SingleIntegers t Γ → Single (type_of t Γ)
unfolding SingleIntegers
single_type (node (head g n us) ks) Γ s = s.1

pub single_element : (t : Ty) → Single t → NoInt (element t)
single_element bool s = tt
single_element int s = tt
single_element (given n) s = tt
single_element (pow t) s = s
single_element (prod t u) s = tt

pub no_int : (t : Tree) (Γ : Ctx) (u : Ty) → SingleIntegers t Γ → type_of t Γ ≡ pow u → NoInt u
no_int t Γ u s e = rw e at (single_type t Γ s)

-- ---- a type's expression
pub type_single : (t : Ty) (Γ : Ctx) → NoInt t → SingleIntegers (to_expression t) Γ
unfolding SingleIntegers type_of to_expression class_of lookup form_at
type_single bool Γ n = (tt, tt, tt, tt)
type_single int Γ n = absurd n
type_single (given k) Γ n = ((tt, tt), tt, tt, tt)
type_single (pow t) Γ n = (tt, rw (express_type t Γ) n, tt, (type_single t Γ n, tt))
type_single (prod t u) Γ n = (tt, rw (express_type t Γ, express_type u Γ) n, tt, (type_single t Γ n.0, (type_single u Γ n.1, tt)))

module _ (I : Interpretation) where
  pub type_alive : (t : Ty) (Γ : Ctx) → NoInterOverNothing I (to_expression t) Γ
  unfolding NoInterOverNothing to_expression op_of op_at class_of lookup
  type_alive bool Γ = (tt, tt, tt)
  type_alive int Γ = (tt, tt, tt)
  type_alive (given n) Γ = (tt, tt, tt)
  type_alive (pow t) Γ = (tt, tt, (type_alive t Γ, tt))
  type_alive (prod t u) Γ = (tt, tt, (type_alive t Γ, (type_alive u Γ, tt)))

-- ---- a node without types of its own, a predicate, by its tag and its operands
no_binders : (l : Layout) → binders_of l [] ≡ []
no_binders (these es) = refl
no_binders (payload w) = refl
no_binders (counted lo hi e) = refl
no_binders (binding lo hi es) = refl

pub node_single : (Γ : Ctx) (g : ℕ) (ks : Forest) → Single (type_of (many g ks) Γ) → SingleIntegersIn ks Γ → SingleIntegers (many g ks) Γ
unfolding SingleIntegers
node_single Γ g ks h s = rw (no_binders (form_of g).layout) (tt, h, tt, s)

module _ (I : Interpretation) (Γ : Ctx) (g : ℕ) (f : Formula (leaf g)) where
  pub many_single : (ks : Forest) → SingleIntegersIn ks Γ → SingleIntegers (many g ks) Γ
  many_single ks s = node_single Γ g ks (rw (formula_type I (many g ks) Γ f) tt) s

  pub leaf_single : SingleIntegers (leaf g) Γ
  unfolding SingleIntegers
  leaf_single = many_single nil tt

  pub one_single : (p : Tree) → SingleIntegers p Γ → SingleIntegers (one g p) Γ
  unfolding SingleIntegers
  one_single p s = many_single (sole p) (s, tt)

  pub two_single : (p q : Tree) → SingleIntegers p Γ → SingleIntegers q Γ → SingleIntegers (two g p q) Γ
  unfolding SingleIntegers
  two_single p q s r = many_single (pair p q) (s, (r, tt))

-- ---- a node that is no intersection, by its tag and its operands
abbrev pub NoInter : ℕ → Type 0
NoInter g = (eqb g #KInter ≡ false) × (eqb g #QInter ≡ false)

module _ (I : Interpretation) (Γ : Ctx) (g : ℕ) (f : NoInter g) where
  pub many_alive : (ks : Forest) → NoInterOverNothingIn I ks Γ → NoInterOverNothing I (many g ks) Γ
  unfolding NoInterOverNothing
  many_alive ks a = rw (f.0, f.1, sym (binders_agree I g []), no_binders (form_of g).layout) (tt, tt, a)

  pub leaf_alive : NoInterOverNothing I (leaf g) Γ
  unfolding NoInterOverNothing
  leaf_alive = many_alive nil tt

  pub one_alive : (p : Tree) → NoInterOverNothing I p Γ → NoInterOverNothing I (one g p) Γ
  unfolding NoInterOverNothing
  one_alive p a = many_alive (sole p) (a, tt)

  pub two_alive : (p q : Tree) → NoInterOverNothing I p Γ → NoInterOverNothing I q Γ → NoInterOverNothing I (two g p q) Γ
  unfolding NoInterOverNothing
  two_alive p q a b = many_alive (pair p q) (a, (b, tt))

-- ---- a quantifier
module _ (I : Interpretation) (Γ : Ctx) (g : ℕ) (f : Formula (leaf g)) (b : (us : List Ty) → binders_of (form_of g).layout us ≡ us)
    (xs : List Ty) (p : Tree) where
  pub bound_single : AllSingle xs → AllNoInt xs → SingleIntegers p (push xs Γ) → SingleIntegers (node (head g 0 xs) (sole p)) Γ
  unfolding SingleIntegers
  bound_single s n r = rw (formula_type I (node (head g 0 xs) (sole p)) Γ f, b xs) (s, tt, n, (r, tt))

  pub bound_alive : NoInter g → NoInterOverNothing I p (push xs Γ) → NoInterOverNothing I (node (head g 0 xs) (sole p)) Γ
  unfolding NoInterOverNothing
  bound_alive h a = rw (h.0, h.1, sym (binders_agree I g xs), b xs) (tt, tt, (a, tt))

-- ---- the operands of a node without types
module _ (I : Interpretation) (Γ : Ctx) (g : ℕ) (ks : Forest) where
  pub kids_single : SingleIntegers (many g ks) Γ → SingleIntegersIn ks Γ
  unfolding SingleIntegers
  kids_single s = rw (no_binders (form_of g).layout) at s.3

  pub kids_alive : NoInterOverNothing I (many g ks) Γ → NoInterOverNothingIn I ks Γ
  unfolding NoInterOverNothing
  kids_alive a = rw (sym (binders_agree I g []), no_binders (form_of g).layout) at a.2

-- ---- E = ∅, E = Ty
module _ (I : Interpretation) (Γ : Ctx) (e : Tree) where
  pub empty_single : SingleIntegers e Γ → SingleIntegers (◌≐∅ Γ e) Γ
  unfolding SingleIntegers type_of class_of lookup form_at
  empty_single s = (tt, tt, tt, (s, (((single_type e Γ s, tt), single_type e Γ s, tt, tt), tt)))

  pub empty_alive : NoInterOverNothing I e Γ → NoInterOverNothing I (◌≐∅ Γ e) Γ
  unfolding NoInterOverNothing op_of op_at class_of lookup
  empty_alive a = (tt, tt, (a, ((tt, tt, tt), tt)))

  pub full_single : SingleIntegers e Γ → SingleIntegers (◌≐Ty Γ e) Γ
  unfolding class_of lookup form_at
  full_single s = two_single I Γ #Equal (refl, refl) e (Ty_of Γ e) s
      (type_single (element (type_of e Γ)) Γ (single_element (type_of e Γ) (single_type e Γ s)))

  pub full_alive : NoInterOverNothing I e Γ → NoInterOverNothing I (◌≐Ty Γ e) Γ
  full_alive a = two_alive I Γ #Equal (refl, refl) e (Ty_of Γ e) a (type_alive I (element (type_of e Γ)) Γ)
