-- Number 9 (document 01: "One identifier number has two types, or is the number of a given set in some type of the tree
-- and its type isn't the power of that set.").
use Rattle.std.specs.Prelude.{ℕ, Bool, true, not, ◌&&◌, ◌||◌, List, [], ◌∷◌, ◌++◌, eqb}
use Rattle.frame.specs.Types.{Ty, bool, int, given, pow, prod}
use Rattle.frame.specs.Trees.{head, Tree, node, Forest, nil, cons}
use Rattle.frame.specs.Tags.{pick}
use Rattle.frame.specs.Operators.{#FreeIdent}
use Rattle.frame.specs.Sameness.{same_ty}
use Rattle.typing.specs.Typing.{carried_ty}

-- an identifier's number and the type that it carries
pub data Named : Type 0 where
  named : ℕ → Ty → Named

-- the given sets in a type, in the types of a node
unfoldable pub givens_ty : Ty → List ℕ
givens_ty bool = []
givens_ty int = []
givens_ty (given n) = n ∷ []
givens_ty (pow t) = givens_ty t
givens_ty (prod t u) = givens_ty t ++ givens_ty u

unfoldable pub givens_tys : List Ty → List ℕ
givens_tys [] = []
givens_tys (t ∷ ts) = givens_ty t ++ givens_tys ts

abbrev pub ident_of : ℕ → ℕ → List Ty → List Named
ident_of g n us = pick (eqb g #FreeIdent) (named n (carried_ty us) ∷ []) []

-- the identifiers of a tree
unfoldable mutual
  pub idents : Tree → List Named
  idents (node (head g n us) ks) = ident_of g n us ++ idents_in ks

  pub idents_in : Forest → List Named
  idents_in nil = []
  idents_in (cons t ts) = idents t ++ idents_in ts

-- the given sets of all the types that nodes carry: identifiers', binders', and those of 407, 410, 411, 412. (Derived
-- types hold no others.)
unfoldable mutual
  pub givens : Tree → List ℕ
  givens (node (head g n us) ks) = givens_tys us ++ givens_in ks

  pub givens_in : Forest → List ℕ
  givens_in nil = []
  givens_in (cons t ts) = givens t ++ givens_in ts

-- "One identifier number has two types": it has not
unfoldable pub agrees : Named → List Named → Bool
agrees a [] = true
agrees (named n t) (named m u ∷ others) = (not (eqb n m) || same_ty t u) && agrees (named n t) others

-- "or is the number of a given set [..] and its type isn't the power of that set": if the identifier has a given set's number, its type is
-- that set's power
unfoldable pub agrees_with_givens : Named → List ℕ → Bool
agrees_with_givens a [] = true
agrees_with_givens (named n t) (m ∷ ms) = (not (eqb n m) || same_ty t (pow (given m))) && agrees_with_givens (named n t) ms

unfoldable pub consistent : List Named → List Named → List ℕ → Bool
consistent [] all ms = true
consistent (a ∷ bs) all ms = agrees a all && (agrees_with_givens a ms && consistent bs all ms)

unfoldable pub names_agree : Tree → Bool
names_agree t = consistent (idents t) (idents t) (givens t)
