-- Where two rules of the source would answer, the first one in its text does; what a rule asks for besides its shape; and where = and ⊆
-- go, which document 01 adds. By one evaluation of `dispatch`: each predicate with the rule that answers and the tree that it builds.
use Rattle.std.specs.Prelude.{◌≡◌, refl, List, [], ◌∷◌, map}
use Rattle.frame.specs.Types.{bool, pow}
use Rattle.frame.specs.Trees.{head, Tree, node, nil, leaf, one, two, many, typed, sole, pair, bodied}
use Rattle.frame.specs.Tags.{lookup, class_of, form_at}
use Rattle.frame.specs.Operators.{
  #FreeIdent,
  #BoundIdent,
  #SetExt,
  #Equal,
  #In,
  #SubsetEq,
  #Mapsto,
  #SetMinus,
  #BUnion,
  #BInter,
  #Bool,
  #True,
  #False,
  #EmptySet,
  #LImp,
  #LEqv,
  #LAnd,
  #BTrue,
  #BFalse,
  #Not,
  #Finite,
  #CSet,
}
use Rattle.frame.specs.Sameness.{same_ty, same_tys, same_tree}
use Rattle.typing.specs.Typing.{type_of}
use Rattle.typing.specs.TypeExpression.{to_expression}
use Rattle.rules.specs.Change.{Change, to, same, on_tag, contains}
use Rattle.rules.specs.Simplify.{make_neg, verdict, scan, simplify_assoc_pred, simplify_predicate_node}
use Rattle.rules.specs.Negation.{rewrite_not, rewrite_partition}
use Rattle.rules.specs.Finite.{uses, recovers, functional_check, rewrite_finite}
use Rattle.rules.specs.EqualsEmptySet.{any_single, first_single, any_minus, minuends, subtrahends, inter_empty, rewrite_equals_empty_set}
use Rattle.rules.specs.EqualsType.{rewrite_equals_type}
use Rattle.rules.specs.Dispatch.{dispatch}

data Case : Type 0 where
  case : Tree → Change → Case

abbrev ⊤ : Tree
⊤ = leaf #BTrue

abbrev ⊥ᵖ : Tree
⊥ᵖ = leaf #BFalse

-- S and T of type ℙ(BOOL)
abbrev S : Tree
S = node (head #FreeIdent 1 (pow bool ∷ [])) nil

abbrev T : Tree
T = node (head #FreeIdent 2 (pow bool ∷ [])) nil

-- ∅ of that type, and BOOL: the type expression of the elements of S
abbrev ∅ : Tree
∅ = typed #EmptySet (pow bool)

abbrev BOOL : Tree
BOOL = leaf #Bool

abbrev S∖T : Tree
S∖T = two #SetMinus S T

abbrev S∩T : Tree
S∩T = many #BInter (pair S T)

-- x, the nearest binder
abbrev x : Tree
x = node (head #BoundIdent 0 []) nil

-- finite({x · ⊤ ∣ e}), x of type BOOL
abbrev finite_of : Tree → Tree
finite_of e = one #Finite (bodied #CSet (bool ∷ []) ⊤ e)

cases : List Case
cases =
    -- ⊤ ⇒ ⊤: SIMP_SPECIAL_IMP_BTRUE_L, before _R and SIMP_MULTI_IMP
    case (two #LImp ⊤ ⊤) (to 66 ⊤)
    -- ⊥ ⇒ ⊥: SIMP_SPECIAL_IMP_BFALSE_L, before _R (¬⊥) and SIMP_MULTI_IMP
    ∷ case (two #LImp ⊥ᵖ ⊥ᵖ) (to 67 ⊤)
    -- ⊤ ⇔ ⊤: right before left, before SIMP_MULTI_EQV
    ∷ case (two #LEqv ⊤ ⊤) (to 75 ⊤)
    -- ⊥ ⇔ ⊥: SIMP_MULTI_EQV, before SIMP_SPECIAL_EQV_BFALSE (¬⊥)
    ∷ case (two #LEqv ⊥ᵖ ⊥ᵖ) (to 77 ⊤)
    -- ¬(TRUE = FALSE): the right side first
    ∷ case (one #Not (two #Equal (leaf #True) (leaf #False))) (to 20 (two #Equal (leaf #True) (leaf #True)))
    -- {TRUE} ∩ (S ∖ T) = ∅: the singleton before ∖
    ∷ case (two #Equal (many #BInter (pair (many #SetExt (sole (leaf #True))) S∖T)) ∅)
    (to 37 (one #Not (two #In (leaf #True) S∖T)))
    -- (S ∖ T) ∩ (T ∖ S) = ∅: both ∖ are moved
    ∷ case (two #Equal (many #BInter (pair S∖T (two #SetMinus T S))) ∅) (to 38 (two #SubsetEq S∩T (many #BUnion (pair T S))))
    -- S = T ∧ S = T: the repeat goes
    ∷ case (many #LAnd (pair (two #Equal S T) (two #Equal S T))) (to 64 (two #Equal S T))
    -- ⊤ ∧ ⊥: the absorbing child decides
    ∷ case (many #LAnd (pair ⊤ ⊥ᵖ)) (to 62 ⊥ᵖ)
    -- ¬⊤ ∧ ⊤: a neutral child goes before opposites are looked for
    ∷ case (many #LAnd (pair (one #Not ⊤) ⊤)) (to 64 (one #Not ⊤))
    -- ¬⊤ ⇒ ⊥: the negation that is built has the double negation removed
    ∷ case (two #LImp (one #Not ⊤) ⊥ᵖ) (to 69 ⊤)
    -- ⊥ ∧ ¬⊤ ⇒ ⊥: SIMP_SPECIAL_IMP_BFALSE_R, before SIMP_MULTI_IMP_AND
    ∷ case (two #LImp (many #LAnd (pair ⊥ᵖ (one #Not ⊤))) ⊥ᵖ) (to 69 (one #Not (many #LAnd (pair ⊥ᵖ (one #Not ⊤)))))
    -- finite({x · ⊤ ∣ x ↦ {x}}): x is a leaf of maplets on the left
    ∷ case (finite_of (two #Mapsto x (many #SetExt (sole x)))) (to 11 (finite_of x))
    -- finite({x · ⊤ ∣ {x} ↦ x}): there it is none
    ∷ case (finite_of (two #Mapsto (many #SetExt (sole x)) x)) same
    -- "101 or 111 with ∅ (407) on the right, else 101 with ∅ on the left, goes to the empty rules on the other side": S ∖ T = ∅, S ∖ T ⊆ ∅,
    -- ∅ = S ∖ T; not ∅ ⊆ S ∖ T
    ∷ case (two #Equal S∖T ∅) (to 40 (two #SubsetEq S T))
    ∷ case (two #SubsetEq S∖T ∅) (to 40 (two #SubsetEq S T))
    ∷ case (two #Equal ∅ S∖T) (to 40 (two #SubsetEq S T))
    ∷ case (two #SubsetEq ∅ S∖T) same
    -- ∅ = ∅, BOOL = ∅: no rule
    ∷ case (two #Equal ∅ ∅) same
    ∷ case (two #Equal BOOL ∅) same
    -- "101 with the right side the type expression of its own elements goes to the type rules on the left, then the mirror of it": S ∩ T = BOOL,
    -- BOOL = S ∩ T; not S ∩ T ⊆ BOOL
    ∷ case (two #Equal S∩T BOOL) (to 24 (many #LAnd (pair (two #Equal S BOOL) (two #Equal T BOOL))))
    ∷ case (two #Equal BOOL S∩T) (to 24 (many #LAnd (pair (two #Equal S BOOL) (two #Equal T BOOL))))
    ∷ case (two #SubsetEq S∩T BOOL) same
    ∷ []

abbrev predicate_in : Case → Tree
predicate_in (case t c) = t

abbrev expected : Case → Change
expected (case t c) = c

source_order : map (λ (c : Case). dispatch [] (predicate_in c)) cases ≡ map expected cases
unfolding lookup class_of form_at same_ty same_tys same_tree type_of to_expression on_tag contains make_neg verdict scan simplify_assoc_pred
    simplify_predicate_node rewrite_not rewrite_partition uses recovers functional_check rewrite_finite any_single first_single any_minus minuends
    subtrahends inter_empty rewrite_equals_empty_set rewrite_equals_type dispatch cases
source_order = refl
