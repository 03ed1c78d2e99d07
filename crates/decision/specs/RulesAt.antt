-- The rules that are decided by places, at the trees whose tags they look at first.
use Rattle.std.specs.Prelude.{ℕ, List, [], ◌∷◌}
use Rattle.frame.specs.Trees.{Tree, leaf, two}
use Rattle.frame.specs.Sameness.{same_tree}
use Rattle.frame.specs.Operators.{
  #Equal,
  #SRel,
  #STRel,
  #SetMinus,
  #CProd,
  #DProd,
  #PProd,
  #DomRes,
  #DomSub,
  #RanRes,
  #RanSub,
  #UpTo,
  #RelImage,
  #BInter,
  #BComp,
  #FComp,
  #QUnion,
  #Not,
  #Finite,
  #Partition,
  #SubsetEq,
  #Forall,
  #Exists,
  #BTrue,
  #BFalse,
  #LAnd,
}
use Rattle.frame.specs.Places.{Ctx}
use Rattle.rules.specs.Change.{Change, to, ◌or_else◌, when, is_tag, is_id_or_projection, on_tag, unary, binary, quantifier, contains}
use Rattle.rules.specs.Simplify.{make_neg, simplify_forall, simplify_exists}
use Rattle.rules.specs.Negation.{rewrite_not, rewrite_not_inner, rewrite_partition}
use Rattle.rules.specs.Finite.{finite, rewrite_finite}
use Rattle.rules.specs.EqualsType.{rewrite_equals_type}
use Rattle.rules.specs.Dispatch.{is_own_type, equal_rules, subset_rules}

-- what dispatch asks where logic gives nothing
abbrev pub after_logic : Ctx → Tree → Change
after_logic Γ t =
    rewrite_not t
    or_else unary #Finite t (rewrite_finite Γ)
    or_else on_tag #Partition t (λ ts children. rewrite_partition Γ children)
    or_else binary #Equal t (equal_rules Γ)
    or_else binary #SubsetEq t (subset_rules Γ)

-- ¬ a = b
abbrev pub unequal : Tree → Tree → Change
unequal a b = rewrite_not_inner (two #Equal a b)

-- a set equated to ∅: the tags at which code looks for more than the tag. The last that is tested comes first.
abbrev pub looked_up : List ℕ
looked_up =
    #QUnion ∷ #BComp ∷ #FComp ∷ #PProd ∷ #DProd ∷ #RelImage ∷ #RanSub ∷ #RanRes ∷ #DomSub ∷ #DomRes ∷ #STRel ∷ #SRel ∷ #UpTo ∷ #CProd
    ∷ #SetMinus ∷ #BInter ∷ []

-- finite(a ◁ b)
abbrev pub finite_restricted : Tree → Tree → Change
finite_restricted a b = when (is_id_or_projection b) (to 12 (finite a))

-- partition(S, …)
abbrev pub partition_of : Ctx → Tree → Change
partition_of Γ v = on_tag #Partition v (λ ts children. rewrite_partition Γ children)

-- ∀, ∃
abbrev pub forall_of : Ctx → Tree → Change
forall_of Γ v = quantifier #Forall v simplify_forall

abbrev pub exists_of : Ctx → Tree → Change
exists_of Γ v = quantifier #Exists v simplify_exists

-- left ⇒ right: the first tests of simplify_imp, and the last; between them it looks among the operands of ∧ on the left
abbrev pub imp_first : Tree → Tree → Change
imp_first left right =
    when (is_tag #BTrue left) (to 66 right)
    or_else when (is_tag #BFalse left) (to 67 (leaf #BTrue))
    or_else when (is_tag #BTrue right) (to 68 right)
    or_else when (is_tag #BFalse right) (to 69 (make_neg left))
    or_else when (same_tree left right) (to 70 (leaf #BTrue))

abbrev pub imp_last : Tree → Tree → Change
imp_last left right =
    unary #Not left (λ inner. when (same_tree inner right) (to 73 right))
    or_else unary #Not right (λ inner. when (same_tree inner left) (to 74 right))

abbrev pub imp_and : Tree → Tree → Change
imp_and left right =
    on_tag #LAnd left (λ ts children.
    when (contains right children) (to 71 (leaf #BTrue))
    or_else when (contains (make_neg right) children) (to 72 (make_neg left)))

-- v = w, where w is the type expression of its own elements
abbrev pub type_right : Ctx → Tree → Tree → Change
type_right Γ v w = when (is_own_type Γ w) (rewrite_equals_type Γ v)
