-- `rewrite_equals_type` (document 000), in the source's order: a set equated to the type expression of its elements.
use Rattle.frame.specs.Trees.{Tree, leaf, two, many, sole, pair, quantified, map_f}
use Rattle.frame.specs.Operators.{
  #SetExt,
  #Equal,
  #SetMinus,
  #CProd,
  #DProd,
  #PProd,
  #DomRes,
  #DomSub,
  #RanRes,
  #RanSub,
  #UpTo,
  #LImp,
  #BInter,
  #LAnd,
  #BFalse,
  #KInter,
  #Converse,
  #QInter,
  #Forall,
}
use Rattle.frame.specs.Places.{Ctx, push}
use Rattle.typing.specs.Typing.{type_of, element}
use Rattle.typing.specs.TypeExpression.{to_expression}
use Rattle.rules.specs.Change.{Change, to, ◌or_else◌, on_tag, unary, binary, binder_set, joined}
use Rattle.rules.specs.Negation.{is_empty}

-- `ty_base_expression`: "the element type of a set-typed expression, as an expression"
abbrev pub base_expression : Ctx → Tree → Tree
base_expression Γ e = to_expression (element (type_of e Γ))

-- `is_type`: E = the type expression of its elements
abbrev pub is_type : Ctx → Tree → Tree
is_type Γ e = two #Equal e (base_expression Γ e)

-- `conj` of two: with `is_type` of two operands, as with `is_type` of each child of ∩ (24), it is the closure `are_all_type`
abbrev pub both : Tree → Tree → Tree
both a b = joined #LAnd (pair a b)

-- `bfalse` builds the ⊥ of 27, `rel` what 33 answers
unfoldable pub rewrite_equals_type : Ctx → Tree → Change
rewrite_equals_type Γ expr =
    on_tag #BInter expr (λ ts children. to 24 (joined #LAnd (map_f (is_type Γ) children)))
    or_else binary #SetMinus expr (λ left right. to 25 (both (is_type Γ left) (is_empty Γ right)))
    or_else binary #CProd expr (λ left right. to 26 (both (is_type Γ left) (is_type Γ right)))
    or_else binary #UpTo expr (λ left right. to 27 (leaf #BFalse))
    or_else binary #DomRes expr (λ left right. to 28 (both (is_type Γ left) (is_type Γ right)))
    or_else binary #DomSub expr (λ left right. to 29 (both (is_empty Γ left) (is_type Γ right)))
    or_else binary #RanRes expr (λ left right. to 30 (both (is_type Γ right) (is_type Γ left)))
    or_else binary #RanSub expr (λ left right. to 31 (both (is_empty Γ right) (is_type Γ left)))
    or_else binary #DProd expr (λ left right. to 32 (both (is_type Γ left) (is_type Γ right)))
    or_else binary #PProd expr (λ left right. to 32 (both (is_type Γ left) (is_type Γ right)))
    or_else unary #KInter expr (λ child. to 33 (two #Equal child (many #SetExt (sole (base_expression Γ expr)))))
    or_else unary #Converse expr (λ child. to 34 (is_type Γ child))
    or_else binder_set #QInter expr (λ decls body value.
    to 35 (quantified #Forall decls (two #LImp body (is_type (push decls Γ) value))))
