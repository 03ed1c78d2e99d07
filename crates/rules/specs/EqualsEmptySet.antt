-- `rewrite_equals_empty_set` (document 000), in the source's order: a set equated to ∅.
use Rattle.std.specs.Prelude.{Bool, true, false, not, ◌||◌, eqb}
use Rattle.frame.specs.Trees.{head, Tree, node, Forest, nil, cons, count, leaf, one, two, many, typed, sole, pair, quantified, map_f}
use Rattle.frame.specs.Tags.{pick}
use Rattle.frame.specs.Operators.{
  #SetExt,
  #In,
  #Gt,
  #SubsetEq,
  #SRel,
  #STRel,
  #SetMinus,
  #CProd,
  #DProd,
  #PProd,
  #DomRes,
  #DomSub,
  #RanRes,
  #RanSub,
  #UpTo,
  #RelImage,
  #LImp,
  #LEqv,
  #BUnion,
  #BInter,
  #BComp,
  #FComp,
  #Ovr,
  #LAnd,
  #LOr,
  #Natural,
  #Natural1,
  #EmptySet,
  #BFalse,
  #Not,
  #Pow,
  #Pow1,
  #KUnion,
  #KDom,
  #KRan,
  #Converse,
  #QUnion,
  #Forall,
}
use Rattle.frame.specs.Places.{Ctx, push}
use Rattle.typing.specs.Typing.{type_of}
use Rattle.rules.specs.Change.{Change, to, same, ◌or_else◌, when, is_tag, is_id_or_projection, on_tag, unary, binary, binder_set, joined}
use Rattle.rules.specs.Negation.{is_empty}

-- `is_not_empty`
abbrev pub is_not_empty : Ctx → Tree → Tree
is_not_empty Γ e = one #Not (is_empty Γ e)

-- ---- A ∩ … ∩ B = ∅
-- the member of a set extension that has just one
pub data Single : Type 0 where
  single : Tree → Single
  none : Single

abbrev pub sole_of : Forest → Single
sole_of nil = none
sole_of (cons a nil) = single a
sole_of (cons a (cons b ks)) = none

abbrev pub single_of : Tree → Single
single_of (node (head g n ts) ks) = pick (eqb g #SetExt) (sole_of ks) none

abbrev pub is_single : Single → Bool
is_single (single a) = true
is_single none = false

unfoldable pub any_single : Forest → Bool
any_single nil = false
any_single (cons k ks) = is_single (single_of k) || any_single ks

-- the member of the first singleton, and the other operands
pub data Singled : Type 0 where
  singled : Tree → Forest → Singled
  none_singled : Singled

abbrev pub besides : Tree → Singled → Singled
besides k (singled a rest) = singled a (cons k rest)
besides k none_singled = none_singled

abbrev pub or_next : Single → Tree → Forest → Singled → Singled
or_next (single a) k ks next = singled a ks
or_next none k ks next = besides k next

unfoldable pub first_single : Forest → Singled
first_single nil = none_singled
first_single (cons k ks) = or_next (single_of k) k ks (first_single ks)

-- "if rest.len() == 1 || !more_singletons"
abbrev pub inter_single : Singled → Change
inter_single (singled a rest) =
    when (eqb (count rest) 1 || not (any_single rest)) (to 37 (one #Not (two #In a (joined #BInter rest))))
inter_single none_singled = same

-- (A ∖ B) ∩ C ∩ (D ∖ E): the operands A, C, D, and B, E
pub data Minus : Type 0 where
  minus : Tree → Tree → Minus
  whole : Tree → Minus

abbrev pub parts_of : Tree → Forest → Minus
parts_of t nil = whole t
parts_of t (cons a nil) = whole t
parts_of t (cons a (cons b nil)) = minus a b
parts_of t (cons a (cons b (cons c ks))) = whole t

abbrev pub minus_of : Tree → Minus
minus_of (node (head g n ts) ks) = let t = node (head g n ts) ks in pick (eqb g #SetMinus) (parts_of t ks) (whole t)

abbrev pub is_minus : Minus → Bool
is_minus (minus a b) = true
is_minus (whole t) = false

abbrev pub minuend : Minus → Tree
minuend (minus a b) = a
minuend (whole t) = t

abbrev pub with_subtrahend : Minus → Forest → Forest
with_subtrahend (minus a b) bs = cons b bs
with_subtrahend (whole t) bs = bs

unfoldable pub any_minus : Forest → Bool
any_minus nil = false
any_minus (cons k ks) = is_minus (minus_of k) || any_minus ks

unfoldable pub minuends : Forest → Forest
minuends nil = nil
minuends (cons k ks) = cons (minuend (minus_of k)) (minuends ks)

unfoldable pub subtrahends : Forest → Forest
subtrahends nil = nil
subtrahends (cons k ks) = with_subtrahend (minus_of k) (subtrahends ks)

-- 37 is built by `not` of `rel`; 38 by `rel`, with the closure `make` on either side
unfoldable pub inter_empty : Forest → Change
inter_empty children =
    inter_single (first_single children)
    or_else when (any_minus children)
    (to 38 (two #SubsetEq (joined #BInter (minuends children)) (joined #BUnion (subtrahends children))))

-- ---- the others
abbrev pub inter : Tree → Tree → Tree
inter a b = many #BInter (pair a b)

-- "A surjective relation set (204) is empty when A = ∅ and B ≠ ∅, not the reverse.": rule 43.
-- "BComp p, q tests ran(q) ∩ dom(p); FComp tests ran(p) ∩ dom(q).": places 57 and 56.
-- `rel` builds what 40, 42, 46, 48 and 54 answer, `bfalse` the ⊥ of 36, 52, 60 and 61.
unfoldable pub rewrite_equals_empty_set : Ctx → Tree → Change
rewrite_equals_empty_set Γ expr =
    when (is_tag #SetExt expr) (to 36 (leaf #BFalse))
    or_else on_tag #BInter expr (λ ts children. inter_empty children)
    or_else on_tag #BUnion expr (λ ts children. to 39 (joined #LAnd (map_f (is_empty Γ) children)))
    or_else binary #SetMinus expr (λ left right. to 40 (two #SubsetEq left right))
    or_else binary #CProd expr (λ left right. to 41 (joined #LOr (pair (is_empty Γ left) (is_empty Γ right))))
    or_else binary #UpTo expr (λ left right. to 42 (two #Gt left right))
    or_else binary #SRel expr (λ left right. to 43 (joined #LAnd (pair (is_empty Γ left) (is_not_empty Γ right))))
    or_else binary #STRel expr (λ left right. to 44 (two #LEqv (is_empty Γ left) (is_not_empty Γ right)))
    or_else binary #DomRes expr (λ left right. to 45 (is_empty Γ (inter (one #KDom right) left)))
    or_else binary #DomSub expr (λ left right. to 46 (two #SubsetEq (one #KDom right) left))
    or_else binary #RanRes expr (λ left right. to 47 (is_empty Γ (inter (one #KRan left) right)))
    or_else binary #RanSub expr (λ left right. to 48 (two #SubsetEq (one #KRan left) right))
    or_else binary #RelImage expr (λ left right. to 49 (is_empty Γ (two #DomRes right left)))
    or_else binary #DProd expr (λ left right. to 50 (is_empty Γ (inter (one #KDom left) (one #KDom right))))
    or_else binary #PProd expr (λ left right. to 51 (joined #LOr (pair (is_empty Γ left) (is_empty Γ right))))
    or_else unary #Pow expr (λ child. to 52 (leaf #BFalse))
    or_else unary #Pow1 expr (λ child. to 53 (is_empty Γ child))
    or_else unary #KUnion expr (λ child. to 54 (two #SubsetEq child (many #SetExt (sole (typed #EmptySet (type_of expr Γ))))))
    or_else unary #KDom expr (λ child. to 55 (is_empty Γ child))
    or_else unary #KRan expr (λ child. to 55 (is_empty Γ child))
    or_else unary #Converse expr (λ child. to 55 (is_empty Γ child))
    or_else binary #FComp expr (λ p q. to 56 (is_empty Γ (inter (one #KRan p) (one #KDom q))))
    or_else binary #BComp expr (λ p q. to 57 (is_empty Γ (inter (one #KRan q) (one #KDom p))))
    or_else on_tag #Ovr expr (λ ts children. to 58 (joined #LAnd (map_f (is_empty Γ) children)))
    or_else binder_set #QUnion expr (λ decls body value.
    to 59 (quantified #Forall decls (two #LImp body (is_empty (push decls Γ) value))))
    or_else when (is_tag #Natural expr || is_tag #Natural1 expr) (to 60 (leaf #BFalse))
    or_else when (is_id_or_projection expr) (to 61 (leaf #BFalse))
