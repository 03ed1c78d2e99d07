-- `is_empty`, `rewrite_partition` and `rewrite_not` (document 000), in the source's order.
use Rattle.frame.specs.Trees.{Tree, Forest, nil, cons, leaf, two, typed}
use Rattle.frame.specs.Operators.{#Equal, #Lt, #Le, #Gt, #Ge, #True, #False, #EmptySet, #Not}
use Rattle.frame.specs.Places.{Ctx}
use Rattle.typing.specs.Typing.{type_of}
use Rattle.rules.specs.Change.{Change, to, same, ◌or_else◌, when, is_tag, unary, binary}

-- `is_empty`: "`E = ∅` with the empty set typed like `E`"
abbrev pub is_empty : Ctx → Tree → Tree
is_empty Γ e = two #Equal e (typed #EmptySet (type_of e Γ))

unfoldable pub rewrite_partition : Ctx → Forest → Change
rewrite_partition Γ nil = same
rewrite_partition Γ (cons single nil) = to 14 (is_empty Γ single)
rewrite_partition Γ (cons left (cons right nil)) = to 15 (two #Equal left right)
rewrite_partition Γ (cons left (cons right (cons third ks))) = same

-- "¬(a ≤ b) is a > b." The closure `flip` builds what 16 to 19 answer; `bool_atom` builds the TRUE and FALSE of 20 to 23, and
-- `is_atomic` is `is_tag`.
abbrev pub rewrite_not_inner : Tree → Change
rewrite_not_inner inner =
    binary #Le inner (λ left right. to 16 (two #Gt left right))
    or_else binary #Ge inner (λ left right. to 17 (two #Lt left right))
    or_else binary #Gt inner (λ left right. to 18 (two #Le left right))
    or_else binary #Lt inner (λ left right. to 19 (two #Ge left right))
    or_else binary #Equal inner (λ left right.
    when (is_tag #False right) (to 20 (two #Equal left (leaf #True)))
    or_else when (is_tag #True right) (to 21 (two #Equal left (leaf #False)))
    or_else when (is_tag #False left) (to 22 (two #Equal (leaf #True) right))
    or_else when (is_tag #True left) (to 23 (two #Equal (leaf #False) right)))

unfoldable pub rewrite_not : Tree → Change
rewrite_not t = unary #Not t rewrite_not_inner
