-- Which function a predicate node goes to (document 01, "The answer record"). "Taken: `simplify_predicate_node` (source document
-- 002), `rewrite_not`, `rewrite_finite`, `rewrite_partition`, `rewrite_equals_empty_set`, `rewrite_equals_type` (000)."
use Rattle.std.specs.Prelude.{Bool}
use Rattle.frame.specs.Trees.{Tree}
use Rattle.frame.specs.Tags.{pick}
use Rattle.frame.specs.Operators.{#Equal, #SubsetEq, #EmptySet, #Finite, #Partition}
use Rattle.frame.specs.Places.{Ctx}
use Rattle.frame.specs.Sameness.{same_tree}
use Rattle.rules.specs.Change.{Change, ◌or_else◌, when, is_tag, on_tag, unary, binary}
use Rattle.rules.specs.Simplify.{simplify_predicate_node}
use Rattle.rules.specs.Negation.{rewrite_not, rewrite_partition}
use Rattle.rules.specs.Finite.{rewrite_finite}
use Rattle.rules.specs.EqualsEmptySet.{rewrite_equals_empty_set}
use Rattle.rules.specs.EqualsType.{rewrite_equals_type, base_expression}

-- "Added by us: 101 or 111 with ∅ (407) on the right, else 101 with ∅ on the left, goes to the empty rules on the other side.": 101
abbrev pub empty_rules : Ctx → Tree → Tree → Change
empty_rules Γ left right =
    pick (is_tag #EmptySet right) (rewrite_equals_empty_set Γ left)
    (when (is_tag #EmptySet left) (rewrite_equals_empty_set Γ right))

-- "the right side the type expression of its own elements"
abbrev pub is_own_type : Ctx → Tree → Bool
is_own_type Γ e = same_tree e (base_expression Γ e)

-- "101 with the right side the type expression of its own elements goes to the type rules on the left, then the mirror of it."
abbrev pub type_rules : Ctx → Tree → Tree → Change
type_rules Γ left right =
    when (is_own_type Γ right) (rewrite_equals_type Γ left)
    or_else when (is_own_type Γ left) (rewrite_equals_type Γ right)

-- "Where that gives nothing, or neither side is ∅"
abbrev pub equal_rules : Ctx → Tree → Tree → Change
equal_rules Γ left right = empty_rules Γ left right or_else type_rules Γ left right

-- the same sentence: 111, with ∅ on the right. The type rules are for 101 alone.
abbrev pub subset_rules : Ctx → Tree → Tree → Change
subset_rules Γ left right = when (is_tag #EmptySet right) (rewrite_equals_empty_set Γ left)

-- The source's `AutoRewriter::predicate` (document 000), but that = and ⊆ go to the rules that document 01 adds.
-- "Dispatch by tag: 351, 352, 251, 252, 851, 852 logic; 701 logic, then negation; 620; 901."
-- "Left out: `batch2_relational`, `one_point`, the rest of `rewrite_relational`, the driver's walk, `Ascription`, `Application`,
-- `Extended`, predicate variables, parametric types."
-- "Should a place in the source build, for some operator, a tree that differs in truth from what it replaces in a frame and an
-- interpretation that demand 3 covers, its premise on integers included, that place is left out for that operator: it counts as
-- giving nothing there and dispatch goes on. docs/DIFFERENCES.md names each such place with a frame and an interpretation, and the
-- difference is proved; nothing else is left out on this ground." None is left out: `equation_keeps` (crates/truth/proofs/EquationKeeps.antt).
unfoldable pub dispatch : Ctx → Tree → Change
dispatch Γ t =
    simplify_predicate_node t
    or_else rewrite_not t
    or_else unary #Finite t (rewrite_finite Γ)
    or_else on_tag #Partition t (λ ts children. rewrite_partition Γ children)
    or_else binary #Equal t (equal_rules Γ)
    or_else binary #SubsetEq t (subset_rules Γ)
