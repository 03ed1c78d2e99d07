-- What a rule answers, and the shapes of trees that rules look for. Definitions carry the names of the source's functions in
-- camel case: `simplify_assoc_pred` is `simplify_assoc_pred`.
--
-- "Their answers are the reference, `None` being "unchanged"; they are private, so the oracle is a built copy that opens them."
-- The source's functions answer `None` or a tree. Here a tree comes with a rule number: the places in the source's text at which the
-- taken functions return a changed tree that they didn't get from another of them, from 1, in the order of the source documents and
-- their text (docs/RULES.md lists them). The numbering is ours; document 01 asks for none, and no answer shows it.
use Rattle.std.specs.Prelude.{ℕ, Bool, false, ◌||◌, List, eqb}
use Rattle.frame.specs.Types.{Ty}
use Rattle.frame.specs.Trees.{head, Tree, node, Forest, nil, cons, tag_of, many}
use Rattle.frame.specs.Tags.{pick}
use Rattle.frame.specs.Operators.{#KPrj1Gen, #KPrj2Gen, #KIdGen}
use Rattle.frame.specs.Sameness.{same_tree}

pub data Change : Type 0 where
  -- the rule number, and the tree that was built
  to : ℕ → Tree → Change
  -- no rule applies: "`None` being "unchanged""
  same : Change

-- the first of two that answers
infixr 20 ◌or_else◌
abbrev pub ◌or_else◌ : Change → Change → Change
to p u or_else d = to p u
same or_else d = d

abbrev pub when : Bool → Change → Change
when b c = pick b c same

-- `is_atomic` (document 000) and `is_literal` (document 002): the node has this tag
abbrev pub is_tag : ℕ → Tree → Bool
is_tag g t = eqb (tag_of t) g

-- id, prj1 or prj2: what the source asks for at places 12 and 61
abbrev pub is_id_or_projection : Tree → Bool
is_id_or_projection e = is_tag #KIdGen e || (is_tag #KPrj1Gen e || is_tag #KPrj2Gen e)

-- a tree of this tag: its types and its children are handed on
unfoldable pub on_tag : ℕ → Tree → (List Ty → Forest → Change) → Change
on_tag g (node (head h n ts) ks) k = pick (eqb h g) (k ts ks) same

abbrev pub with1 : Forest → (Tree → Change) → Change
with1 nil k = same
with1 (cons a nil) k = k a
with1 (cons a (cons b ks)) k = same

abbrev pub with2 : Forest → (Tree → Tree → Change) → Change
with2 nil k = same
with2 (cons a nil) k = same
with2 (cons a (cons b nil)) k = k a b
with2 (cons a (cons b (cons c ks))) k = same

-- a tree of this tag with one child, with two, with binders and one child, with binders and two
abbrev pub unary : ℕ → Tree → (Tree → Change) → Change
unary g t k = on_tag g t (λ ts ks. with1 ks k)

abbrev pub binary : ℕ → Tree → (Tree → Tree → Change) → Change
binary g t k = on_tag g t (λ ts ks. with2 ks k)

abbrev pub quantifier : ℕ → Tree → (List Ty → Tree → Change) → Change
quantifier g t k = on_tag g t (λ ts ks. with1 ks (k ts))

abbrev pub binder_set : ℕ → Tree → (List Ty → Tree → Tree → Change) → Change
binder_set g t k = on_tag g t (λ ts ks. with2 ks (k ts))

-- `contains`: a child is the same as t. In the code "`out.contains` becomes a search over kept children that leaves both loops
-- once a child meets its opposite."
unfoldable pub contains : Tree → Forest → Bool
contains t nil = false
contains t (cons k ks) = same_tree k t || contains t ks

-- `conj`, `disj`, the closure `make` of `rewrite_equals_empty_set` and the source's other ways to join a list: one is itself
abbrev pub joined : ℕ → Forest → Tree
joined g nil = many g nil
joined g (cons a nil) = a
joined g (cons a (cons b ks)) = many g (cons a (cons b ks))
