-- `make_neg` (document 003), `simplify_assoc_pred` and `simplify_predicate_node` (document 002), in the source's order: "Source
-- decides on rule order and built tree; the Event-B Mathematical Language on meaning and typing."
use Rattle.std.specs.Prelude.{ℕ, Bool, not, ◌||◌, List, eqb}
use Rattle.frame.specs.Types.{Ty}
use Rattle.frame.specs.Trees.{head, Tree, node, Forest, nil, cons, count, leaf, one, two, many, quantified, append, map_f}
use Rattle.frame.specs.Tags.{pick}
use Rattle.frame.specs.Operators.{#LImp, #LEqv, #LAnd, #LOr, #BTrue, #BFalse, #Not, #Forall, #Exists}
use Rattle.frame.specs.Sameness.{same_tree}
use Rattle.rules.specs.Change.{Change, to, ◌or_else◌, when, is_tag, on_tag, unary, binary, quantifier, contains}

-- `is_literal`; what `literal` builds is `leaf`
abbrev pub is_literal : ℕ → Tree → Bool
is_literal g t = is_tag g t

abbrev pub sole_or : Tree → Forest → Tree
sole_or d nil = d
sole_or d (cons p nil) = p
sole_or d (cons p (cons q ks)) = d

-- `make_neg`: "Negate, removing an existing negation."
unfoldable pub make_neg : Tree → Tree
make_neg (node (head g n ts) ks) =
    let t = node (head g n ts) ks in pick (eqb g #Not) (sole_or (one #Not t) ks) (one #Not t)

-- ---- `simplify_assoc_pred`
-- what becomes of a child, given the children kept before it: it decides all where it is the determinant literal or meets its
-- opposite among them
pub data Verdict : Type 0 where
  drops keeps decides : Verdict

unfoldable pub verdict : ℕ → ℕ → Forest → Tree → Verdict
verdict neutral determinant out child =
    pick (is_literal neutral child) drops
    (pick (is_literal determinant child || contains (make_neg child) out) decides
    (pick (contains child out) drops keeps))

-- the children kept, or that one has decided all
pub data Kept : Type 0 where
  kept : Forest → Kept
  decided : Kept

abbrev pub after_verdict : Verdict → Tree → Forest → (Forest → Kept) → Kept
after_verdict drops child out go = go out
after_verdict keeps child out go = go (append out (cons child nil))
after_verdict decides child out go = decided

-- "leaves both loops once a child meets its opposite": where a child decides, those after it are not looked at. In the code
-- "`out.contains` becomes a search over kept children that leaves both loops once a child meets its opposite": "Outer loop over
-- children, inner over kept ones; a label leaves both with the determinant literal."
unfoldable pub scan : ℕ → ℕ → Forest → Forest → Kept
scan neutral determinant nil out = kept out
scan neutral determinant (cons child children) out =
    after_verdict (verdict neutral determinant out child) child out (λ o. scan neutral determinant children o)

-- g is the operator, n the number of children before. (The source also keeps a flag `changed`; it is set only where
-- the list gets shorter. Its parameter `do_multi` is true at both calls.)
abbrev pub finish : ℕ → ℕ → ℕ → ℕ → Kept → Change
finish g neutral determinant n decided = to 62 (leaf determinant)
finish g neutral determinant n (kept nil) = to 63 (leaf neutral)
finish g neutral determinant n (kept (cons a nil)) = to 64 a
finish g neutral determinant n (kept (cons a (cons b ks))) =
    when (not (eqb (count (cons a (cons b ks))) n)) (to 65 (many g (cons a (cons b ks))))

unfoldable pub simplify_assoc_pred : ℕ → ℕ → ℕ → Forest → Change
simplify_assoc_pred g neutral determinant children =
    finish g neutral determinant (count children) (scan neutral determinant children nil)

-- ---- `simplify_predicate_node`
abbrev pub simplify_imp : Tree → Tree → Change
simplify_imp left right =
    when (is_literal #BTrue left) (to 66 right)
    or_else when (is_literal #BFalse left) (to 67 (leaf #BTrue))
    or_else when (is_literal #BTrue right) (to 68 right)
    or_else when (is_literal #BFalse right) (to 69 (make_neg left))
    or_else when (same_tree left right) (to 70 (leaf #BTrue))
    or_else on_tag #LAnd left (λ ts children.
    when (contains right children) (to 71 (leaf #BTrue))
    or_else when (contains (make_neg right) children) (to 72 (make_neg left)))
    or_else unary #Not left (λ inner. when (same_tree inner right) (to 73 right))
    or_else unary #Not right (λ inner. when (same_tree inner left) (to 74 right))

abbrev pub simplify_eqv : Tree → Tree → Change
simplify_eqv left right =
    when (is_literal #BTrue right) (to 75 left)
    or_else when (is_literal #BTrue left) (to 76 right)
    or_else when (same_tree left right) (to 77 (leaf #BTrue))
    or_else when (is_literal #BFalse right) (to 78 (make_neg left))
    or_else when (is_literal #BFalse left) (to 79 (make_neg right))
    or_else unary #Not right (λ inner. when (same_tree inner left) (to 80 (leaf #BFalse)))
    or_else unary #Not left (λ inner. when (same_tree inner right) (to 81 (leaf #BFalse)))

abbrev pub simplify_not : Tree → Change
simplify_not inner =
    when (is_literal #BTrue inner) (to 82 (leaf #BFalse))
    or_else when (is_literal #BFalse inner) (to 83 (leaf #BTrue))
    or_else unary #Not inner (λ nested. to 84 nested)

abbrev pub simplify_forall : List Ty → Tree → Change
simplify_forall decls body = on_tag #LAnd body (λ ts children. to 85 (many #LAnd (map_f (quantified #Forall decls) children)))

abbrev pub simplify_exists : List Ty → Tree → Change
simplify_exists decls body =
    on_tag #LOr body (λ ts children. to 86 (many #LOr (map_f (quantified #Exists decls) children)))
    or_else binary #LImp body (λ left right. to 87 (two #LImp (quantified #Forall decls left) (quantified #Exists decls right)))

unfoldable pub simplify_predicate_node : Tree → Change
simplify_predicate_node t =
    on_tag #LAnd t (λ ts children. simplify_assoc_pred #LAnd #BTrue #BFalse children)
    or_else on_tag #LOr t (λ ts children. simplify_assoc_pred #LOr #BFalse #BTrue children)
    or_else binary #LImp t simplify_imp
    or_else binary #LEqv t simplify_eqv
    or_else unary #Not t simplify_not
    or_else quantifier #Forall t simplify_forall
    or_else quantifier #Exists t simplify_exists
