-- `rewrite_finite` and `functional_check` (document 000), in the source's order.
use Rattle.std.specs.Prelude.{ℕ, zero, suc, ◌+◌, Bool, true, false, not, ◌&&◌, ◌||◌, List, length, eqb}
use Rattle.frame.specs.Types.{Ty}
use Rattle.frame.specs.Trees.{head, Tree, node, Forest, nil, cons, leaf, one, many, pair, bodied, map_f}
use Rattle.frame.specs.Tags.{form_of, binders_of}
use Rattle.frame.specs.Operators.{
  #BoundIdent,
  #SetExt,
  #Mapsto,
  #CProd,
  #DomRes,
  #UpTo,
  #BUnion,
  #LAnd,
  #LOr,
  #Integer,
  #Natural,
  #Natural1,
  #Bool,
  #EmptySet,
  #KPrj1Gen,
  #KPrj2Gen,
  #KIdGen,
  #BTrue,
  #BFalse,
  #Finite,
  #Pow,
  #Converse,
  #CSet,
}
use Rattle.frame.specs.Places.{Ctx}
use Rattle.typing.specs.Typing.{carried_ty, source}
use Rattle.typing.specs.TypeExpression.{to_expression}
use Rattle.rules.specs.Change.{Change, to, ◌or_else◌, when, is_tag, is_id_or_projection, on_tag, unary, binary, binder_set}
use Rattle.rules.specs.Negation.{is_empty}

-- `finite`
abbrev pub finite : Tree → Tree
finite e = one #Finite e

-- ---- `functional_check`
-- the binder with index i, seen from t, stands in t (`dangling_bound_indices`)
unfoldable mutual
  pub uses : Tree → ℕ → Bool
  uses (node (head g n ts) ks) i = (eqb g #BoundIdent && eqb n i) || uses_in ks (i + length (binders_of (form_of g).layout ts))

  pub uses_in : Forest → ℕ → Bool
  uses_in nil i = false
  uses_in (cons t ts) i = uses t i || uses_in ts i

-- it is a leaf of maplets: "reached through maplet operators only" (`clear_pattern_occurrences`)
unfoldable mutual
  pub recovers : Tree → ℕ → Bool
  recovers (node (head g n ts) ks) i = (eqb g #BoundIdent && eqb n i) || (eqb g #Mapsto && recovers_in ks i)

  pub recovers_in : Forest → ℕ → Bool
  recovers_in nil i = false
  recovers_in (cons t ts) i = recovers t i || recovers_in ts i

-- "every locally bound identifier the maplet's right side uses must occur in the left side at a pattern position"
-- "In the finite-set-of-pairs rule, a binder of the right side counts as recovered only if it is a leaf of maplets on the left."
unfoldable pub functional_check : Tree → Tree → ℕ → Bool
functional_check left right zero = true
functional_check left right (suc i) = (not (uses right i) || recovers left i) && functional_check left right i

-- ---- `rewrite_finite`
-- finite({x·P ∣ E ↦ F})
abbrev pub finite_lambda : List Ty → Tree → Tree → Change
finite_lambda decls body value =
    binary #Mapsto value (λ left right.
    when (functional_check left right (length decls)) (to 11 (finite (bodied #CSet decls body left))))

-- the type carried by id, prj1, prj2 is ℙ(s × _): finite of s
abbrev pub finite_source : ℕ → List Ty → Change
finite_source rule ts = to rule (finite (to_expression (source (carried_ty ts))))

-- "finite(A × B) is A = ∅ or B = ∅ or both finite, in that nesting.": rule 8. `btrue` and `bfalse` build the ⊤ and ⊥ of 1 to 3,
-- 5 and 10.
unfoldable pub rewrite_finite : Ctx → Tree → Change
rewrite_finite Γ child =
    when (is_tag #EmptySet child) (to 1 (leaf #BTrue))
    or_else when (is_tag #Natural child || (is_tag #Natural1 child || is_tag #Integer child)) (to 2 (leaf #BFalse))
    or_else when (is_tag #Bool child) (to 3 (leaf #BTrue))
    or_else on_tag #KIdGen child (λ ts ks. finite_source 4 ts)
    or_else when (is_tag #SetExt child) (to 5 (leaf #BTrue))
    or_else on_tag #BUnion child (λ ts children. to 6 (many #LAnd (map_f finite children)))
    or_else unary #Pow child (λ inner. to 7 (finite inner))
    or_else binary #CProd child (λ left right.
    to 8 (many #LOr (cons (is_empty Γ left) (pair (is_empty Γ right) (many #LAnd (pair (finite left) (finite right)))))))
    or_else unary #Converse child (λ inner. to 9 (finite inner))
    or_else when (is_tag #UpTo child) (to 10 (leaf #BTrue))
    or_else binder_set #CSet child finite_lambda
    or_else binary #DomRes child (λ left right. when (is_id_or_projection right) (to 12 (finite left)))
    or_else on_tag #KPrj1Gen child (λ ts ks. finite_source 13 ts)
    or_else on_tag #KPrj2Gen child (λ ts ks. finite_source 13 ts)
