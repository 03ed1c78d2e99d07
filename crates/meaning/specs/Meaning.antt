-- The value of an expression and the truth of a predicate in an interpretation (document 01, "Meaning", and the Event-B
-- Mathematical Language for each operator that a taken rule names): "Source decides on rule order and built tree; the Event-B
-- Mathematical Language on meaning and typing."
use Rattle.std.specs.Prelude.{Bool, true, false, not, ◌&&◌, ◌||◌, ℕ, zero, suc, ◌-◌, ◌^◌, ℤ, pos, negsuc, eqb, leb, ltb}
use Rattle.std.specs.Bool.{beq}
use mathlib.Core.List.{List, [], ◌∷◌, flat_map}
use Rattle.frame.specs.Types.{Ty, bool, int, given, pow, prod}
use Rattle.frame.specs.Trees.{head, Tree, node, Forest, nil, cons}
use Rattle.frame.specs.Tags.{pick}
use Rattle.frame.specs.Places.{Ctx, push}
use Rattle.typing.specs.Typing.{element, source, target, ty, types_in}
use Rattle.meaning.specs.Lists.{any, all}
use Rattle.meaning.specs.Values.{Value, default, values, same, some_of, every_of, as_type}
use Rattle.meaning.specs.Operations.{
  Logic,
  true',
  false',
  not',
  and',
  or',
  implies,
  equiv,
  equal,
  less,
  less_equal,
  greater,
  greater_equal,
  member,
  subset,
  finite,
  partition,
  unnamed,
  Quantifier,
  forall,
  exists,
  Operator,
  identifier,
  bound,
  literal,
  extension,
  maplet,
  surjective,
  total_surjective,
  minus,
  times,
  direct_product,
  parallel_product,
  domain_restriction,
  domain_subtraction,
  range_restriction,
  range_subtraction,
  up_to,
  image,
  union,
  intersection,
  backward,
  forward,
  override,
  integers,
  naturals,
  positives,
  booleans,
  yes',
  no',
  empty,
  projection1,
  projection2,
  identity,
  powerset,
  powerset1,
  general_union,
  general_intersection,
  domain,
  range,
  converse,
  others,
  Binding,
  quantified_union,
  quantified_intersection,
  comprehension,
  Op,
  logic,
  quantifier,
  operator,
  binding,
  op_of,
}

-- ---- whole numbers: "Literals and order have their usual meaning."
-- "Tag 4: eight bytes in two's complement, any signed 64-bit number." "`BigInt` becomes the signed 64-bit literal."
unfoldable pub literal_value : ℕ → ℤ
literal_value n = pick (ltb n (2 ^ 63)) (pos n) (negsuc (2 ^ 64 - suc n))

unfoldable pub le_int : ℤ → ℤ → Bool
le_int (pos m) (pos n) = leb m n
le_int (pos m) (negsuc n) = false
le_int (negsuc m) (pos n) = true
le_int (negsuc m) (negsuc n) = leb n m

-- ---- "An interpretation fixes the carriers, a value of its type for each identifier that is no given set's, and the
-- functions named below"
pub record Interpretation : Type 0 where
  -- a given set has one element more
  pub size : ℕ → ℕ
  -- by number and type: in an accepted tree a number has one type (number 9)
  pub value : ℕ → (t : Ty) → Value size t
  -- "any fixed function of operator, operand values and result type, its value always of that type"; a truth value is of
  -- type BOOL
  pub function : ℕ → List ((t : Ty) × Value size t) → (t : Ty) → Value size t

module _ (I : Interpretation) where
  abbrev pub Val : Ty → Type 0
  Val t = Value I.size t

  -- values of the binders around a node
  abbrev pub Vals : Ctx → Type 0
  Vals [] = Unit {0}
  Vals (t ∷ Γ) = Val t × Vals Γ

  unfoldable pub value_at : (Γ : Ctx) → Vals Γ → ℕ → (t : Ty) → Val t
  value_at [] ρ i t = default I.size t
  value_at (u ∷ Γ) ρ zero t = as_type I.size u t ρ.0
  value_at (u ∷ Γ) ρ (suc i) t = value_at Γ ρ.1 i t

  -- "Binders range over the whole carrier": all values of the binders ts, above ρ
  unfoldable pub choices : (ts : List Ty) (Γ : Ctx) → Vals Γ → List (Vals (push ts Γ))
  choices [] Γ ρ = ρ ∷ []
  choices (t ∷ ts) Γ ρ = flat_map (λ v. choices ts (t ∷ Γ) (v, ρ)) (values I.size t)

  -- what a tree means under binders of these types: a predicate its truth, an expression its value at a type
  pub data Den (Γ : Ctx) : Type 0 where
    pred : (Vals Γ → Bool) → Den Γ
    expr : (Vals Γ → (t : Ty) → Val t) → Den Γ

  -- values of a form: of type BOOL, a whole number, a pair, a set, a relation, a set of sets, a set of relations. At a
  -- type of another form no operator is asked for its value.
  abbrev pub a_truth : Bool → (t : Ty) → Val t
  a_truth b bool = b
  a_truth b int = default I.size int
  a_truth b (given n) = default I.size (given n)
  a_truth b (pow u) = default I.size (pow u)
  a_truth b (prod u v) = default I.size (prod u v)

  abbrev pub a_number : ℤ → (t : Ty) → Val t
  a_number k int = k
  a_number k bool = default I.size bool
  a_number k (given n) = default I.size (given n)
  a_number k (pow u) = default I.size (pow u)
  a_number k (prod u v) = default I.size (prod u v)

  abbrev pub a_pair : ((u : Ty) → Val u) → ((v : Ty) → Val v) → (t : Ty) → Val t
  a_pair f g (prod u v) = (f u, g v)
  a_pair f g bool = default I.size bool
  a_pair f g int = default I.size int
  a_pair f g (given n) = default I.size (given n)
  a_pair f g (pow u) = default I.size (pow u)

  abbrev pub a_set : ((u : Ty) → Val u → Bool) → (t : Ty) → Val t
  a_set f (pow u) = f u
  a_set f bool = default I.size bool
  a_set f int = default I.size int
  a_set f (given n) = default I.size (given n)
  a_set f (prod u v) = default I.size (prod u v)

  abbrev pub on_pair : ((u v : Ty) → Val u → Val v → Bool) → (t : Ty) → Val t → Bool
  on_pair f (prod u v) x = f u v x.0 x.1
  on_pair f bool x = false
  on_pair f int x = false
  on_pair f (given n) x = false
  on_pair f (pow u) x = false

  abbrev pub on_number : (ℤ → Bool) → (t : Ty) → Val t → Bool
  on_number f int x = f x
  on_number f bool x = false
  on_number f (given n) x = false
  on_number f (pow u) x = false
  on_number f (prod u v) x = false

  abbrev pub on_set : ((u : Ty) → (Val u → Bool) → Bool) → (t : Ty) → Val t → Bool
  on_set f (pow u) x = f u x
  on_set f bool x = false
  on_set f int x = false
  on_set f (given n) x = false
  on_set f (prod u v) x = false

  abbrev pub on_relation : ((u v : Ty) → (Val u → Val v → Bool) → Bool) → (t : Ty) → Val t → Bool
  on_relation f (pow (prod u v)) r = f u v (λ x y. r (x, y))
  on_relation f (pow bool) r = false
  on_relation f (pow int) r = false
  on_relation f (pow (given n)) r = false
  on_relation f (pow (pow u)) r = false
  on_relation f bool r = false
  on_relation f int r = false
  on_relation f (given n) r = false
  on_relation f (prod u v) r = false

  abbrev pub a_relation : ((u v : Ty) → Val u → Val v → Bool) → (t : Ty) → Val t
  a_relation f = a_set (on_pair f)

  abbrev pub some : (t : Ty) → (Val t → Bool) → Bool
  some t p = some_of I.size t p

  abbrev pub every : (t : Ty) → (Val t → Bool) → Bool
  every t p = every_of I.size t p

  abbrev pub equals : (t : Ty) → Val t → Val t → Bool
  equals t a b = same I.size t a b

  -- "A given set's identifier is its whole carrier."
  unfoldable pub identifier_value : ℕ → (t : Ty) → Val t
  identifier_value n (pow (given m)) = pick (eqb n m) (λ x. true) (I.value n (pow (given m)))
  identifier_value n bool = I.value n bool
  identifier_value n int = I.value n int
  identifier_value n (given m) = I.value n (given m)
  identifier_value n (prod u v) = I.value n (prod u v)
  identifier_value n (pow bool) = I.value n (pow bool)
  identifier_value n (pow int) = I.value n (pow int)
  identifier_value n (pow (pow u)) = I.value n (pow (pow u))
  identifier_value n (pow (prod u v)) = I.value n (pow (prod u v))

  -- ---- operands
  module _ {Γ : Ctx} where
    abbrev pub truth : Den Γ → Vals Γ → Bool
    truth (pred f) ρ = f ρ
    truth (expr f) ρ = false

    -- the value at a type; a predicate's is its truth
    abbrev pub val : Den Γ → Vals Γ → (t : Ty) → Val t
    val (pred f) ρ = a_truth (f ρ)
    val (expr f) ρ = f ρ

    abbrev pub kid : ℕ → List (Den Γ) → Den Γ
    kid i [] = pred (λ ρ. false)
    kid zero (k ∷ ks) = k
    kid (suc i) (k ∷ ks) = kid i ks

    -- the set of elements of type u, the relation, that an operand is
    abbrev pub set_of : Den Γ → Vals Γ → (u : Ty) → Val u → Bool
    set_of k ρ u = val k ρ (pow u)

    abbrev pub rel_of : Den Γ → Vals Γ → (u v : Ty) → Val u → Val v → Bool
    rel_of k ρ u v x y = val k ρ (pow (prod u v)) (x, y)

    -- p ; q ; …: from x by p to some z, and from there on. ts are the operands' types.
    unfoldable pub onward : List Ty → List (Den Γ) → Vals Γ → (u v : Ty) → Val u → Val v → Bool
    onward ts [] ρ u v x y = false
    onward ts (p ∷ []) ρ u v x y = rel_of p ρ u v x y
    onward [] (p ∷ q ∷ qs) ρ u v x y = false
    onward (t ∷ ts) (p ∷ q ∷ qs) ρ u v x y = some (target t) (λ z. rel_of p ρ u (target t) x z && onward ts (q ∷ qs) ρ (target t) v z y)

    -- p ∘ q ∘ …: from x by the others to some z, and from there by p
    unfoldable pub backwards : List Ty → List (Den Γ) → Vals Γ → (u v : Ty) → Val u → Val v → Bool
    backwards ts [] ρ u v x y = false
    backwards ts (p ∷ []) ρ u v x y = rel_of p ρ u v x y
    backwards [] (p ∷ q ∷ qs) ρ u v x y = false
    backwards (t ∷ ts) (p ∷ q ∷ qs) ρ u v x y = some (source t) (λ z. backwards ts (q ∷ qs) ρ u (source t) x z && rel_of p ρ (source t) v z y)

    -- p <+ q is q, and p where q leads nowhere
    unfoldable pub overridden : List (Den Γ) → Vals Γ → (u v : Ty) → Val u → Val v → Bool
    overridden [] ρ u v x y = false
    overridden (p ∷ ps) ρ u v x y = overridden ps ρ u v x y || (rel_of p ρ u v x y && not (some v (λ z. overridden ps ρ u v x z)))

    -- partition(S, T, …): S is the union of the others, and these are disjoint two by two
    unfoldable pub disjoint_from : (u : Ty) → Vals Γ → Den Γ → List (Den Γ) → Bool
    disjoint_from u ρ k [] = true
    disjoint_from u ρ k (j ∷ js) = not (some u (λ x. set_of k ρ u x && set_of j ρ u x)) && disjoint_from u ρ k js

    unfoldable pub disjoint : (u : Ty) → Vals Γ → List (Den Γ) → Bool
    disjoint u ρ [] = true
    disjoint u ρ (k ∷ ks) = disjoint_from u ρ k ks && disjoint u ρ ks

    unfoldable pub partitions : (u : Ty) → Vals Γ → List (Den Γ) → Bool
    partitions u ρ [] = false
    partitions u ρ (s ∷ ks) = equals (pow u) (set_of s ρ u) (λ x. any (λ k. set_of k ρ u x) ks) && disjoint u ρ ks

    -- operands' values, with their types
    unfoldable pub operands : Vals Γ → List Ty → List (Den Γ) → List ((t : Ty) × Val t)
    operands ρ ts [] = []
    operands ρ [] (k ∷ ks) = []
    operands ρ (t ∷ ts) (k ∷ ks) = (t, val k ρ t) ∷ operands ρ ts ks

    -- ---- predicates. g is the tag, ts the operands' types, ks what they mean.
    unfoldable pub holds : Logic → ℕ → List Ty → List (Den Γ) → Vals Γ → Bool
    holds true' g ts ks ρ = true
    holds false' g ts ks ρ = false
    holds not' g ts ks ρ = not (truth (kid 0 ks) ρ)
    holds and' g ts ks ρ = all (λ k. truth k ρ) ks
    holds or' g ts ks ρ = any (λ k. truth k ρ) ks
    holds implies g ts ks ρ = not (truth (kid 0 ks) ρ) || truth (kid 1 ks) ρ
    holds equiv g ts ks ρ = beq (truth (kid 0 ks) ρ) (truth (kid 1 ks) ρ)
    holds equal g ts ks ρ = equals (ty 0 ts) (val (kid 0 ks) ρ (ty 0 ts)) (val (kid 1 ks) ρ (ty 0 ts))
    holds less g ts ks ρ = not (le_int (val (kid 1 ks) ρ int) (val (kid 0 ks) ρ int))
    holds less_equal g ts ks ρ = le_int (val (kid 0 ks) ρ int) (val (kid 1 ks) ρ int)
    holds greater g ts ks ρ = not (le_int (val (kid 0 ks) ρ int) (val (kid 1 ks) ρ int))
    holds greater_equal g ts ks ρ = le_int (val (kid 1 ks) ρ int) (val (kid 0 ks) ρ int)
    holds member g ts ks ρ = set_of (kid 1 ks) ρ (ty 0 ts) (val (kid 0 ks) ρ (ty 0 ts))
    holds subset g ts ks ρ =
        every (element (ty 0 ts)) (λ x. not (set_of (kid 0 ks) ρ (element (ty 0 ts)) x) || set_of (kid 1 ks) ρ (element (ty 0 ts)) x)
    -- "finite is true here."
    holds finite g ts ks ρ = true
    holds partition g ts ks ρ = partitions (element (ty 0 ts)) ρ ks
    holds unnamed g ts ks ρ = I.function g (operands ρ ts ks) bool

    -- ---- expressions. n is the payload.
    unfoldable pub value_of : Operator → ℕ → ℕ → List Ty → List (Den Γ) → Vals Γ → (t : Ty) → Val t
    value_of identifier g n ts ks ρ = identifier_value n
    value_of bound g n ts ks ρ = value_at Γ ρ n
    value_of literal g n ts ks ρ = a_number (literal_value n)
    value_of extension g n ts ks ρ = a_set (λ u x. any (λ k. equals u x (val k ρ u)) ks)
    value_of maplet g n ts ks ρ = a_pair (val (kid 0 ks) ρ) (val (kid 1 ks) ρ)
    -- S <->> T: the relations from S to T whose range is T; S <<->> T: those whose domain is S besides
    value_of surjective g n ts ks ρ =
        a_set (on_relation (λ u v r.
        every u (λ x. every v (λ y. not (r x y) || (set_of (kid 0 ks) ρ u x && set_of (kid 1 ks) ρ v y)))
        && every v (λ y. not (set_of (kid 1 ks) ρ v y) || some u (λ x. r x y))))
    value_of total_surjective g n ts ks ρ =
        a_set (on_relation (λ u v r.
        every u (λ x. every v (λ y. not (r x y) || (set_of (kid 0 ks) ρ u x && set_of (kid 1 ks) ρ v y)))
        && (every u (λ x. not (set_of (kid 0 ks) ρ u x) || some v (λ y. r x y))
        && every v (λ y. not (set_of (kid 1 ks) ρ v y) || some u (λ x. r x y)))))
    value_of minus g n ts ks ρ = a_set (λ u x. set_of (kid 0 ks) ρ u x && not (set_of (kid 1 ks) ρ u x))
    value_of times g n ts ks ρ = a_relation (λ u v x y. set_of (kid 0 ks) ρ u x && set_of (kid 1 ks) ρ v y)
    -- p ⊗ q: x ↦ (y ↦ z) with x ↦ y in p and x ↦ z in q
    value_of direct_product g n ts ks ρ = a_relation (λ u w x p. on_pair (λ v z y b. rel_of (kid 0 ks) ρ u v x y && rel_of (kid 1 ks) ρ u z x b) w p)
    -- p ∥ q: (x ↦ y) ↦ (m ↦ n) with x ↦ m in p and y ↦ n in q
    value_of parallel_product g n ts ks ρ =
        a_relation (λ s t a b. on_pair (λ u v x y. on_pair (λ w z m k. rel_of (kid 0 ks) ρ u w x m && rel_of (kid 1 ks) ρ v z y k) t b) s a)
    value_of domain_restriction g n ts ks ρ = a_relation (λ u v x y. set_of (kid 0 ks) ρ u x && rel_of (kid 1 ks) ρ u v x y)
    value_of domain_subtraction g n ts ks ρ = a_relation (λ u v x y. not (set_of (kid 0 ks) ρ u x) && rel_of (kid 1 ks) ρ u v x y)
    value_of range_restriction g n ts ks ρ = a_relation (λ u v x y. rel_of (kid 0 ks) ρ u v x y && set_of (kid 1 ks) ρ v y)
    value_of range_subtraction g n ts ks ρ = a_relation (λ u v x y. rel_of (kid 0 ks) ρ u v x y && not (set_of (kid 1 ks) ρ v y))
    value_of up_to g n ts ks ρ = a_set (on_number (λ x. le_int (val (kid 0 ks) ρ int) x && le_int x (val (kid 1 ks) ρ int)))
    value_of image g n ts ks ρ = a_set (λ v y. some (source (ty 0 ts))
        (λ x. set_of (kid 1 ks) ρ (source (ty 0 ts)) x && rel_of (kid 0 ks) ρ (source (ty 0 ts)) v x y))
    value_of union g n ts ks ρ = a_set (λ u x. any (λ k. set_of k ρ u x) ks)
    value_of intersection g n ts ks ρ = a_set (λ u x. all (λ k. set_of k ρ u x) ks)
    value_of backward g n ts ks ρ = a_relation (backwards ts ks ρ)
    value_of forward g n ts ks ρ = a_relation (onward ts ks ρ)
    value_of override g n ts ks ρ = a_relation (overridden ks ρ)
    value_of integers g n ts ks ρ = a_set (λ u x. true)
    value_of naturals g n ts ks ρ = a_set (on_number (le_int (pos 0)))
    value_of positives g n ts ks ρ = a_set (on_number (le_int (pos 1)))
    value_of booleans g n ts ks ρ = a_set (λ u x. true)
    value_of yes' g n ts ks ρ = a_truth true
    value_of no' g n ts ks ρ = a_truth false
    value_of empty g n ts ks ρ = a_set (λ u x. false)
    value_of projection1 g n ts ks ρ = a_relation (λ s w a z. on_pair (λ u v x y. equals w (as_type I.size u w x) z) s a)
    value_of projection2 g n ts ks ρ = a_relation (λ s w a z. on_pair (λ u v x y. equals w (as_type I.size v w y) z) s a)
    value_of identity g n ts ks ρ = a_relation (λ u v x y. equals v (as_type I.size u v x) y)
    value_of powerset g n ts ks ρ = a_set (on_set (λ u s. every u (λ x. not (s x) || set_of (kid 0 ks) ρ u x)))
    value_of powerset1 g n ts ks ρ = a_set (on_set (λ u s. every u (λ x. not (s x) || set_of (kid 0 ks) ρ u x) && some u s))
    value_of general_union g n ts ks ρ = a_set (λ u x. some (pow u) (λ s. set_of (kid 0 ks) ρ (pow u) s && s x))
    value_of general_intersection g n ts ks ρ = a_set (λ u x. every (pow u) (λ s. not (set_of (kid 0 ks) ρ (pow u) s) || s x))
    value_of domain g n ts ks ρ = a_set (λ u x. some (target (ty 0 ts)) (λ y. rel_of (kid 0 ks) ρ u (target (ty 0 ts)) x y))
    value_of range g n ts ks ρ = a_set (λ v y. some (source (ty 0 ts)) (λ x. rel_of (kid 0 ks) ρ (source (ty 0 ts)) v x y))
    value_of converse g n ts ks ρ = a_relation (λ u v x y. rel_of (kid 0 ks) ρ v u y x)
    value_of others g n ts ks ρ = I.function g (operands ρ ts ks)

  -- ---- under binders; σs are all the values that these may have
  module _ {Δ : Ctx} where
    unfoldable pub quantified : Quantifier → List (Den Δ) → List (Vals Δ) → Bool
    quantified forall ks σs = all (λ σ. truth (kid 0 ks) σ) σs
    quantified exists ks σs = any (λ σ. truth (kid 0 ks) σ) σs

    unfoldable pub bound_set : Binding → List (Den Δ) → List (Vals Δ) → (t : Ty) → Val t
    bound_set quantified_union ks σs = a_set (λ u x. any (λ σ. truth (kid 0 ks) σ && set_of (kid 1 ks) σ u x) σs)
    bound_set quantified_intersection ks σs = a_set (λ u x. all (λ σ. not (truth (kid 0 ks) σ) || set_of (kid 1 ks) σ u x) σs)
    bound_set comprehension ks σs = a_set (λ u x. any (λ σ. truth (kid 0 ks) σ && equals u x (val (kid 1 ks) σ u)) σs)

  -- the types of the binders that an operator has around its operands
  abbrev pub binders_in : Op → List Ty → List Ty
  binders_in (logic o) us = []
  binders_in (quantifier o) us = us
  binders_in (operator o) us = []
  binders_in (binding o) us = us

  -- a node, by what its operands mean: ts are their types, us the types that the node carries
  abbrev pub node_means : (o : Op) → ℕ → ℕ → (us : List Ty) (Γ : Ctx) → List Ty → List (Den (push (binders_in o us) Γ)) → Den Γ
  node_means (logic o) g n us Γ ts ks = pred (holds o g ts ks)
  node_means (quantifier o) g n us Γ ts ks = pred (λ ρ. quantified o ks (choices us Γ ρ))
  node_means (operator o) g n us Γ ts ks = expr (value_of o g n ts ks)
  node_means (binding o) g n us Γ ts ks = expr (λ ρ. bound_set o ks (choices us Γ ρ))

  unfoldable mutual
    pub means : Tree → (Γ : Ctx) → Den Γ
    means (node (head g n us) ks) Γ =
        let Δ = push (binders_in (op_of g) us) Γ in node_means (op_of g) g n us Γ (types_in ks Δ) (means_all ks Δ)

    pub means_all : Forest → (Γ : Ctx) → List (Den Γ)
    means_all nil Γ = []
    means_all (cons t ts) Γ = means t Γ ∷ means_all ts Γ

  -- the truth of a closed predicate
  unfoldable pub is_true : Tree → Bool
  is_true t = truth (means t []) tt
