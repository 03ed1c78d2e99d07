-- Typing (document 01, number 10: "A node breaks a typing rule or its type passes 64 bytes."; "Source decides on rule order and
-- built tree; the Event-B Mathematical Language on meaning and typing."). An operator's rule is two lines: `wants`, the operand
-- types that it asks for, where a type that the rule leaves open is read off the operands' own types, and `result`, the type of the node. A node is
-- well typed if its operands have the types that it wants. Where an operand has not the form that a rule looks for (`element` of
-- no power, `first` of no product) BOOL stands in: then `wants` asks for a type that the operand has not.
use Rattle.std.specs.Prelude.{ℕ, zero, suc, Bool, true, ◌&&◌, List, [], ◌∷◌, length, leb, eqb}
use Rattle.frame.specs.Types.{Ty, bool, int, given, pow, prod}
use Rattle.frame.specs.Trees.{head, Tree, node, Forest, nil, cons}
use Rattle.frame.specs.Tags.{
  Class,
  literal_pred,
  equality,
  order,
  membership,
  inclusion,
  binary_pred,
  associative_pred,
  negation,
  quantified_pred,
  finite,
  partition,
  identifier,
  bound,
  literal,
  set_extension,
  maplet,
  relation_set,
  set_minus,
  cartesian,
  direct_product,
  parallel_product,
  domain_restriction,
  range_restriction,
  up_to,
  arithmetic,
  function_image,
  relational_image,
  set_operation,
  backward_composition,
  forward_composition,
  override,
  sum,
  integer_set,
  bool_set,
  truth_value,
  integer_relation,
  empty_set,
  projection1,
  projection2,
  identity,
  bool_expr,
  cardinal,
  powerset,
  generalised,
  domain,
  range,
  extremum,
  converse,
  unary_minus,
  quantified_set,
  comprehension,
  unlisted,
  class_of,
  pick,
}
use Rattle.frame.specs.Operators.{#EmptySet, #KPrj1Gen, #KPrj2Gen, #KIdGen}
use Rattle.frame.specs.Encoding.{enc_ty}
use Rattle.frame.specs.Reading.{type_limit}
use Rattle.frame.specs.Places.{Ctx, under}
use Rattle.frame.specs.Sameness.{same_ty, same_tys}

-- ---- parts of types
abbrev pub element : Ty → Ty
element (pow t) = t
element bool = bool
element int = bool
element (given n) = bool
element (prod t u) = bool

abbrev pub first : Ty → Ty
first (prod t u) = t
first bool = bool
first int = bool
first (given n) = bool
first (pow t) = bool

abbrev pub second : Ty → Ty
second (prod t u) = u
second bool = bool
second int = bool
second (given n) = bool
second (pow t) = bool

-- ℙ(t × u), and the two of such a type
abbrev pub relation : Ty → Ty → Ty
relation t u = pow (prod t u)

abbrev pub source : Ty → Ty
source t = first (element t)

abbrev pub target : Ty → Ty
target t = second (element t)

-- ---- operands' types
-- the i-th
abbrev pub ty : ℕ → List Ty → Ty
ty i [] = bool
ty zero (t ∷ ts) = t
ty (suc i) (t ∷ ts) = ty i ts

abbrev pub last_ty : List Ty → Ty
last_ty [] = bool
last_ty (t ∷ []) = t
last_ty (t ∷ u ∷ ts) = last_ty (u ∷ ts)

-- t for each of them
abbrev pub alike : Ty → List Ty → List Ty
alike t [] = []
alike t (u ∷ us) = t ∷ alike t us

-- p ; q ; r: relations, each from the elements to which the one before leads, the first from those of type u
abbrev pub onward : Ty → List Ty → List Ty
onward u [] = []
onward u (t ∷ ts) = relation u (target t) ∷ onward (target t) ts

-- p ∘ q ∘ r: "the rightmost applies first": each leads to the elements from which the one before goes
abbrev pub backward : Ty → List Ty → List Ty
backward v [] = []
backward v (t ∷ ts) = relation (source t) v ∷ backward (source t) ts

-- the type at an index of the context
unfoldable pub type_at : Ctx → ℕ → Ty
type_at [] i = bool
type_at (t ∷ Γ) zero = t
type_at (t ∷ Γ) (suc i) = type_at Γ i

-- ---- the rules, by the class of the tag. A predicate has no type: bool stands for it on either side.
-- In the source `synthesize_type` of expression.rs (document 008), by `atomic_fixed_type`, `synthesize_binary`,
-- `synthesize_associative` and `synthesize_unary`, has `wants` and `result` in one for expressions, but for those that carry their
-- type and bound identifiers: `None` where operands are not as wanted.
abbrev pub wants : Class → List Ty → List Ty
wants literal_pred ts = []
-- By the language: = and ≠ take two of one type; < ≤ > ≥ integers; ∈ and ∉ a member and a power of its type; ⊂ ⊄ ⊆ ⊈ two of one power
-- type; finite a set; partition a set and its parts, all of one power type
wants equality ts = ty 0 ts ∷ ty 0 ts ∷ []
wants order ts = int ∷ int ∷ []
wants membership ts = ty 0 ts ∷ pow (ty 0 ts) ∷ []
wants inclusion ts = pow (element (ty 0 ts)) ∷ pow (element (ty 0 ts)) ∷ []
wants binary_pred ts = bool ∷ bool ∷ []
wants associative_pred ts = alike bool ts
wants negation ts = bool ∷ []
wants quantified_pred ts = bool ∷ []
wants finite ts = pow (element (ty 0 ts)) ∷ []
wants partition ts = alike (pow (element (ty 0 ts))) ts
wants identifier ts = []
wants bound ts = []
wants literal ts = []
wants set_extension ts = alike (ty 0 ts) ts
wants maplet ts = ty 0 ts ∷ ty 1 ts ∷ []
wants relation_set ts = pow (element (ty 0 ts)) ∷ pow (element (ty 1 ts)) ∷ []
wants set_minus ts = pow (element (ty 0 ts)) ∷ pow (element (ty 0 ts)) ∷ []
wants cartesian ts = pow (element (ty 0 ts)) ∷ pow (element (ty 1 ts)) ∷ []
wants direct_product ts = relation (source (ty 0 ts)) (target (ty 0 ts)) ∷ relation (source (ty 0 ts)) (target (ty 1 ts)) ∷ []
wants parallel_product ts = relation (source (ty 0 ts)) (target (ty 0 ts)) ∷ relation (source (ty 1 ts)) (target (ty 1 ts)) ∷ []
wants domain_restriction ts = pow (element (ty 0 ts)) ∷ relation (element (ty 0 ts)) (target (ty 1 ts)) ∷ []
wants range_restriction ts = relation (source (ty 0 ts)) (element (ty 1 ts)) ∷ pow (element (ty 1 ts)) ∷ []
wants up_to ts = int ∷ int ∷ []
wants arithmetic ts = int ∷ int ∷ []
wants function_image ts = relation (source (ty 0 ts)) (target (ty 0 ts)) ∷ source (ty 0 ts) ∷ []
wants relational_image ts = relation (source (ty 0 ts)) (target (ty 0 ts)) ∷ pow (source (ty 0 ts)) ∷ []
wants set_operation ts = alike (pow (element (ty 0 ts))) ts
wants backward_composition ts = backward (target (ty 0 ts)) ts
wants forward_composition ts = onward (source (ty 0 ts)) ts
wants override ts = alike (relation (source (ty 0 ts)) (target (ty 0 ts))) ts
wants sum ts = alike int ts
wants integer_set ts = []
wants bool_set ts = []
wants truth_value ts = []
wants integer_relation ts = []
wants empty_set ts = []
wants projection1 ts = []
wants projection2 ts = []
wants identity ts = []
wants bool_expr ts = bool ∷ []
wants cardinal ts = pow (element (ty 0 ts)) ∷ []
wants powerset ts = pow (element (ty 0 ts)) ∷ []
wants generalised ts = pow (pow (element (element (ty 0 ts)))) ∷ []
wants domain ts = relation (source (ty 0 ts)) (target (ty 0 ts)) ∷ []
wants range ts = relation (source (ty 0 ts)) (target (ty 0 ts)) ∷ []
wants extremum ts = pow int ∷ []
wants converse ts = relation (source (ty 0 ts)) (target (ty 0 ts)) ∷ []
wants unary_minus ts = int ∷ []
wants quantified_set ts = bool ∷ pow (element (ty 1 ts)) ∷ []
wants comprehension ts = bool ∷ ty 1 ts ∷ []
wants unlisted ts = []

-- the type that a node carries itself
abbrev pub carried_ty : List Ty → Ty
carried_ty [] = bool
carried_ty (t ∷ ts) = t

-- n is the payload, us the types carried, ts the operands'. This is what `synthesize_type` answers where it answers a type.
abbrev pub result : Class → ℕ → List Ty → Ctx → List Ty → Ty
result literal_pred n us Γ ts = bool
result equality n us Γ ts = bool
result order n us Γ ts = bool
result membership n us Γ ts = bool
result inclusion n us Γ ts = bool
result binary_pred n us Γ ts = bool
result associative_pred n us Γ ts = bool
result negation n us Γ ts = bool
result quantified_pred n us Γ ts = bool
result finite n us Γ ts = bool
result partition n us Γ ts = bool
result identifier n us Γ ts = carried_ty us
result bound n us Γ ts = type_at Γ n
result literal n us Γ ts = int
result set_extension n us Γ ts = pow (ty 0 ts)
result maplet n us Γ ts = prod (ty 0 ts) (ty 1 ts)
result relation_set n us Γ ts = pow (relation (element (ty 0 ts)) (element (ty 1 ts)))
result set_minus n us Γ ts = ty 0 ts
result cartesian n us Γ ts = relation (element (ty 0 ts)) (element (ty 1 ts))
result direct_product n us Γ ts = relation (source (ty 0 ts)) (prod (target (ty 0 ts)) (target (ty 1 ts)))
result parallel_product n us Γ ts = relation (prod (source (ty 0 ts)) (source (ty 1 ts))) (prod (target (ty 0 ts)) (target (ty 1 ts)))
result domain_restriction n us Γ ts = ty 1 ts
result range_restriction n us Γ ts = ty 0 ts
result up_to n us Γ ts = pow int
result arithmetic n us Γ ts = int
result function_image n us Γ ts = target (ty 0 ts)
result relational_image n us Γ ts = pow (target (ty 0 ts))
result set_operation n us Γ ts = ty 0 ts
result backward_composition n us Γ ts = relation (source (last_ty ts)) (target (ty 0 ts))
result forward_composition n us Γ ts = relation (source (ty 0 ts)) (target (last_ty ts))
result override n us Γ ts = ty 0 ts
result sum n us Γ ts = int
result integer_set n us Γ ts = pow int
result bool_set n us Γ ts = pow bool
result truth_value n us Γ ts = bool
result integer_relation n us Γ ts = relation int int
result empty_set n us Γ ts = carried_ty us
result projection1 n us Γ ts = carried_ty us
result projection2 n us Γ ts = carried_ty us
result identity n us Γ ts = carried_ty us
result bool_expr n us Γ ts = bool
result cardinal n us Γ ts = int
result powerset n us Γ ts = pow (ty 0 ts)
result generalised n us Γ ts = element (ty 0 ts)
result domain n us Γ ts = pow (source (ty 0 ts))
result range n us Γ ts = pow (target (ty 0 ts))
result extremum n us Γ ts = int
result converse n us Γ ts = relation (target (ty 0 ts)) (source (ty 0 ts))
result unary_minus n us Γ ts = int
result quantified_set n us Γ ts = ty 1 ts
result comprehension n us Γ ts = pow (ty 1 ts)
result unlisted n us Γ ts = bool

-- "Required shapes, else number 10: ℙ(t); ℙ((t×u)×t); ℙ((t×u)×u); ℙ(t×t)." The shape, filled from the type itself: a type that is
-- its own shape passes `verify_atomic_type` of expression.rs.
abbrev pub shape : ℕ → Ty → Ty
shape g t =
    pick (eqb g #EmptySet) (pow (element t))
    (pick (eqb g #KPrj1Gen) (relation (prod (first (source t)) (second (source t))) (first (source t)))
    (pick (eqb g #KPrj2Gen) (relation (prod (first (source t)) (second (source t))) (second (source t)))
    (pick (eqb g #KIdGen) (relation (source t) (source t))
    t)))

-- ---- the type of an expression in its binder context (a predicate's is bool)
unfoldable mutual
  pub type_of : Tree → Ctx → Ty
  type_of (node (head g n us) ks) Γ = result (class_of g) n us Γ (types_in ks (under g us Γ))

  pub types_in : Forest → Ctx → List Ty
  types_in nil Γ = []
  types_in (cons t ts) Γ = type_of t Γ ∷ types_in ts Γ

-- ---- number 10
-- one node: its operands' types, the shape of the type that it carries, "A type has at most 64 bytes, derived ones too."
unfoldable pub node_typed : ℕ → ℕ → List Ty → Ctx → List Ty → Bool
node_typed g n us Γ ts =
    same_tys ts (wants (class_of g) ts) && (same_ty (carried_ty us) (shape g (carried_ty us)) && leb
    (length (enc_ty (result (class_of g) n us Γ ts))) type_limit)

unfoldable mutual
  pub typed_tree : Tree → Ctx → Bool
  typed_tree (node (head g n us) ks) Γ = node_typed g n us Γ (types_in ks (under g us Γ)) && typed_forest ks (under g us Γ)

  pub typed_forest : Forest → Ctx → Bool
  typed_forest nil Γ = true
  typed_forest (cons t ts) Γ = typed_tree t Γ && typed_forest ts Γ
