-- The code's forms and sorts, and what they mean: the definition's.
use Rattle.std.specs.Prelude.{ℕ, zero, suc, Bool, true, false, List, [], ◌∷◌}
use Rattle.frame.specs.Tags as T
use Rattle.frame.specs.Tags.{
  predicate,
  expression,
  Layout,
  these,
  payload,
  counted,
  binding,
  Class,
  literal_pred,
  equality,
  order,
  membership,
  inclusion,
  binary_pred,
  associative_pred,
  negation,
  quantified_pred,
  finite,
  partition,
  identifier,
  bound,
  literal,
  set_extension,
  maplet,
  relation_set,
  set_minus,
  cartesian,
  direct_product,
  parallel_product,
  domain_restriction,
  range_restriction,
  up_to,
  arithmetic,
  function_image,
  relational_image,
  set_operation,
  backward_composition,
  forward_composition,
  override,
  sum,
  integer_set,
  bool_set,
  truth_value,
  integer_relation,
  empty_set,
  projection1,
  projection2,
  identity,
  bool_expr,
  cardinal,
  powerset,
  generalised,
  domain,
  range,
  extremum,
  converse,
  unary_minus,
  quantified_set,
  comprehension,
  unlisted,
  repeat,
}
use Rattle.tags.specs.declared.forms.Sort.{Sort}
use Rattle.tags.specs.declared.forms.Sort.TheVariants.{Predicate, Expression}
use Rattle.tags.specs.declared.forms.Form.{Form}
use Rattle.tags.specs.declared.forms.Form.TheVariants.{
  Unlisted,
  LiteralPredicate,
  Relational,
  BinaryPredicate,
  Negation,
  Finite,
  AssociativePredicate,
  Partition,
  QuantifiedPredicate,
  Atomic,
  TypedAtomic,
  BoolExpression,
  UnaryExpression,
  BinaryExpression,
  Identifier,
  BoundIdentifier,
  Literal,
  SetExtension,
  AssociativeExpression,
  QuantifiedExpression,
}

-- ---- sorts
abbrev pub sort_for : Sort → T.Sort
sort_for Predicate = predicate
sort_for Expression = expression

-- and back
abbrev pub sort_code : T.Sort → Sort
sort_code predicate = Predicate
sort_code expression = Expression

abbrev pub is_expression : T.Sort → Bool
is_expression predicate = false
is_expression expression = true

-- the sort of the first child, and of the later ones
abbrev pub first_sort : List T.Sort → Sort
first_sort [] = Predicate
first_sort (e ∷ es) = sort_code e

abbrev pub later_sort : List T.Sort → Sort
later_sort [] = Predicate
later_sort (e ∷ []) = sort_code e
later_sort (e ∷ d ∷ es) = sort_code d

-- the sorts of n children, the first and the later ones
abbrev pub kinds_for : ℕ → Sort → Sort → List T.Sort
kinds_for zero a b = []
kinds_for (suc n) a b = sort_for a ∷ repeat (sort_for b) n

-- ---- forms
abbrev form : T.Sort → Layout → ℕ → T.Form
form s l c = record { listed = true; sort = s; layout = l; carried = c }

abbrev P : T.Sort
P = predicate

abbrev E : T.Sort
E = expression

-- what the code's form asks for
abbrev pub meant : Form → T.Form
meant Unlisted = record { listed = false; sort = P; layout = these []; carried = 0 }
meant LiteralPredicate = form P (these []) 0
meant Relational = form P (these (E ∷ E ∷ [])) 0
meant BinaryPredicate = form P (these (P ∷ P ∷ [])) 0
meant Negation = form P (these (P ∷ [])) 0
meant Finite = form P (these (E ∷ [])) 0
meant AssociativePredicate = form P (counted 2 255 P) 0
meant Partition = form P (counted 1 255 E) 0
meant QuantifiedPredicate = form P (binding 1 32 (P ∷ [])) 0
meant Atomic = form E (these []) 0
meant TypedAtomic = form E (these []) 1
meant BoolExpression = form E (these (P ∷ [])) 0
meant UnaryExpression = form E (these (E ∷ [])) 0
meant BinaryExpression = form E (these (E ∷ E ∷ [])) 0
meant Identifier = form E (payload 2) 1
meant BoundIdentifier = form E (payload 1) 0
meant Literal = form E (payload 8) 0
meant SetExtension = form E (counted 1 255 E) 0
meant AssociativeExpression = form E (counted 2 255 E) 0
meant QuantifiedExpression = form E (binding 1 32 (P ∷ E ∷ [])) 0

-- the form of the tags of a class
unfoldable pub form_code : T.Class → Form
form_code literal_pred = LiteralPredicate
form_code equality = Relational
form_code order = Relational
form_code membership = Relational
form_code inclusion = Relational
form_code binary_pred = BinaryPredicate
form_code associative_pred = AssociativePredicate
form_code negation = Negation
form_code quantified_pred = QuantifiedPredicate
form_code finite = Finite
form_code partition = Partition
form_code identifier = Identifier
form_code bound = BoundIdentifier
form_code literal = Literal
form_code set_extension = SetExtension
form_code maplet = BinaryExpression
form_code relation_set = BinaryExpression
form_code set_minus = BinaryExpression
form_code cartesian = BinaryExpression
form_code direct_product = BinaryExpression
form_code parallel_product = BinaryExpression
form_code domain_restriction = BinaryExpression
form_code range_restriction = BinaryExpression
form_code up_to = BinaryExpression
form_code arithmetic = BinaryExpression
form_code function_image = BinaryExpression
form_code relational_image = BinaryExpression
form_code set_operation = AssociativeExpression
form_code backward_composition = AssociativeExpression
form_code forward_composition = AssociativeExpression
form_code override = AssociativeExpression
form_code sum = AssociativeExpression
form_code integer_set = Atomic
form_code bool_set = Atomic
form_code truth_value = Atomic
form_code integer_relation = Atomic
form_code empty_set = TypedAtomic
form_code projection1 = TypedAtomic
form_code projection2 = TypedAtomic
form_code identity = TypedAtomic
form_code bool_expr = BoolExpression
form_code cardinal = UnaryExpression
form_code powerset = UnaryExpression
form_code generalised = UnaryExpression
form_code domain = UnaryExpression
form_code range = UnaryExpression
form_code extremum = UnaryExpression
form_code converse = UnaryExpression
form_code unary_minus = UnaryExpression
form_code quantified_set = QuantifiedExpression
form_code comprehension = QuantifiedExpression
form_code unlisted = Unlisted
