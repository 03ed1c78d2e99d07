-- The operators that a taken rule names (document 01, "Meaning": "Operators that a taken rule names mean what the Event-B
-- Mathematical Language says; the others are any fixed function of operator, operand values and result type").
use Rattle.std.specs.Prelude.{ℕ, eqb}
use Rattle.frame.specs.Tags.{pick}
use Rattle.frame.specs.Tags as C
use Rattle.frame.specs.Operators.{
  #BTrue,
  #BUnion,
  #DomRes,
  #Equal,
  #Forall,
  #Gt,
  #In,
  #Integer,
  #KUnion,
  #LAnd,
  #LImp,
  #Le,
  #Lt,
  #Natural,
  #Pow,
  #QUnion,
  #RanRes,
  #SRel,
  #STRel,
  #SubsetEq,
  #True,
}

-- of predicates without binders; unnamed: ≠ ∉ ⊂ ⊄ ⊈
pub data Logic : Type 0 where
  true' false' not' and' or' implies equiv equal less less_equal greater greater_equal member subset finite partition unnamed : Logic

-- of predicates with binders
pub data Quantifier : Type 0 where
  forall exists : Quantifier

-- of expressions without binders; literal: tag 4
pub data Operator : Type 0 where
  identifier bound literal extension maplet surjective total_surjective minus times direct_product parallel_product : Operator
  domain_restriction domain_subtraction range_restriction range_subtraction up_to image union intersection backward forward override : Operator
  integers naturals positives booleans yes' no' empty projection1 projection2 identity powerset powerset1 general_union general_intersection : Operator
  domain range converse others : Operator

-- of expressions with binders
pub data Binding : Type 0 where
  quantified_union quantified_intersection comprehension : Binding

pub data Op : Type 0 where
  logic : Logic → Op
  quantifier : Quantifier → Op
  operator : Operator → Op
  binding : Binding → Op

-- of each class, by the tag
unfoldable pub op_at : C.Class → ℕ → Op
op_at C.literal_pred g = logic (pick (eqb g #BTrue) true' false')
op_at C.equality g = logic (pick (eqb g #Equal) equal unnamed)
op_at C.order g = logic (pick (eqb g #Lt) less (pick (eqb g #Le) less_equal (pick (eqb g #Gt) greater greater_equal)))
op_at C.membership g = logic (pick (eqb g #In) member unnamed)
op_at C.inclusion g = logic (pick (eqb g #SubsetEq) subset unnamed)
op_at C.binary_pred g = logic (pick (eqb g #LImp) implies equiv)
op_at C.associative_pred g = logic (pick (eqb g #LAnd) and' or')
op_at C.negation g = logic not'
op_at C.quantified_pred g = quantifier (pick (eqb g #Forall) forall exists)
op_at C.finite g = logic finite
op_at C.partition g = logic partition
op_at C.identifier g = operator identifier
op_at C.bound g = operator bound
op_at C.literal g = operator literal
op_at C.set_extension g = operator extension
op_at C.maplet g = operator maplet
op_at C.relation_set g = operator (pick (eqb g #SRel) surjective (pick (eqb g #STRel) total_surjective others))
op_at C.set_minus g = operator minus
op_at C.cartesian g = operator times
op_at C.direct_product g = operator direct_product
op_at C.parallel_product g = operator parallel_product
op_at C.domain_restriction g = operator (pick (eqb g #DomRes) domain_restriction domain_subtraction)
op_at C.range_restriction g = operator (pick (eqb g #RanRes) range_restriction range_subtraction)
op_at C.up_to g = operator up_to
op_at C.arithmetic g = operator others
op_at C.function_image g = operator others
op_at C.relational_image g = operator image
op_at C.set_operation g = operator (pick (eqb g #BUnion) union intersection)
op_at C.backward_composition g = operator backward
op_at C.forward_composition g = operator forward
op_at C.override g = operator override
op_at C.sum g = operator others
op_at C.integer_set g = operator (pick (eqb g #Integer) integers (pick (eqb g #Natural) naturals positives))
op_at C.bool_set g = operator booleans
op_at C.truth_value g = operator (pick (eqb g #True) yes' no')
op_at C.integer_relation g = operator others
op_at C.empty_set g = operator empty
op_at C.projection1 g = operator projection1
op_at C.projection2 g = operator projection2
op_at C.identity g = operator identity
op_at C.bool_expr g = operator others
op_at C.cardinal g = operator others
op_at C.powerset g = operator (pick (eqb g #Pow) powerset powerset1)
op_at C.generalised g = operator (pick (eqb g #KUnion) general_union general_intersection)
op_at C.domain g = operator domain
op_at C.range g = operator range
op_at C.extremum g = operator others
op_at C.converse g = operator converse
op_at C.unary_minus g = operator others
op_at C.quantified_set g = binding (pick (eqb g #QUnion) quantified_union quantified_intersection)
op_at C.comprehension g = binding comprehension
op_at C.unlisted g = operator others

unfoldable pub op_of : ℕ → Op
op_of g = op_at (C.class_of g) g
