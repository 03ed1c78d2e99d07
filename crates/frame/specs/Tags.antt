-- The table of tags (document 01, "The frame record"), said once: reading, typing and writing all go by it.
use Rattle.std.specs.Prelude.{ℕ, zero, suc, Bool, true, false, ◌&&◌, List, [], ◌∷◌, leb}
use Rattle.frame.specs.Types.{Ty}

abbrev pub pick {ℓ} : {X : Type ℓ} → Bool → X → X → X
pick true a b = a
pick false a b = b

pub data Sort : Type 0 where
  predicate : Sort
  expression : Sort

abbrev pub same_sort : Sort → Sort → Bool
same_sort predicate predicate = true
same_sort predicate expression = false
same_sort expression predicate = false
same_sort expression expression = true

-- What follows the tag, the node's own type apart.
pub data Layout : Type 0 where
  -- children of these sorts
  these : List Sort → Layout
  -- a payload of so many bytes, and no child
  payload : ℕ → Layout
  -- a count byte in this range, and so many children, all of one sort
  counted : ℕ → ℕ → Sort → Layout
  -- a count byte in this range, the types of so many binders, and children of these sorts
  binding : ℕ → ℕ → List Sort → Layout

-- A form: what a tag asks for.
pub record Form : Type 0 where
  pub listed : Bool
  pub sort : Sort
  pub layout : Layout
  -- how many types of its own the node carries, after its number and before its children
  pub carried : ℕ

-- Tags with the same form and the same typing rule. The names are those of the source's enums (tag.rs, document 004)
-- or of the operators.
pub data Class : Type 0 where
  -- predicates
  literal_pred equality order membership inclusion binary_pred associative_pred negation quantified_pred finite partition : Class
  -- expressions
  identifier bound literal set_extension maplet relation_set set_minus cartesian direct_product parallel_product : Class
  domain_restriction range_restriction up_to arithmetic function_image relational_image set_operation : Class
  backward_composition forward_composition override sum integer_set bool_set truth_value integer_relation : Class
  empty_set projection1 projection2 identity bool_expr cardinal powerset generalised domain range extremum converse : Class
  unary_minus quantified_set comprehension : Class
  -- every other number
  unlisted : Class

-- the tags from the first number to the second
pub data Row : Type 0 where
  row : ℕ → ℕ → Class → Row

-- "Tags are the values of the operator enums in `tag.rs` (004); ours are 1 identifier, 3 bound identifier, 4 literal,
-- 5 set extension, 601 bool(P), 620 finite, 701 not, 901 partition (all decimal)."
-- "Left out: [..] `Ascription`, `Application`, `Extended`, predicate variables": there is no row for the numbers that tag.rs
-- gives these, 951, 952, those from 1000 on and 9.
abbrev pub table : List Row
table =
    row 1 1 identifier
    ∷ row 3 3 bound
    ∷ row 4 4 literal
    ∷ row 5 5 set_extension
    -- RelationalOp: = ≠ < ≤ > ≥ ∈ ∉ ⊂ ⊄ ⊆ ⊈
    ∷ row 101 102 equality
    ∷ row 103 106 order
    ∷ row 107 108 membership
    ∷ row 109 112 inclusion
    -- BinaryExprOp: ↦; ↔ and the arrows; ∖ × ⊗ ∥ ◁ ⩤ ▷ ⩥ ‥; − ÷ mod ^; f(x), r[S]
    ∷ row 201 201 maplet
    ∷ row 202 212 relation_set
    ∷ row 213 213 set_minus
    ∷ row 214 214 cartesian
    ∷ row 215 215 direct_product
    ∷ row 216 216 parallel_product
    ∷ row 217 218 domain_restriction
    ∷ row 219 220 range_restriction
    ∷ row 221 221 up_to
    ∷ row 222 225 arithmetic
    ∷ row 226 226 function_image
    ∷ row 227 227 relational_image
    -- BinaryPredOp: ⇒ ⇔
    ∷ row 251 252 binary_pred
    -- AssocExprOp: ∪ ∩ ∘ ; <+ + ∗
    ∷ row 301 302 set_operation
    ∷ row 303 303 backward_composition
    ∷ row 304 304 forward_composition
    ∷ row 305 305 override
    ∷ row 306 307 sum
    -- AssocPredOp: ∧ ∨
    ∷ row 351 352 associative_pred
    -- AtomicOp: ℤ ℕ ℕ1; BOOL; TRUE FALSE; ∅; pred succ; prj1 prj2 id
    ∷ row 401 403 integer_set
    ∷ row 404 404 bool_set
    ∷ row 405 406 truth_value
    ∷ row 407 407 empty_set
    ∷ row 408 409 integer_relation
    ∷ row 410 410 projection1
    ∷ row 411 411 projection2
    ∷ row 412 412 identity
    ∷ row 601 601 bool_expr
    -- LiteralPredOp: ⊤ ⊥
    ∷ row 610 611 literal_pred
    ∷ row 620 620 finite
    ∷ row 701 701 negation
    -- UnaryExprOp: card; ℙ ℙ1; union inter; dom ran; min max; ∼ −
    ∷ row 751 751 cardinal
    ∷ row 752 753 powerset
    ∷ row 754 755 generalised
    ∷ row 756 756 domain
    ∷ row 757 757 range
    ∷ row 761 762 extremum
    ∷ row 763 763 converse
    ∷ row 764 764 unary_minus
    -- QuantExprOp: ⋃ ⋂; comprehension. QuantPredOp: ∀ ∃
    ∷ row 801 802 quantified_set
    ∷ row 803 803 comprehension
    ∷ row 851 852 quantified_pred
    ∷ row 901 901 partition
    ∷ []

unfoldable pub lookup : List Row → ℕ → Class
lookup [] t = unlisted
lookup (row from to c ∷ rows) t = let next = lookup rows t in pick (leb from t && leb t to) c next

unfoldable pub class_of : ℕ → Class
class_of t = lookup table t

abbrev form : Sort → Layout → ℕ → Form
form s l c = record { listed = true; sort = s; layout = l; carried = c }

abbrev P : Sort
P = predicate

abbrev E : Sort
E = expression

unfoldable pub form_at : Class → Form
form_at literal_pred = form P (these []) 0
form_at equality = form P (these (E ∷ E ∷ [])) 0
form_at order = form P (these (E ∷ E ∷ [])) 0
form_at membership = form P (these (E ∷ E ∷ [])) 0
form_at inclusion = form P (these (E ∷ E ∷ [])) 0
form_at binary_pred = form P (these (P ∷ P ∷ [])) 0
-- "301 to 307, 351, 352: a count byte 2 to 255, then children."
form_at associative_pred = form P (counted 2 255 P) 0
form_at negation = form P (these (P ∷ [])) 0
-- "851, 852: the same without the expression."
form_at quantified_pred = form P (binding 1 32 (P ∷ [])) 0
form_at finite = form P (these (E ∷ [])) 0
-- "5 and 901: count 1 to 255."
form_at partition = form P (counted 1 255 E) 0
-- "Tag 1: two-byte number, then its type. Tag 3: one-byte index [..] Tag 4: eight bytes in two's complement, any signed 64-bit
-- number."
form_at identifier = form E (payload 2) 1
form_at bound = form E (payload 1) 0
form_at literal = form E (payload 8) 0
form_at set_extension = form E (counted 1 255 E) 0
form_at maplet = form E (these (E ∷ E ∷ [])) 0
form_at relation_set = form E (these (E ∷ E ∷ [])) 0
form_at set_minus = form E (these (E ∷ E ∷ [])) 0
form_at cartesian = form E (these (E ∷ E ∷ [])) 0
form_at direct_product = form E (these (E ∷ E ∷ [])) 0
form_at parallel_product = form E (these (E ∷ E ∷ [])) 0
form_at domain_restriction = form E (these (E ∷ E ∷ [])) 0
form_at range_restriction = form E (these (E ∷ E ∷ [])) 0
form_at up_to = form E (these (E ∷ E ∷ [])) 0
form_at arithmetic = form E (these (E ∷ E ∷ [])) 0
form_at function_image = form E (these (E ∷ E ∷ [])) 0
form_at relational_image = form E (these (E ∷ E ∷ [])) 0
form_at set_operation = form E (counted 2 255 E) 0
form_at backward_composition = form E (counted 2 255 E) 0
form_at forward_composition = form E (counted 2 255 E) 0
form_at override = form E (counted 2 255 E) 0
form_at sum = form E (counted 2 255 E) 0
form_at integer_set = form E (these []) 0
form_at bool_set = form E (these []) 0
form_at truth_value = form E (these []) 0
form_at integer_relation = form E (these []) 0
-- "407, 410, 411, 412 carry their type."
form_at empty_set = form E (these []) 1
form_at projection1 = form E (these []) 1
form_at projection2 = form E (these []) 1
form_at identity = form E (these []) 1
form_at bool_expr = form E (these (P ∷ [])) 0
form_at cardinal = form E (these (E ∷ [])) 0
form_at powerset = form E (these (E ∷ [])) 0
form_at generalised = form E (these (E ∷ [])) 0
form_at domain = form E (these (E ∷ [])) 0
form_at range = form E (these (E ∷ [])) 0
form_at extremum = form E (these (E ∷ [])) 0
form_at converse = form E (these (E ∷ [])) 0
form_at unary_minus = form E (these (E ∷ [])) 0
-- "801 to 803: binder count 1 to 32, binder types, predicate, expression."
form_at quantified_set = form E (binding 1 32 (P ∷ E ∷ [])) 0
form_at comprehension = form E (binding 1 32 (P ∷ E ∷ [])) 0
form_at unlisted = record { listed = false; sort = P; layout = these []; carried = 0 }

abbrev pub form_of : ℕ → Form
form_of t = form_at (class_of t)

-- ---- what a layout says of a node

-- how many bytes the number takes that follows the tag
abbrev pub width : Layout → ℕ
width (these es) = 0
width (payload w) = w
width (counted lo hi e) = 1
width (binding lo hi es) = 1

abbrev pub in_range : Layout → ℕ → Bool
in_range (these es) x = true
in_range (payload w) x = true
in_range (counted lo hi e) x = leb lo x && leb x hi
in_range (binding lo hi es) x = leb lo x && leb x hi

-- the number x that follows the tag, of a node with payload n, m types and k children
abbrev pub number_of : Layout → ℕ → ℕ → ℕ → ℕ
number_of (these es) n m k = 0
number_of (payload w) n m k = n
number_of (counted lo hi e) n m k = k
number_of (binding lo hi es) n m k = m

-- and back from x: the payload, how many types follow (c of the node's own), the sorts of the children
abbrev pub payload_of : Layout → ℕ → ℕ
payload_of (these es) x = 0
payload_of (payload w) x = x
payload_of (counted lo hi e) x = 0
payload_of (binding lo hi es) x = 0

abbrev pub types_of : Layout → ℕ → ℕ → ℕ
types_of (these es) c x = c
types_of (payload w) c x = c
types_of (counted lo hi e) c x = c
types_of (binding lo hi es) c x = x

abbrev pub repeat : Sort → ℕ → List Sort
repeat e zero = []
repeat e (suc n) = e ∷ repeat e n

abbrev pub sorts_of : Layout → ℕ → List Sort
sorts_of (these es) x = es
sorts_of (payload w) x = []
sorts_of (counted lo hi e) x = repeat e x
sorts_of (binding lo hi es) x = es

-- the types of the binders that a node has around its children
abbrev pub binders_of : Layout → List Ty → List Ty
binders_of (these es) ts = []
binders_of (payload w) ts = []
binders_of (counted lo hi e) ts = []
binders_of (binding lo hi es) ts = ts
