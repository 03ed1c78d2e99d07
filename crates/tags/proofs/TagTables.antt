-- The code's forms of tags are those that `table` and `form_at` say, for every tag.
-- Main results: form_code_lem, code_form (what a form means); beyond (tags past the last row); range_form (the tags from a number on
-- that have one form) and gap_form (numbers that are no tags), for the arms of `form_of`.
use Rattle.std.proofs.Common.{◌≡◌, ℕ, ◌+◌, ◌-◌, ◌<◌, ◌≤◌, refl, sym, ap, ◌∙◌, Bool, true, false, ◌&&◌, ◌||◌, List, [], ◌∷◌, arith, leb, ltb}
use denote.Enum.Bare.{sameb, same_true}
use borrow.Author.Tests.{ltb-true, ltb-false, lt-leb}
use Rattle.frame.specs.Tags.{
  pick,
  Class,
  literal_pred,
  equality,
  order,
  membership,
  inclusion,
  binary_pred,
  associative_pred,
  negation,
  quantified_pred,
  finite,
  partition,
  identifier,
  bound,
  literal,
  set_extension,
  maplet,
  relation_set,
  set_minus,
  cartesian,
  direct_product,
  parallel_product,
  domain_restriction,
  range_restriction,
  up_to,
  arithmetic,
  function_image,
  relational_image,
  set_operation,
  backward_composition,
  forward_composition,
  override,
  sum,
  integer_set,
  bool_set,
  truth_value,
  integer_relation,
  empty_set,
  projection1,
  projection2,
  identity,
  bool_expr,
  cardinal,
  powerset,
  generalised,
  domain,
  range,
  extremum,
  converse,
  unary_minus,
  quantified_set,
  comprehension,
  unlisted,
  Row,
  row,
  table,
  lookup,
  class_of,
  form_at,
}
use Rattle.frame.specs.Tags as T
use Rattle.tags.specs.declared.forms.Form.{Form}
use Rattle.tags.specs.declared.forms.Form.TheVariants.{Unlisted}
use Rattle.tags.specs.contracts.forms.Form.{the_type}
use Rattle.tags.specs.TagCodes.{meant, form_code}
use Rattle.frame.proofs.Inversion.{true_not}
use Rattle.frame.proofs.Booleans.{both_true}
use Rattle.frame.proofs.EveryTag.{unlisted_past}
use Rattle.frame.proofs.Tables.{all_below, below}

-- ---- the form of a class means what the class asks for
pub form_code_lem : (c : Class) → meant (form_code c) ≡ form_at c
unfolding form_code form_at
form_code_lem literal_pred = refl
form_code_lem equality = refl
form_code_lem order = refl
form_code_lem membership = refl
form_code_lem inclusion = refl
form_code_lem binary_pred = refl
form_code_lem associative_pred = refl
form_code_lem negation = refl
form_code_lem quantified_pred = refl
form_code_lem finite = refl
form_code_lem partition = refl
form_code_lem identifier = refl
form_code_lem bound = refl
form_code_lem literal = refl
form_code_lem set_extension = refl
form_code_lem maplet = refl
form_code_lem relation_set = refl
form_code_lem set_minus = refl
form_code_lem cartesian = refl
form_code_lem direct_product = refl
form_code_lem parallel_product = refl
form_code_lem domain_restriction = refl
form_code_lem range_restriction = refl
form_code_lem up_to = refl
form_code_lem arithmetic = refl
form_code_lem function_image = refl
form_code_lem relational_image = refl
form_code_lem set_operation = refl
form_code_lem backward_composition = refl
form_code_lem forward_composition = refl
form_code_lem override = refl
form_code_lem sum = refl
form_code_lem integer_set = refl
form_code_lem bool_set = refl
form_code_lem truth_value = refl
form_code_lem integer_relation = refl
form_code_lem empty_set = refl
form_code_lem projection1 = refl
form_code_lem projection2 = refl
form_code_lem identity = refl
form_code_lem bool_expr = refl
form_code_lem cardinal = refl
form_code_lem powerset = refl
form_code_lem generalised = refl
form_code_lem domain = refl
form_code_lem range = refl
form_code_lem extremum = refl
form_code_lem converse = refl
form_code_lem unary_minus = refl
form_code_lem quantified_set = refl
form_code_lem comprehension = refl
form_code_lem unlisted = refl

pub code_form : (t : ℕ) (f : Form) → f ≡ form_code (class_of t) → meant f ≡ T.form_of t
code_form t f e = ap meant e ∙ form_code_lem (class_of t)

-- ---- tags past the last row
pub beyond : (t : ℕ) → 901 < t → form_code (class_of t) ≡ Unlisted
unfolding form_code
beyond t h = ap form_code (unlisted_past t h)

-- ---- n tags from a on that have one form
pub range_form : (f : Form) (a n : ℕ) → all_below n (λ i. sameb the_type f (form_code (class_of (a + i)))) ≡ true → (t : ℕ) → a ≤ t → t < a + n
    → f ≡ form_code (class_of t)
range_form f a n e t l h =
    let one : f ≡ form_code (class_of (a + (t - a))) =
    same_true the_type tt f (form_code (class_of (a + (t - a))))
    (below n (λ i. sameb the_type f (form_code (class_of (a + i)))) e (t - a) (omega arith)) in
    let z : a + (t - a) ≡ t = omega arith in
    one ∙ ap (λ i. form_code (class_of i)) z

-- ---- numbers from a to b that are in no row
abbrev pub no_row : ℕ → ℕ → List Row → Bool
no_row a b [] = true
no_row a b (row from to c ∷ rows) = (ltb b from || ltb to a) && no_row a b rows

skip : (p q : Bool) (c d : Class) → q ≡ false → pick (p && q) c d ≡ d
skip true q c d e = rw e
skip false q c d e = refl

passed : (t from to a b : ℕ) (c d : Class) → a ≤ t → t ≤ b → (p q : Bool) → ltb b from ≡ p → ltb to a ≡ q → (p || q) ≡ true
    → pick (leb from t && leb t to) c d ≡ d
passed t from to a b c d l h true q ep eq e = let z = ltb-true b from ep in rw (lt-leb from t (omega arith))
passed t from to a b c d l h false true ep eq e =
    let z = ltb-true to a eq in
    skip (leb from t) (leb t to) c d (lt-leb t to (omega arith))
passed t from to a b c d l h false false ep eq e = true_not e

unlisted_in : (a b : ℕ) (rows : List Row) → no_row a b rows ≡ true → (t : ℕ) → a ≤ t → t ≤ b → lookup rows t ≡ unlisted
unfolding lookup
unlisted_in a b [] e t l h = refl
unlisted_in a b (row from to c ∷ rows) e t l h =
    let p = both_true (ltb b from || ltb to a) (no_row a b rows) e in
    passed t from to a b c (lookup rows t) l h (ltb b from) (ltb to a) refl refl p.0 ∙ unlisted_in a b rows p.1 t l h

pub gap_form : (a b : ℕ) → no_row a b table ≡ true → (t : ℕ) → a ≤ t → t ≤ b → Unlisted ≡ form_code (class_of t)
unfolding class_of form_code
gap_form a b e t l h = sym (ap form_code (unlisted_in a b table e t l h))

-- a number that is not k is below it or above
side : {X : Type 0} (k t : ℕ) → (t ≡ k → ⊥) → (t < k → X) → (k < t → X) → (b : Bool) → ltb t k ≡ b → X
side k t ne under above true e = under (ltb-true t k e)
side k t ne under above false e = let h = ltb-false t k e in above (omega arith)

pub either_side : {X : Type 0} (k t : ℕ) → (t ≡ k → ⊥) → (t < k → X) → (k < t → X) → X
either_side k t ne under above = side k t ne under above (ltb t k) refl
