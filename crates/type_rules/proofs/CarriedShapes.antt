-- The shapes of carried types, by class.
-- Main result: shape_class.
use mathlib.Core.Path.{◌≡◌, refl, sym, ap, ◌∙◌}
use mathlib.Core.Bool.{Bool, true, false}
use Prim.Native.Nat.{ℕ, zero, suc, ◌<◌}
use native.Mathlib.Omega.{arith}
use lib.Dec.{ltb, eqb}
use borrow.Author.Tests.{ltb-true, ltb-false, eqb-true, ne_eqb}
use Rattle.frame.specs.Types.{Ty, pow, prod}
use Rattle.frame.specs.Tags.{
  pick,
  table,
  class_of,
  Class,
  literal_pred,
  equality,
  order,
  membership,
  inclusion,
  binary_pred,
  associative_pred,
  negation,
  quantified_pred,
  finite,
  partition,
  identifier,
  bound,
  literal,
  set_extension,
  maplet,
  relation_set,
  set_minus,
  cartesian,
  direct_product,
  parallel_product,
  domain_restriction,
  range_restriction,
  up_to,
  arithmetic,
  function_image,
  relational_image,
  set_operation,
  backward_composition,
  forward_composition,
  override,
  sum,
  integer_set,
  bool_set,
  truth_value,
  integer_relation,
  empty_set,
  projection1,
  projection2,
  identity,
  bool_expr,
  cardinal,
  powerset,
  generalised,
  domain,
  range,
  extremum,
  converse,
  unary_minus,
  quantified_set,
  comprehension,
  unlisted,
}
use Rattle.frame.proofs.EveryTag.{along_rows, every_tag, unlisted_past}
use Rattle.typing.specs.Typing.{shape, element, source, first, second, relation}
use Rattle.type_rules.proofs.ClassShapes.{shape_for}

-- ---- the shapes
abbrev shape_number : Class → ℕ
shape_number literal_pred = 0
shape_number equality = 0
shape_number order = 0
shape_number membership = 0
shape_number inclusion = 0
shape_number binary_pred = 0
shape_number associative_pred = 0
shape_number negation = 0
shape_number quantified_pred = 0
shape_number finite = 0
shape_number partition = 0
shape_number identifier = 0
shape_number bound = 0
shape_number literal = 0
shape_number set_extension = 0
shape_number maplet = 0
shape_number relation_set = 0
shape_number set_minus = 0
shape_number cartesian = 0
shape_number direct_product = 0
shape_number parallel_product = 0
shape_number domain_restriction = 0
shape_number range_restriction = 0
shape_number up_to = 0
shape_number arithmetic = 0
shape_number function_image = 0
shape_number relational_image = 0
shape_number set_operation = 0
shape_number backward_composition = 0
shape_number forward_composition = 0
shape_number override = 0
shape_number sum = 0
shape_number integer_set = 0
shape_number bool_set = 0
shape_number truth_value = 0
shape_number integer_relation = 0
shape_number empty_set = 1
shape_number projection1 = 2
shape_number projection2 = 3
shape_number identity = 4
shape_number bool_expr = 0
shape_number cardinal = 0
shape_number powerset = 0
shape_number generalised = 0
shape_number domain = 0
shape_number range = 0
shape_number extremum = 0
shape_number converse = 0
shape_number unary_minus = 0
shape_number quantified_set = 0
shape_number comprehension = 0
shape_number unlisted = 0

abbrev tag_shape : ℕ → ℕ
tag_shape g = pick (eqb g 407) 1 (pick (eqb g 410) 2 (pick (eqb g 411) 3 (pick (eqb g 412) 4 0)))

abbrev shaped : ℕ → Ty → Ty
shaped zero t = t
shaped (suc zero) t = pow (element t)
shaped (suc (suc zero)) t = relation (prod (first (source t)) (second (source t))) (first (source t))
shaped (suc (suc (suc zero))) t = relation (prod (first (source t)) (second (source t))) (second (source t))
shaped (suc (suc (suc (suc n)))) t = relation (source t) (source t)

tag_shaped : (a b c d : Bool) (t : Ty) →
    pick a (pow (element t)) (pick b (relation (prod (first (source t)) (second (source t))) (first (source t)))
    (pick c (relation (prod (first (source t)) (second (source t))) (second (source t))) (pick d (relation (source t) (source t)) t)))
    ≡ shaped (pick a 1 (pick b 2 (pick c 3 (pick d 4 0)))) t
tag_shaped true b c d t = refl
tag_shaped false true c d t = refl
tag_shaped false false true d t = refl
tag_shaped false false false true t = refl
tag_shaped false false false false t = refl

class_shaped : (c : Class) (t : Ty) → shape_for c t ≡ shaped (shape_number c) t
class_shaped literal_pred t = refl
class_shaped equality t = refl
class_shaped order t = refl
class_shaped membership t = refl
class_shaped inclusion t = refl
class_shaped binary_pred t = refl
class_shaped associative_pred t = refl
class_shaped negation t = refl
class_shaped quantified_pred t = refl
class_shaped finite t = refl
class_shaped partition t = refl
class_shaped identifier t = refl
class_shaped bound t = refl
class_shaped literal t = refl
class_shaped set_extension t = refl
class_shaped maplet t = refl
class_shaped relation_set t = refl
class_shaped set_minus t = refl
class_shaped cartesian t = refl
class_shaped direct_product t = refl
class_shaped parallel_product t = refl
class_shaped domain_restriction t = refl
class_shaped range_restriction t = refl
class_shaped up_to t = refl
class_shaped arithmetic t = refl
class_shaped function_image t = refl
class_shaped relational_image t = refl
class_shaped set_operation t = refl
class_shaped backward_composition t = refl
class_shaped forward_composition t = refl
class_shaped override t = refl
class_shaped sum t = refl
class_shaped integer_set t = refl
class_shaped bool_set t = refl
class_shaped truth_value t = refl
class_shaped integer_relation t = refl
class_shaped empty_set t = refl
class_shaped projection1 t = refl
class_shaped projection2 t = refl
class_shaped identity t = refl
class_shaped bool_expr t = refl
class_shaped cardinal t = refl
class_shaped powerset t = refl
class_shaped generalised t = refl
class_shaped domain t = refl
class_shaped range t = refl
class_shaped extremum t = refl
class_shaped converse t = refl
class_shaped unary_minus t = refl
class_shaped quantified_set t = refl
class_shaped comprehension t = refl
class_shaped unlisted t = refl

shapes_right : along_rows (λ g c. eqb (shape_number c) (tag_shape g)) 902 0 table ≡ true
shapes_right = refl

shape_past : (g : ℕ) → 901 < g → tag_shape g ≡ 0
shape_past g h = simp (ne_eqb g 407 (omega arith), ne_eqb g 410 (omega arith), ne_eqb g 411 (omega arith), ne_eqb g 412 (omega arith))

shape_number_lem : (g : ℕ) (b : Bool) → ltb g 902 ≡ b → shape_number (class_of g) ≡ tag_shape g
shape_number_lem g true e = eqb-true _ _ (every_tag (λ i c. eqb (shape_number c) (tag_shape i)) 902 shapes_right g (ltb-true g 902 e))
shape_number_lem g false e =
    let h = ltb-false g 902 e in
    ap shape_number (unlisted_past g (omega arith)) ∙ sym (shape_past g (omega arith))

pub shape_class : (g : ℕ) (t : Ty) → shape g t ≡ shape_for (class_of g) t
shape_class g t =
    tag_shaped (eqb g 407) (eqb g 410) (eqb g 411) (eqb g 412) t
    ∙ sym (class_shaped (class_of g) t ∙ ap (λ (i : ℕ). shaped i t) (shape_number_lem g (ltb g 902) refl))
