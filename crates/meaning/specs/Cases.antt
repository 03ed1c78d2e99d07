-- What the operators mean, on BOOL and on literals, by one evaluation: predicates that hold in every interpretation, and predicates
-- that fail in every one. Frames stand here as document 01 writes them; each is read and checked first.
-- "Operators that a taken rule names mean what the Event-B Mathematical Language says"; "Literals and order have their usual meaning."
use Rattle.std.specs.Prelude.{◌≡◌, refl, Bool, true, false, ℕ, ◌-◌, ◌^◌, pos, negsuc}
use mathlib.Core.List.{List, [], ◌∷◌, map, flat_map, ◌++◌ as ◌++ᴸ◌}
use Prim.Native.String.{String, ◌++◌}
use Rattle.frame.specs.Tags.{lookup, class_of, form_at}
use Rattle.frame.specs.Lines.{digit_of, read_line}
use Rattle.frame.specs.Texts.{bytes}
use Rattle.frame.specs.Encoding.{enc_number, enc_ty}
use Rattle.frame.specs.Reading.{number_at, ty_case, read_ty, read_tys, with_number, with_form, read_head, read_many, read_node, parse}
use Rattle.frame.specs.Sameness.{same_ty, same_tys}
use Rattle.typing.specs.Typing.{type_at, type_of, node_typed, typed_tree}
use Rattle.typing.specs.Binding.{closed_tree}
use Rattle.typing.specs.Identifiers.{givens_ty, givens_tys, idents, givens, agrees, agrees_with_givens, consistent, names_agree}
use Rattle.typing.specs.Check.{Checked, accepted, refused, check_tree, check}
use Rattle.meaning.specs.Lists.{any, all}
use Rattle.meaning.specs.Values.{same_int, pairs, including, subsets, values, same, some_of, every_of, cast, as_type}
use Rattle.meaning.specs.Operations.{unnamed, others, operator, op_at, op_of}
use Rattle.meaning.specs.Operations.{logic as logic_op}
use Rattle.meaning.specs.Meaning.{
  literal_value,
  le_int,
  Interpretation,
  value_at,
  choices,
  onward,
  backwards,
  overridden,
  disjoint_from,
  disjoint,
  partitions,
  holds,
  value_of,
  quantified,
  bound_set,
  means,
  is_true,
}

data Case : Type 0 where
  -- a frame whose predicate is true, whose predicate is false
  true_is false_is : String → Case

-- ---- TRUE, FALSE, BOOL; ∅ of type ℙ(BOOL), and of type ℙ(BOOL × BOOL)
abbrev T : String
T = "0195"

abbrev F : String
F = "0196"

abbrev BOOL : String
BOOL = "0194"

abbrev empty : String
empty = "01970300"

abbrev empty_relation : String
empty_relation = "019703040000"

-- a ↦ b, {a}, {a, b}
abbrev maplet : String → String → String
maplet a b = "00C9" ++ a ++ b

abbrev one : String → String
one a = "000501" ++ a

abbrev both : String → String → String
both a b = "000502" ++ a ++ b

-- the literals 0 to 255 and −256 to −1, by their last byte
abbrev plus : String → String
plus d = "000400000000000000" ++ d

abbrev minus : String → String
minus d = "0004FFFFFFFFFFFFFF" ++ d

-- the bound identifiers with index 0 and 1
abbrev x : String
x = "000300"

abbrev y : String
y = "000301"

-- a = b, a ∈ b, a ⊆ b
abbrev equal : String → String → String
equal a b = "0065" ++ a ++ b

abbrev member : String → String → String
member a b = "006B" ++ a ++ b

abbrev subset : String → String → String
subset a b = "006F" ++ a ++ b

-- an operator by its tag, with one operand, with two
abbrev of : String → String → String
of g a = g ++ a

abbrev by : String → String → String → String
by g a b = g ++ a ++ b

-- {TRUE ↦ FALSE}, {FALSE ↦ TRUE}, and the two together
abbrev TF : String
TF = one (maplet T F)

abbrev FT : String
FT = one (maplet F T)

abbrev swap : String
swap = both (maplet T F) (maplet F T)

-- a frame that is accepted has a truth value
data Answer : Type 0 where
  truth : Bool → Answer
  none : Answer

abbrev answered : Interpretation → Checked → Answer
answered I (accepted t) = truth (is_true I t)
answered I (refused n) = none

logic : List Case
logic =
    -- ⊤, ⊥, ¬⊥
    true_is "0262"
    ∷ false_is "0263"
    ∷ true_is "02BD0263"
    -- ⊤ ∧ ⊤, ⊤ ∧ ⊥; ⊥ ∨ ⊤, ⊥ ∨ ⊥
    ∷ true_is "015F0202620262"
    ∷ false_is "015F0202620263"
    ∷ true_is "01600202630262"
    ∷ false_is "01600202630263"
    -- ⊤ ⇒ ⊥, ⊥ ⇒ ⊤; ⊤ ⇔ ⊥, ⊥ ⇔ ⊤, ⊥ ⇔ ⊥
    ∷ false_is "00FB02620263"
    ∷ true_is "00FB02630262"
    ∷ false_is "00FC02620263"
    ∷ false_is "00FC02630262"
    ∷ true_is "00FC02630263"
    -- ∀x·x = TRUE, ∃x·x = TRUE
    ∷ false_is ("03530100" ++ equal x T)
    ∷ true_is ("03540100" ++ equal x T)
    -- ∀y, x·y = x, ∀y·∃x·y = x
    ∷ false_is ("0353020000" ++ equal y x)
    ∷ true_is ("0353010003540100" ++ equal y x)
    ∷ []

numbers : List Case
numbers =
    -- 1 < 2, 2 < 2, 2 < 1
    true_is (by "0067" (plus "01") (plus "02"))
    ∷ false_is (by "0067" (plus "02") (plus "02"))
    ∷ false_is (by "0067" (plus "02") (plus "01"))
    -- 2 ≤ 2, 2 ≤ 1; 2 > 1, 2 > 2; 2 ≥ 2, 1 ≥ 2
    ∷ true_is (by "0068" (plus "02") (plus "02"))
    ∷ false_is (by "0068" (plus "02") (plus "01"))
    ∷ true_is (by "0069" (plus "02") (plus "01"))
    ∷ false_is (by "0069" (plus "02") (plus "02"))
    ∷ true_is (by "006A" (plus "02") (plus "02"))
    ∷ false_is (by "006A" (plus "01") (plus "02"))
    -- −1 < 0, 0 < −1, −2 < −1, −1 < −2, −1 = −1, −1 = 1
    ∷ true_is (by "0067" (minus "FF") (plus "00"))
    ∷ false_is (by "0067" (plus "00") (minus "FF"))
    ∷ true_is (by "0067" (minus "FE") (minus "FF"))
    ∷ false_is (by "0067" (minus "FF") (minus "FE"))
    ∷ true_is (equal (minus "FF") (minus "FF"))
    ∷ false_is (equal (minus "FF") (plus "01"))
    -- the lowest number is below the highest
    ∷ true_is (by "0067" "00048000000000000000" "00047FFFFFFFFFFFFFFF")
    -- 0 ∈ ℕ, −1 ∈ ℕ, 1 ∈ ℕ1, 0 ∈ ℕ1, −1 ∈ ℤ
    ∷ true_is (member (plus "00") "0192")
    ∷ false_is (member (minus "FF") "0192")
    ∷ true_is (member (plus "01") "0193")
    ∷ false_is (member (plus "00") "0193")
    ∷ true_is (member (minus "FF") "0191")
    -- −1 ∈ −1‥2, 2 ∈ −1‥2, −2 ∈ −1‥2, 3 ∈ −1‥2
    ∷ true_is (member (minus "FF") (by "00DD" (minus "FF") (plus "02")))
    ∷ true_is (member (plus "02") (by "00DD" (minus "FF") (plus "02")))
    ∷ false_is (member (minus "FE") (by "00DD" (minus "FF") (plus "02")))
    ∷ false_is (member (plus "03") (by "00DD" (minus "FF") (plus "02")))
    ∷ []

sets : List Case
sets =
    -- TRUE = FALSE; TRUE ∈ {TRUE}, FALSE ∈ {TRUE}, FALSE ∈ {TRUE, FALSE}
    false_is (equal T F)
    ∷ true_is (member T (one T))
    ∷ false_is (member F (one T))
    ∷ true_is (member F (both T F))
    -- {TRUE, FALSE} = BOOL, {TRUE} = BOOL, {TRUE} = ∅
    ∷ true_is (equal (both T F) BOOL)
    ∷ false_is (equal (one T) BOOL)
    ∷ false_is (equal (one T) empty)
    -- {TRUE} ⊆ BOOL, BOOL ⊆ {TRUE}
    ∷ true_is (subset (one T) BOOL)
    ∷ false_is (subset BOOL (one T))
    -- BOOL ∖ {TRUE} = {FALSE}, {TRUE} ∪ {FALSE} = BOOL, BOOL ∩ {TRUE} = {TRUE}
    ∷ true_is (equal (by "00D5" BOOL (one T)) (one F))
    ∷ true_is (equal (by "012D02" (one T) (one F)) BOOL)
    ∷ true_is (equal (by "012E02" BOOL (one T)) (one T))
    -- ℙ({TRUE}) = {∅, {TRUE}}, ℙ1({TRUE}) = {{TRUE}}
    ∷ true_is (equal (of "02F0" (one T)) (both empty (one T)))
    ∷ true_is (equal (of "02F1" (one T)) (one (one T)))
    -- union({{TRUE}, ∅}) = {TRUE}, inter({{TRUE}, BOOL}) = {TRUE}
    ∷ true_is (equal (of "02F2" (both (one T) empty)) (one T))
    ∷ true_is (equal (of "02F3" (both (one T) BOOL)) (one T))
    -- ⋃x·x = TRUE ∣ {x} is {TRUE}, ⋂x·x = TRUE ∣ {x} is {TRUE}, ⋂x·⊤ ∣ {x} is ∅
    ∷ true_is (equal ("03210100" ++ equal x T ++ one x) (one T))
    ∷ true_is (equal ("03220100" ++ equal x T ++ one x) (one T))
    ∷ true_is (equal ("032201000262" ++ one x) empty)
    -- {x·x = TRUE ∣ x} = {TRUE}, {y, x·y = TRUE ∣ y ↦ x} = {TRUE ↦ TRUE, TRUE ↦ FALSE}
    ∷ true_is (equal ("03230100" ++ equal x T ++ x) (one T))
    ∷ true_is (equal ("0323020000" ++ equal y T ++ maplet y x) (both (maplet T T) (maplet T F)))
    -- finite(BOOL): "finite is true here."
    ∷ true_is (of "026C" BOOL)
    -- partition(BOOL, {TRUE}, {FALSE}); its parts not disjoint; not all of it
    ∷ true_is ("038503" ++ BOOL ++ one T ++ one F)
    ∷ false_is ("038503" ++ BOOL ++ one T ++ BOOL)
    ∷ false_is ("038502" ++ BOOL ++ one T)
    ∷ []

relations : List Case
relations =
    -- TRUE ↦ FALSE = FALSE ↦ TRUE; {TRUE} × {FALSE} = {TRUE ↦ FALSE}
    false_is (equal (maplet T F) (maplet F T))
    ∷ true_is (equal (by "00D6" (one T) (one F)) TF)
    -- dom({TRUE ↦ FALSE}) = {TRUE}, ran({TRUE ↦ FALSE}) = {FALSE}, {TRUE ↦ FALSE}∼ = {FALSE ↦ TRUE}
    ∷ true_is (equal (of "02F4" TF) (one T))
    ∷ true_is (equal (of "02F5" TF) (one F))
    ∷ true_is (equal (of "02FB" TF) FT)
    -- of {TRUE ↦ FALSE, FALSE ↦ TRUE}: {TRUE} ◁, {TRUE} ⩤, ▷ {TRUE}, ⩥ {TRUE}, [{TRUE}]
    ∷ true_is (equal (by "00D9" (one T) swap) TF)
    ∷ true_is (equal (by "00DA" (one T) swap) FT)
    ∷ true_is (equal (by "00DB" swap (one T)) FT)
    ∷ true_is (equal (by "00DC" swap (one T)) TF)
    ∷ true_is (equal (by "00E3" swap (one T)) (one F))
    -- {TRUE ↦ FALSE} ; {FALSE ↦ FALSE} = {TRUE ↦ FALSE}, the reverse is ∅; with ∘ it is the other way round
    ∷ true_is (equal (by "013002" TF (one (maplet F F))) TF)
    ∷ true_is (equal (by "013002" (one (maplet F F)) TF) empty_relation)
    ∷ true_is (equal (by "012F02" (one (maplet F F)) TF) TF)
    ∷ true_is (equal (by "012F02" TF (one (maplet F F))) empty_relation)
    -- of three: {TRUE ↦ FALSE} ; {FALSE ↦ TRUE} ; {TRUE ↦ FALSE} = {TRUE ↦ FALSE}, and the same with ∘
    ∷ true_is (equal ("013003" ++ TF ++ FT ++ TF) TF)
    ∷ true_is (equal ("012F03" ++ TF ++ FT ++ TF) TF)
    -- {TRUE ↦ FALSE, FALSE ↦ TRUE} <+ {TRUE ↦ TRUE} = {FALSE ↦ TRUE, TRUE ↦ TRUE}
    ∷ true_is (equal (by "013102" swap (one (maplet T T))) (both (maplet F T) (maplet T T)))
    -- {TRUE ↦ FALSE} ⊗ {TRUE ↦ TRUE} = {TRUE ↦ (FALSE ↦ TRUE)}
    ∷ true_is (equal (by "00D7" TF (one (maplet T T))) (one (maplet T (maplet F T))))
    -- {TRUE ↦ FALSE} ∥ {TRUE ↦ TRUE} = {(TRUE ↦ TRUE) ↦ (FALSE ↦ TRUE)}
    ∷ true_is (equal (by "00D8" TF (one (maplet T T))) (one (maplet (maplet T T) (maplet F T))))
    -- (TRUE ↦ FALSE) ↦ TRUE is in prj1 and not in prj2; (TRUE ↦ FALSE) ↦ FALSE is in prj2
    ∷ true_is (member (maplet (maplet T F) T) "019A030404000000")
    ∷ false_is (member (maplet (maplet T F) T) "019B030404000000")
    ∷ true_is (member (maplet (maplet T F) F) "019B030404000000")
    -- TRUE ↦ TRUE ∈ id, TRUE ↦ FALSE ∈ id
    ∷ true_is (member (maplet T T) "019C03040000")
    ∷ false_is (member (maplet T F) "019C03040000")
    -- <->>, onto the whole right side: {TRUE ↦ FALSE} ∈ BOOL <->> {FALSE}, ∉ BOOL <->> BOOL; and within: ∉ {FALSE} <->> {FALSE}
    ∷ true_is (member TF (by "00CC" BOOL (one F)))
    ∷ false_is (member TF (by "00CC" BOOL BOOL))
    ∷ false_is (member TF (by "00CC" (one F) (one F)))
    -- <<->>, from the whole left side too: {TRUE ↦ FALSE} ∉ BOOL <<->> {FALSE}, ∈ {TRUE} <<->> {FALSE}
    ∷ false_is (member TF (by "00CD" BOOL (one F)))
    ∷ true_is (member TF (by "00CD" (one T) (one F)))
    ∷ []

cases : List Case
cases = logic ++ᴸ numbers ++ᴸ sets ++ᴸ relations

abbrev frame_in : Case → List ℕ
frame_in (true_is t) = bytes t
frame_in (false_is t) = bytes t

abbrev expected : Case → Answer
expected (true_is t) = truth true
expected (false_is t) = truth false

truths : (I : Interpretation) → map (λ (c : Case). answered I (check (frame_in c))) cases ≡ map expected cases
unfolding digit_of read_line bytes lookup class_of form_at enc_number enc_ty number_at ty_case read_ty read_tys with_number with_form read_head
    read_many read_node parse same_ty same_tys type_at type_of node_typed typed_tree closed_tree givens_ty givens_tys idents givens agrees agrees_with_givens
    consistent names_agree check_tree check any all same_int pairs including subsets values same some_of every_of cast as_type op_at op_of literal_value le_int
    value_at choices flat_map onward backwards overridden disjoint_from disjoint partitions holds value_of quantified bound_set means is_true logic
    numbers sets relations cases
truths I = refl

-- "the others are any fixed function of operator, operand values and result type": ≠ ∉ ⊂ ⊄ ⊈; then bool(P), ↔ ⇸ and the other arrows, − ÷ mod ^,
-- f(x), + ∗, pred succ, card, min max, unary −
unnamed_predicates : List ℕ
unnamed_predicates = 102 ∷ 108 ∷ 109 ∷ 110 ∷ 112 ∷ []

unnamed_expressions : List ℕ
unnamed_expressions =
    601 ∷ 202 ∷ 203 ∷ 206 ∷ 207 ∷ 208 ∷ 209 ∷ 210 ∷ 211 ∷ 212 ∷ 222 ∷ 223 ∷ 224 ∷ 225 ∷ 226 ∷ 306 ∷ 307 ∷ 408 ∷ 409 ∷ 751 ∷ 761 ∷ 762 ∷ 764 ∷ []

others_are : (map op_of unnamed_predicates ≡ map (λ g. logic_op unnamed) unnamed_predicates)
    × (map op_of unnamed_expressions ≡ map (λ g. operator others) unnamed_expressions)
unfolding op_of op_at class_of lookup unnamed_predicates unnamed_expressions
others_are = (refl, refl)

-- "eight bytes in two's complement": 0, −1, the highest and the lowest number
literal_values : map literal_value (0 ∷ (2 ^ 64 - 1) ∷ (2 ^ 63 - 1) ∷ (2 ^ 63) ∷ []) ≡ (pos 0 ∷ negsuc 0 ∷ pos (2 ^ 63 - 1) ∷ negsuc (2 ^ 63 - 1) ∷ [])
unfolding literal_value
literal_values = refl
