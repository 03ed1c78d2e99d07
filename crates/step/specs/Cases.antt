-- "The starred cases form one table, proved by one evaluation of the definitions": those of document 01, "Frames to try", each by
-- the whole step on bytes, at place 0, with an output of 4,096 bytes. Frames stand here as document 01 writes them. ("the others, and
-- frames made at random, are run through the port and the Rust built from the repository and compared": docs/COMPARISON.md.) Then what
-- a step answers, and what it leaves in the lent output, for each way in which it ends.
use Rattle.std.specs.Prelude.{◌≡◌, refl, List, [], ◌∷◌, map, ℕ, Result, Ok, Err}
use Prim.Native.String.{String, ◌++◌}
use Rattle.frame.specs.declared.refusals.Refusal.{Refusal}
use Rattle.frame.specs.declared.refusals.Refusal.TheVariants.{EndsInside, NoRoom}
use Rattle.frame.specs.Lines.{digit_of, read_line}
use Rattle.frame.specs.Texts.{bytes}
use Rattle.frame.specs.Trees.{nodes}
use Rattle.frame.specs.Tags.{lookup, class_of, form_at}
use Rattle.frame.specs.Encoding.{enc_number, enc_ty, enc_tys, enc_head, enc}
use Rattle.frame.specs.Reading.{number_at, ty_case, read_ty, read_tys, with_number, with_form, read_head, read_many, read_node, parse}
use Rattle.frame.specs.Places.{find, replace}
use Rattle.frame.specs.Sameness.{same_ty, same_tys, same_tree}
use Rattle.typing.specs.Typing.{type_at, type_of, node_typed, typed_tree}
use Rattle.typing.specs.Binding.{closed_tree}
use Rattle.typing.specs.Identifiers.{givens_ty, givens_tys, idents, givens, agrees, agrees_with_givens, consistent, names_agree}
use Rattle.typing.specs.Check.{check_tree, check}
use Rattle.typing.specs.TypeExpression.{to_expression}
use Rattle.rules.specs.Change.{on_tag, contains}
use Rattle.rules.specs.Simplify.{make_neg, verdict, scan, simplify_assoc_pred, simplify_predicate_node}
use Rattle.rules.specs.Negation.{rewrite_not, rewrite_partition}
use Rattle.rules.specs.Finite.{uses, recovers, functional_check, rewrite_finite}
use Rattle.rules.specs.EqualsEmptySet.{any_single, first_single, any_minus, minuends, subtrahends, inter_empty, rewrite_equals_empty_set}
use Rattle.rules.specs.EqualsType.{rewrite_equals_type}
use Rattle.rules.specs.Dispatch.{dispatch}
use Rattle.step.specs.Step.{Outcome, wrote, kept, turned_down, step_tree, fit, step, step_answer, step_output}
use Rattle.step.specs.declared.Step.{Step}
use Rattle.step.specs.declared.Step.TheVariants.{Changed, Unchanged}

data Case : Type 0 where
  -- a frame, and the frame that it is changed to
  changed : String → String → Case
  unchanged : String → Case

-- "`b` is identifier 7 of type BOOL; P is b = TRUE, 006500010007000195. `a` is identifier 8 of type BOOL"
abbrev P : String
P = "006500010007000195"

abbrev a : String
a = "0001000800"

abbrev b : String
b = "0001000700"

-- "S and T are 1 and 2 of type ℙ(BOOL)"; and ∅ of that type
abbrev S : String
S = "000100010300"

abbrev T : String
T = "000100020300"

abbrev empty : String
empty = "01970300"

-- "p, q, r are 3, 4, 5 of type ℙ(BOOL×BOOL)"; and ∅ of that type
abbrev p : String
p = "0001000303040000"

abbrev q : String
q = "0001000403040000"

abbrev r : String
r = "0001000503040000"

abbrev empty_relation : String
empty_relation = "019703040000"

-- each operator with its tag: ¬ 701, = 101, {E} 5 with one member
abbrev not : String → String
not t = "02BD" ++ t

abbrev equal : String → String → String
equal t u = "0065" ++ t ++ u

abbrev single : String → String
single t = "000501" ++ t

starred : List Case
starred =
    -- "02BD0262 (¬⊤) to 0263"
    changed "02BD0262" "0263"
    -- "015F0202620262 to 0262"
    ∷ changed "015F0202620262" "0262"
    -- "P ∧ ¬P to ⊥"
    ∷ changed ("015F02" ++ P ++ not P) "0263"
    -- "P ⇒ ¬P to ¬P"
    ∷ changed ("00FB" ++ P ++ not P) (not P)
    -- "¬(b = FALSE) to P"
    ∷ changed (not (equal b "0196")) P
    -- "partition of one S to S = ∅"
    ∷ changed ("038501" ++ S) (equal S empty)
    -- "of S, T to S = T"
    ∷ changed ("038502" ++ S ++ T) (equal S T)
    -- "of three unchanged"
    ∷ unchanged ("038503" ++ S ++ T ++ S)
    -- "{a} ∩ {b} = ∅ to ¬(a ∈ {b})"
    ∷ changed (equal ("012E02" ++ single a ++ single b) empty) (not ("006B" ++ a ++ single b))
    -- "{a} ∩ {b} ∩ S = ∅ unchanged"
    ∷ unchanged (equal ("012E03" ++ single a ++ single b ++ S) empty)
    -- "p;q;r = ∅ unchanged"
    ∷ unchanged (equal ("013003" ++ p ++ q ++ r) empty_relation)
    ∷ []

abbrev frame_of : Case → List ℕ
frame_of (changed t u) = bytes t
frame_of (unchanged t) = bytes t

abbrev outcome : Case → Outcome
outcome (changed t u) = wrote (bytes u)
outcome (unchanged t) = kept

starred_cases : map (λ (c : Case). step (frame_of c) 0 4096) starred ≡ map outcome starred
unfolding digit_of read_line bytes nodes lookup class_of form_at enc_number enc_ty enc_tys enc_head enc number_at ty_case read_ty read_tys
    with_number with_form read_head read_many read_node parse find replace same_ty same_tys same_tree type_at type_of node_typed typed_tree closed_tree
    givens_ty givens_tys idents givens agrees agrees_with_givens consistent names_agree check_tree check to_expression on_tag contains make_neg verdict scan
    simplify_assoc_pred simplify_predicate_node rewrite_not rewrite_partition uses recovers functional_check rewrite_finite any_single first_single
    any_minus minuends subtrahends inter_empty rewrite_equals_empty_set rewrite_equals_type dispatch step_tree fit step starred
starred_cases = refl

-- ---- answers and outputs
data Lent : Type 0 where
  -- how a step ends, and the bytes of the lent output; what it answers, and the bytes afterwards
  lent : Outcome → String → Result Step Refusal → String → Lent

outputs : List Lent
outputs =
    -- "A changed step writes the whole new frame from byte 0; later bytes are kept. Its answer, and a run's, gives the frame's length."
    lent (wrote (bytes "0263")) "A1A2A3A4" (Ok (Changed 2)) "0263A3A4"
    ∷ lent (wrote (bytes "0263")) "A1A2" (Ok (Changed 2)) "0263"
    -- "Unchanged writes nothing."
    ∷ lent kept "A1A2A3A4" (Ok Unchanged) "A1A2A3A4"
    -- "Each answers its number alone and leaves the output's old bytes."
    ∷ lent (turned_down 3) "A1A2A3A4" (Err EndsInside) "A1A2A3A4"
    ∷ lent (turned_down 12) "A1" (Err NoRoom) "A1"
    ∷ []

abbrev answered_for : Lent → Result Step Refusal × List ℕ
answered_for (lent o d a e) = (step_answer o, step_output o (bytes d))

abbrev afterwards : Lent → Result Step Refusal × List ℕ
afterwards (lent o d a e) = (a, bytes e)

output_cases : map answered_for outputs ≡ map afterwards outputs
unfolding digit_of read_line bytes outputs
output_cases = refl
