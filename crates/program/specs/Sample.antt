-- Document 01's own example of the program, a line that is none and a last line without an end, by one evaluation of `simplified`; then
-- how answers of every word are printed.
use Rattle.std.specs.Prelude.{◌≡◌, refl, ℕ}
use mathlib.Core.List.{List, [], ◌∷◌, map, flat_map}
use Prim.Native.String.{String}
use Rattle.frame.specs.Trees.{nodes}
use Rattle.frame.specs.Tags.{lookup, class_of, form_at}
use Rattle.frame.specs.Lines.{digit_of, read_line, digit_for, write_line}
use Rattle.frame.specs.Texts.{codes, bytes}
use Rattle.frame.specs.Encoding.{enc_number, enc_ty, enc_tys, enc_head, enc}
use Rattle.frame.specs.Reading.{number_at, ty_case, read_ty, read_tys, with_number, with_form, read_head, read_many, read_node, parse}
use Rattle.frame.specs.Places.{find, replace}
use Rattle.frame.specs.Sameness.{same_ty, same_tys, same_tree}
use Rattle.typing.specs.Typing.{type_at, type_of, node_typed, typed_tree}
use Rattle.typing.specs.Binding.{closed_tree}
use Rattle.typing.specs.Identifiers.{givens_ty, givens_tys, idents, givens, agrees, agrees_with_givens, consistent, names_agree}
use Rattle.typing.specs.Check.{check_tree, check}
use Rattle.typing.specs.TypeExpression.{to_expression}
use Rattle.rules.specs.Change.{on_tag, contains}
use Rattle.rules.specs.Simplify.{make_neg, verdict, scan, simplify_assoc_pred, simplify_predicate_node}
use Rattle.rules.specs.Negation.{rewrite_not, rewrite_partition}
use Rattle.rules.specs.Finite.{uses, recovers, functional_check, rewrite_finite}
use Rattle.rules.specs.EqualsEmptySet.{any_single, first_single, any_minus, minuends, subtrahends, inter_empty, rewrite_equals_empty_set}
use Rattle.rules.specs.EqualsType.{rewrite_equals_type}
use Rattle.rules.specs.Dispatch.{dispatch}
use Rattle.step.specs.Step.{step_tree}
use Rattle.run.specs.Run.{first_from, first_step, run_tree, REST, SPENT, FULL, RunOutcome, ended, turned_down, run}
use Rattle.program.specs.Text.{decimal_in, decimal, ended_text, refused_text, answer_text, line_text}
use Rattle.program.specs.Stream.{lines_of, simplified}

data Case : Type 0 where
  -- an input, and the whole output
  prints : String → String → Case

cases : List Case
cases =
    -- "Input 026C012D02000501019501970300, 02BD0262, 02, an empty line. Output, whole"
    prints "026C012D02000501019501970300\n02BD0262\n02\n\n" "REST 4 0262\nREST 1 0263\nREFUSED 3\nREFUSED 2\n"
    -- "1. A text line has an odd count of characters or one outside 0-9, A-F."
    ∷ prints "026\n02G2\n02bd0262\n" "REFUSED 1\nREFUSED 1\nREFUSED 1\n"
    -- "bytes after the last 0A are a line too, if there are any"
    ∷ prints "02BD0262\n0262" "REST 1 0263\nREST 0 0262\n"
    ∷ []

abbrev printed : Case → List ℕ
printed (prints i o) = simplified (codes i)

abbrev expected : Case → List ℕ
expected (prints i o) = codes o

sample : map printed cases ≡ map expected cases
unfolding digit_of read_line digit_for write_line nodes lookup class_of form_at enc_number enc_ty enc_tys enc_head enc number_at ty_case read_ty
    read_tys
    with_number with_form read_head read_many read_node parse find replace same_ty same_tys same_tree type_at type_of node_typed typed_tree closed_tree
    givens_ty givens_tys idents givens agrees agrees_with_givens consistent names_agree check_tree check to_expression on_tag contains make_neg verdict scan
    simplify_assoc_pred simplify_predicate_node rewrite_not rewrite_partition uses recovers functional_check rewrite_finite any_single first_single
    any_minus minuends subtrahends inter_empty rewrite_equals_empty_set rewrite_equals_type dispatch step_tree first_from first_step run_tree run
    decimal_in decimal ended_text refused_text answer_text line_text flat_map lines_of simplified cases
sample = refl

-- ---- answers of every word, with counts of one digit and of more: "prints the answer word, the step count in decimal and the frame, or
-- REFUSED and the number, with one space between"
data Printed : Type 0 where
  printed_as : RunOutcome → String → Printed

answered : List Printed
answered =
    printed_as (ended REST 0 (bytes "0262")) "REST 0 0262\n"
    ∷ printed_as (ended SPENT 9 (bytes "02BD0262")) "SPENT 9 02BD0262\n"
    ∷ printed_as (ended FULL 10 (bytes "0263")) "FULL 10 0263\n"
    ∷ printed_as (ended SPENT 65535 (bytes "0262")) "SPENT 65535 0262\n"
    ∷ printed_as (turned_down 10) "REFUSED 10\n"
    ∷ []

abbrev text_of : Printed → List ℕ
text_of (printed_as o t) = answer_text o

abbrev wanted : Printed → List ℕ
wanted (printed_as o t) = codes t

answer_texts : map text_of answered ≡ map wanted answered
unfolding digit_of read_line bytes digit_for write_line decimal_in decimal ended_text refused_text answer_text answered
answer_texts = refl
