-- Numbers 8 to 10 in their order, by one evaluation of `check`; 0 is a frame that is accepted.
use Rattle.std.specs.Prelude.{◌≡◌, refl, List, [], ◌∷◌, map, ℕ}
use Prim.Native.String.{String, ◌++◌}
use Rattle.frame.specs.Tags.{lookup, class_of, form_at}
use Rattle.frame.specs.Lines.{digit_of, read_line}
use Rattle.frame.specs.Texts.{bytes, times}
use Rattle.frame.specs.Encoding.{enc_number, enc_ty}
use Rattle.frame.specs.Reading.{number_at, ty_case, read_ty, read_tys, with_number, with_form, read_head, read_many, read_node, parse}
use Rattle.frame.specs.Sameness.{same_ty, same_tys}
use Rattle.typing.specs.Typing.{type_at, type_of, node_typed, typed_tree}
use Rattle.typing.specs.Binding.{closed_tree}
use Rattle.typing.specs.Identifiers.{givens_ty, givens_tys, idents, givens, agrees, agrees_with_givens, consistent, names_agree}
use Rattle.typing.specs.Check.{Checked, accepted, refused, check_tree, check}

data Case : Type 0 where
  -- a frame, and its number
  number_of : String → ℕ → Case

cases : List Case
cases =
    -- a bound index with no binder
    number_of "026C000300" 8
    -- index 1 under one binder
    ∷ number_of "0353010000650003010195" 8
    -- index 0 under one binder
    ∷ number_of "0353010000650003000195" 0
    -- 8 before 9 and 10
    ∷ number_of "015F02006500010007000001000701026C000300" 8
    -- one identifier, two types
    ∷ number_of "015F02026C000100070300026C000100070301" 9
    -- a given set's number, and another type
    ∷ number_of "015F02026C000100070300026C0001000803020007" 9
    -- a given set in a binder's type, and its number with another type
    ∷ number_of "015F02026C0001000703000353010200070262" 9
    -- a given set's identifier
    ∷ number_of "026C0001000703020007" 0
    -- 9 before 10
    ∷ number_of "015F02026C0001000700026C0001000701" 9
    -- finite of no set
    ∷ number_of "026C0001000700" 10
    -- = of two types
    ∷ number_of "006500010007000001000801" 10
    -- ∅ of no power
    ∷ number_of "026C019700" 10
    -- prj1 typed as prj2
    ∷ number_of "026C019A030404000101" 10
    -- prj1
    ∷ number_of "026C019A030404000100" 0
    -- id of another shape
    ∷ number_of "026C019C03040001" 10
    -- a type of 64 bytes
    ∷ number_of ("026C00010007" ++ times 63 "03" ++ "00") 0
    -- a derived type of 65 bytes
    ∷ number_of ("026C02F000010007" ++ times 63 "03" ++ "00") 10
    ∷ []

abbrev frame_in : Case → List ℕ
frame_in (number_of t n) = bytes t

abbrev expected : Case → ℕ
expected (number_of t n) = n

abbrev number : Checked → ℕ
number (accepted t) = 0
number (refused n) = n

refusals : map (λ (c : Case). number (check (frame_in c))) cases ≡ map expected cases
unfolding digit_of read_line bytes times lookup class_of form_at enc_number enc_ty number_at ty_case read_ty read_tys with_number with_form
    read_head read_many read_node parse same_ty same_tys type_at type_of node_typed typed_tree closed_tree givens_ty givens_tys idents givens agrees
    agrees_with_givens consistent names_agree check_tree check cases
refusals = refl
