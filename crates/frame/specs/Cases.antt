-- Numbers 3 to 7 at their limits, and number 2 for no byte, by one evaluation of `parse`; 0 is a frame that is read.
-- "4,096 bytes read, 4,097 number 2. 32 binders read, 33 number 5. 63 powers over BOOL read, 64 number 6.": the binders and the
-- powers are in this table; the frames of 4,096 and of 4,097 bytes are not: programs run them (crates/replay;
-- tests/simplify for one too long).
use Rattle.std.specs.Prelude.{◌≡◌, refl, List, [], ◌∷◌, map, ℕ}
use Prim.Native.String.{String, ◌++◌}
use Rattle.frame.specs.Tags.{lookup, class_of, form_at}
use Rattle.frame.specs.Lines.{digit_of, read_line}
use Rattle.frame.specs.Texts.{bytes, times}
use Rattle.frame.specs.Reading.{
  number_at,
  ty_case,
  read_ty,
  read_tys,
  with_number,
  with_form,
  read_head,
  read_many,
  read_node,
  Parsed,
  tree,
  bad,
  parse,
}

data Case : Type 0 where
  -- a frame, and its number
  number_of : String → ℕ → Case

cases : List Case
cases =
    -- no byte
    number_of "" 2
    -- the tag is cut
    ∷ number_of "02" 3
    -- an identifier's number is cut
    ∷ number_of "00650001" 3
    -- its type is cut
    ∷ number_of "006500010007" 3
    -- the second child is missing
    ∷ number_of "00650001000700" 3
    -- a tag that isn't listed
    ∷ number_of "02BE" 4
    -- the tag after the last of a row
    ∷ number_of "0264" 4
    -- an expression at the root
    ∷ number_of "0194" 4
    -- a predicate where an expression must stand
    ∷ number_of "00650262" 4
    -- ∧ of one
    ∷ number_of "015F010262" 5
    -- partition of none
    ∷ number_of "038500" 5
    -- no binder
    ∷ number_of "0353000262" 5
    -- 33 binders
    ∷ number_of ("035321" ++ times 33 "00" ++ "0262") 5
    -- 32 binders
    ∷ number_of ("035320" ++ times 32 "00" ++ "0262") 0
    -- a type byte 05
    ∷ number_of "026C000100010505" 6
    -- 64 powers
    ∷ number_of ("026C00010001" ++ times 64 "03" ++ "00") 6
    -- 63 powers
    ∷ number_of ("026C00010001" ++ times 63 "03" ++ "00") 0
    -- the limit before the end: 64 bytes, and no more
    ∷ number_of ("026C00010001" ++ times 64 "03") 6
    -- the end before the limit
    ∷ number_of ("026C00010001" ++ times 63 "03") 3
    -- a given set cut by the limit
    ∷ number_of ("026C00010001" ++ times 63 "03" ++ "0200") 6
    -- a given set cut by the end
    ∷ number_of ("026C00010001" ++ times 62 "03" ++ "02") 3
    -- a byte too many
    ∷ number_of "026200" 7
    -- 4 before 5: the first met
    ∷ number_of "015F020194015F010262" 4
    -- 5 before 4: the first met
    ∷ number_of "015F010194" 5
    ∷ []

abbrev frame_in : Case → List ℕ
frame_in (number_of t n) = bytes t

abbrev expected : Case → ℕ
expected (number_of t n) = n

abbrev number : Parsed → ℕ
number (tree t) = 0
number (bad n) = n

refusals : map (λ (c : Case). number (parse (frame_in c))) cases ≡ map expected cases
unfolding digit_of read_line bytes times lookup class_of form_at number_at ty_case read_ty read_tys with_number with_form read_head read_many
    read_node parse cases
refusals = refl
