-- The input in pieces: the laws of specs/Pieces.antt.
-- Main results: answers_join, last_join (a text in two pieces: so the answers of all the pieces, one after the other, are those of the whole
-- input), by_lines (the answers character by character are those of the lines), whole_input.
use mathlib.Core.Path.{◌≡◌, refl, sym, ap, ap₂, ◌∙◌}
use mathlib.Core.Bool.{Bool, true, false}
use mathlib.Core.List.{List, [], ◌∷◌, ◌++◌, flat_map, append_assoc, append-nil}
use Prim.Native.Nat.{ℕ}
use lib.Dec.{eqb}
use Rattle.program.specs.Text.{newline, line_text}
use Rattle.program.specs.Stream.{line_from, lines_of, simplified}
use Rattle.program.specs.Pieces.{answers_at, answers, last_line_at, last_line, last_answer, whole_of, in_pieces}

-- ---- a text in two pieces
pub answers_join : (xs ys held : List ℕ) → answers (xs ++ ys) held ≡ answers xs held ++ answers ys (last_line xs held)
unfolding answers last_line
answers_join [] ys held = refl
answers_join (c ∷ xs) ys held = go (eqb c newline) (answers_join xs ys)
  where
    go : (b : Bool) → ((h : List ℕ) → answers (xs ++ ys) h ≡ answers xs h ++ answers ys (last_line xs h))
        → answers_at b held c (answers (xs ++ ys)) ≡ answers_at b held c (answers xs) ++ answers ys (last_line_at b held c (last_line xs))
    go true ih = ap (λ (l : List ℕ). line_text held ++ l) (ih []) ∙ sym (append_assoc (line_text held) (answers xs []) (answers ys (last_line xs [])))
    go false ih = ih (held ++ (c ∷ []))

pub last_join : (xs ys held : List ℕ) → last_line (xs ++ ys) held ≡ last_line ys (last_line xs held)
unfolding last_line
last_join [] ys held = refl
last_join (c ∷ xs) ys held = go (eqb c newline) (last_join xs ys)
  where
    go : (b : Bool) → ((h : List ℕ) → last_line (xs ++ ys) h ≡ last_line ys (last_line xs h))
        → last_line_at b held c (last_line (xs ++ ys)) ≡ last_line ys (last_line_at b held c (last_line xs))
    go true ih = ih []
    go false ih = ih (held ++ (c ∷ []))

-- ---- the whole input, in pieces: what is printed for each, and then at the end
from_held : (pieces : List (List ℕ)) (held : List ℕ) → in_pieces pieces held ≡ answers (whole_of pieces) held ++ last_answer
    (last_line (whole_of pieces) held)
unfolding in_pieces whole_of answers last_line
from_held [] held = refl
from_held (piece ∷ pieces) held =
    let rest = whole_of pieces in
    ap (λ (u : List ℕ). answers piece held ++ u) (from_held pieces (last_line piece held))
    ∙ sym (append_assoc (answers piece held) (answers rest (last_line piece held)) (last_answer (last_line rest (last_line piece held))))
    ∙ sym (ap₂ (λ (u v : List ℕ). u ++ last_answer v) (answers_join piece rest held) (last_join piece rest held))

-- ---- lines
-- the lines of a text, the first of which has begun with `held`
abbrev begun : List (List ℕ) → List ℕ → List (List ℕ)
begun [] [] = []
begun [] (h ∷ held) = (h ∷ held) ∷ []
begun (line ∷ lines) held = (held ++ line) ∷ lines

none_begun : (lines : List (List ℕ)) → begun lines [] ≡ lines
none_begun [] = refl
none_begun (line ∷ lines) = refl

more_begun : (c : ℕ) (lines : List (List ℕ)) (held : List ℕ) → begun lines (held ++ (c ∷ [])) ≡ begun (line_from false c lines) held
more_begun c [] [] = refl
more_begun c [] (h ∷ held) = refl
more_begun c (line ∷ lines) held = ap (λ (l : List ℕ). l ∷ lines) (append_assoc held (c ∷ []) line)

-- the answers, character by character, are those of the lines
pub by_lines : (text held : List ℕ) → answers text held ++ last_answer (last_line text held) ≡ flat_map line_text (begun (lines_of text) held)
unfolding answers last_line lines_of flat_map
by_lines [] [] = refl
by_lines [] (h ∷ held) = sym (append-nil (line_text (h ∷ held)))
by_lines (c ∷ text) held = go (eqb c newline) (by_lines text)
  where
    go : (b : Bool) → ((h : List ℕ) → answers text h ++ last_answer (last_line text h) ≡ flat_map line_text (begun (lines_of text) h))
        → answers_at b held c (answers text) ++ last_answer (last_line_at b held c (last_line text))
        ≡ flat_map line_text (begun (line_from b c (lines_of text)) held)
    go true ih =
        append_assoc (line_text held) (answers text []) (last_answer (last_line text [])) ∙ ap (λ (l : List ℕ). line_text held ++ l) (ih [])
        ∙ ap₂ (λ (l : List ℕ) (u : List (List ℕ)). line_text l ++ flat_map line_text u) (sym (append-nil held)) (none_begun (lines_of text))
    go false ih = ih (held ++ (c ∷ [])) ∙ ap (flat_map line_text) (more_begun c (lines_of text) held)

-- however the input is cut, its pieces print what `simplified` says of the whole
pub whole_input : (pieces : List (List ℕ)) → in_pieces pieces [] ≡ simplified (whole_of pieces)
unfolding simplified
whole_input pieces = from_held pieces [] ∙ by_lines (whole_of pieces) [] ∙ ap (flat_map line_text) (none_begun (lines_of (whole_of pieces)))
