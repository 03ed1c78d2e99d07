-- What a template is filled to is the bytes of its place's right side, as rules/specs/Equations.antt has it.
-- Main results: side (the right side of each place; where the place joins any number of operands, of one of them) and right_side.
use mathlib.Core.Path.{◌≡◌, refl, ap}
use mathlib.Core.Bool.{Bool, true, false, ◌||◌}
use mathlib.Core.List.{List, [], ◌∷◌}
use Prim.Native.Nat.{ℕ}
use native.Mathlib.Omega.{arith}
use lib.Dec.{eqb}
use borrow.Author.Tests.{eqb-true}
use Rattle.frame.specs.Types.{Ty}
use Rattle.frame.specs.Trees.{Tree, cons, leaf, two, sole, pair, bodied}
use Rattle.frame.specs.Tags.{pick, lookup, class_of, form_at}
use Rattle.frame.specs.Operators.{#Lt, #Le, #Gt, #Ge, #DomRes, #True, #False, #CSet}
use Rattle.frame.specs.Places.{Ctx}
use Rattle.frame.specs.Encoding.{enc}
use Rattle.typing.specs.Typing.{type_of, element, source}
use Rattle.typing.specs.TypeExpression.{to_expression}
use Rattle.rules.specs.Equations.{⊤, ⊥ᵖ, ¬ᵖ, ◌⇒◌, ◌⇔◌, ⋀, ⋁, ∀ᵖ, ∃ᵖ, ◌≐◌, ◌⊆◌, fin, ext, dom, ran, inters, ∅, ◌≐∅, ◌≐Ty}
use Rattle.templates.specs.Template.{Filling, filled}
use Rattle.templates.specs.Programs.{templates, among, find_row, template}
use Rattle.templates.proofs.Onto.{number_onto, types_onto, head_onto, onto, all_onto, part_onto, filled_onto, same_bytes}

-- a right side, by the context of the operands, the operands and the types of the binders
abbrev pub Side : Type 0
Side = Ctx → Tree → Tree → List Ty → Tree

pub data Given : Type 0 where
  gives : ℕ → Side → Given

unfoldable pub sides : List Given
sides =
    gives 1 (λ Γ a b xs. ⊤)
    ∷ gives 2 (λ Γ a b xs. ⊥ᵖ)
    ∷ gives 3 (λ Γ a b xs. ⊤)
    ∷ gives 4 (λ Γ a b xs. fin (to_expression (source (type_of a Γ))))
    ∷ gives 5 (λ Γ a b xs. ⊤)
    ∷ gives 6 (λ Γ a b xs. fin a)
    ∷ gives 7 (λ Γ a b xs. fin a)
    ∷ gives 8 (λ Γ a b xs. ⋁ (cons (◌≐∅ Γ a) (pair (◌≐∅ Γ b) (⋀ (pair (fin a) (fin b))))))
    ∷ gives 9 (λ Γ a b xs. fin a)
    ∷ gives 10 (λ Γ a b xs. ⊤)
    ∷ gives 11 (λ Γ a b xs. fin (bodied #CSet xs a b))
    ∷ gives 12 (λ Γ a b xs. fin a)
    ∷ gives 13 (λ Γ a b xs. fin (to_expression (source (type_of a Γ))))
    ∷ gives 14 (λ Γ a b xs. ◌≐∅ Γ a)
    ∷ gives 15 (λ Γ a b xs. a ≐ b)
    ∷ gives 16 (λ Γ a b xs. two #Gt a b)
    ∷ gives 17 (λ Γ a b xs. two #Lt a b)
    ∷ gives 18 (λ Γ a b xs. two #Le a b)
    ∷ gives 19 (λ Γ a b xs. two #Ge a b)
    ∷ gives 20 (λ Γ a b xs. a ≐ leaf #True)
    ∷ gives 21 (λ Γ a b xs. a ≐ leaf #False)
    ∷ gives 22 (λ Γ a b xs. leaf #True ≐ a)
    ∷ gives 23 (λ Γ a b xs. leaf #False ≐ a)
    ∷ gives 24 (λ Γ a b xs. ◌≐Ty Γ a)
    ∷ gives 25 (λ Γ a b xs. ⋀ (pair (◌≐Ty Γ a) (◌≐∅ Γ b)))
    ∷ gives 26 (λ Γ a b xs. ⋀ (pair (◌≐Ty Γ a) (◌≐Ty Γ b)))
    ∷ gives 27 (λ Γ a b xs. ⊥ᵖ)
    ∷ gives 28 (λ Γ a b xs. ⋀ (pair (◌≐Ty Γ a) (◌≐Ty Γ b)))
    ∷ gives 29 (λ Γ a b xs. ⋀ (pair (◌≐∅ Γ a) (◌≐Ty Γ b)))
    ∷ gives 30 (λ Γ a b xs. ⋀ (pair (◌≐Ty Γ b) (◌≐Ty Γ a)))
    ∷ gives 31 (λ Γ a b xs. ⋀ (pair (◌≐∅ Γ b) (◌≐Ty Γ a)))
    ∷ gives 32 (λ Γ a b xs. ⋀ (pair (◌≐Ty Γ a) (◌≐Ty Γ b)))
    ∷ gives 33 (λ Γ a b xs. a ≐ ext (sole (to_expression (element (element (type_of a Γ))))))
    ∷ gives 34 (λ Γ a b xs. ◌≐Ty Γ a)
    ∷ gives 35 (λ Γ a b xs. ∀ᵖ xs (a ⇒ ◌≐Ty Γ b))
    ∷ gives 36 (λ Γ a b xs. ⊥ᵖ)
    ∷ gives 39 (λ Γ a b xs. ◌≐∅ Γ a)
    ∷ gives 40 (λ Γ a b xs. a ⊆ b)
    ∷ gives 41 (λ Γ a b xs. ⋁ (pair (◌≐∅ Γ a) (◌≐∅ Γ b)))
    ∷ gives 42 (λ Γ a b xs. two #Gt a b)
    ∷ gives 43 (λ Γ a b xs. ⋀ (pair (◌≐∅ Γ a) (¬ᵖ (◌≐∅ Γ b))))
    ∷ gives 44 (λ Γ a b xs. ◌≐∅ Γ a ⇔ ¬ᵖ (◌≐∅ Γ b))
    ∷ gives 45 (λ Γ a b xs. ◌≐∅ Γ (inters (pair (dom b) a)))
    ∷ gives 46 (λ Γ a b xs. dom b ⊆ a)
    ∷ gives 47 (λ Γ a b xs. ◌≐∅ Γ (inters (pair (ran a) b)))
    ∷ gives 48 (λ Γ a b xs. ran a ⊆ b)
    ∷ gives 49 (λ Γ a b xs. ◌≐∅ Γ (two #DomRes b a))
    ∷ gives 50 (λ Γ a b xs. ◌≐∅ Γ (inters (pair (dom a) (dom b))))
    ∷ gives 51 (λ Γ a b xs. ⋁ (pair (◌≐∅ Γ a) (◌≐∅ Γ b)))
    ∷ gives 52 (λ Γ a b xs. ⊥ᵖ)
    ∷ gives 53 (λ Γ a b xs. ◌≐∅ Γ a)
    ∷ gives 54 (λ Γ a b xs. a ⊆ ext (sole (∅ (element (type_of a Γ)))))
    ∷ gives 55 (λ Γ a b xs. ◌≐∅ Γ a)
    ∷ gives 56 (λ Γ a b xs. ◌≐∅ Γ (inters (pair (ran a) (dom b))))
    ∷ gives 57 (λ Γ a b xs. ◌≐∅ Γ (inters (pair (ran b) (dom a))))
    ∷ gives 58 (λ Γ a b xs. ◌≐∅ Γ a)
    ∷ gives 59 (λ Γ a b xs. ∀ᵖ xs (a ⇒ ◌≐∅ Γ b))
    ∷ gives 60 (λ Γ a b xs. ⊥ᵖ)
    ∷ gives 61 (λ Γ a b xs. ⊥ᵖ)
    ∷ gives 64 (λ Γ a b xs. a)
    ∷ gives 66 (λ Γ a b xs. a)
    ∷ gives 67 (λ Γ a b xs. ⊤)
    ∷ gives 68 (λ Γ a b xs. ⊤)
    ∷ gives 69 (λ Γ a b xs. ¬ᵖ a)
    ∷ gives 70 (λ Γ a b xs. ⊤)
    ∷ gives 71 (λ Γ a b xs. ⊤)
    ∷ gives 72 (λ Γ a b xs. ¬ᵖ a)
    ∷ gives 73 (λ Γ a b xs. a)
    ∷ gives 74 (λ Γ a b xs. a)
    ∷ gives 75 (λ Γ a b xs. a)
    ∷ gives 76 (λ Γ a b xs. a)
    ∷ gives 77 (λ Γ a b xs. ⊤)
    ∷ gives 78 (λ Γ a b xs. ¬ᵖ a)
    ∷ gives 79 (λ Γ a b xs. ¬ᵖ a)
    ∷ gives 80 (λ Γ a b xs. ⊥ᵖ)
    ∷ gives 81 (λ Γ a b xs. ⊥ᵖ)
    ∷ gives 82 (λ Γ a b xs. ⊥ᵖ)
    ∷ gives 83 (λ Γ a b xs. ⊤)
    ∷ gives 84 (λ Γ a b xs. a)
    ∷ gives 85 (λ Γ a b xs. ∀ᵖ xs a)
    ∷ gives 86 (λ Γ a b xs. ∃ᵖ xs a)
    ∷ gives 87 (λ Γ a b xs. ∀ᵖ xs a ⇒ ∃ᵖ xs b)
    ∷ []

unfoldable pub side_in : List Given → ℕ → Side
side_in [] n = λ Γ a b xs. ⊤
side_in (gives m s ∷ gs) n = let next = side_in gs n in pick (eqb n m) s next

unfoldable pub is_in : List Given → ℕ → Bool
is_in [] n = false
is_in (gives m s ∷ gs) n = eqb n m || is_in gs n

-- who unfolds side also computes whether a place has one
unfoldable pub side : ℕ → Side
unfolding sides side_in is_in
side n = side_in sides n

-- ---- all places at once
first : List (List ℕ) → List ℕ
first [] = []
first (l ∷ ls) = l

others : List (List ℕ) → List (List ℕ)
others [] = []
others (l ∷ ls) = ls

module _ (Γ : Ctx) (a b : Tree) (xs : List Ty) where
  -- the operands, their types, and the types of the binders
  abbrev pub filling : Filling
  filling = record { operands = a ∷ b ∷ []; types = type_of a Γ ∷ type_of b Γ ∷ []; binder_types = xs }

  -- the place is that of the row, or comes later
  row_or : (n m : ℕ) (s u : Side) (c d : Bool) → eqb n m ≡ c → filled_onto (template m) filling ≡ onto (s Γ a b xs) [] → (c || d) ≡ true
      → (d ≡ true → filled (template n) filling ≡ enc (u Γ a b xs)) → filled (template n) filling ≡ enc (pick c s u Γ a b xs)
  row_or n m s u true d z e h later = rw (eqb-true n m z) (same_bytes (template m) filling (s Γ a b xs) e)
  row_or n m s u false d z e h later = later h

  fills : List Given → List (List ℕ)
  fills [] = []
  fills (gives n s ∷ gs) = filled_onto (template n) filling ∷ fills gs

  writes : List Given → List (List ℕ)
  writes [] = []
  writes (gives n s ∷ gs) = onto (s Γ a b xs) [] ∷ writes gs

  fills_writes : fills sides ≡ writes sides
  unfolding fills writes sides template find_row templates among number_onto types_onto head_onto onto all_onto part_onto filled_onto
      lookup class_of form_at type_of
  fills_writes = refl

  right_in : (gs : List Given) → fills gs ≡ writes gs → (n : ℕ) → is_in gs n ≡ true → filled (template n) filling ≡ enc (side_in gs n Γ a b xs)
  unfolding fills writes is_in side_in first others
  right_in [] e n h = let z : ◌≡◌ {A = ℕ} 0 1 = cc in absurd (omega arith)
  right_in (gives m s ∷ gs) e n h =
      row_or n m s (side_in gs n) (eqb n m) (is_in gs n) refl (ap first e) h (right_in gs (ap others e) n)

pub right_side : (n : ℕ) → is_in sides n ≡ true → (Γ : Ctx) (a b : Tree) (xs : List Ty)
    → filled (template n) (filling Γ a b xs) ≡ enc (side n Γ a b xs)
unfolding side
right_side n h Γ a b xs = right_in Γ a b xs sides (fills_writes Γ a b xs) n h
