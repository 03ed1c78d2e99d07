-- The right sides that are built by a fixed pattern, by the place of the source (docs/RULES.md). Operands are numbered as they
-- stand in the place's left side; where the right side has one operand only, that is operand 0. Places that join any number of
-- operands have the pattern of one operand here.
use Rattle.std.specs.Prelude.{Bool, false, ◌||◌, List, [], ◌∷◌, ℕ, eqb}
use Rattle.frame.specs.Tags.{pick}
use Rattle.frame.specs.Operators.{
  #SetExt,
  #Equal,
  #Lt,
  #Le,
  #Gt,
  #Ge,
  #SubsetEq,
  #DomRes,
  #LImp,
  #LEqv,
  #BInter,
  #LAnd,
  #LOr,
  #True,
  #False,
  #EmptySet,
  #BTrue,
  #BFalse,
  #Finite,
  #Not,
  #KDom,
  #KRan,
  #CSet,
  #Forall,
  #Exists,
}
use Rattle.templates.specs.Template.{whole, of_dom, of_ran, of_element, of_elements, of_source, Part, tag, byte, operand, type, expression, binders}

-- operand i = ∅, and operand i = the type expression of its elements; then more parts
abbrev pub is_empty : ℕ → List Part → List Part
is_empty i ps = tag #Equal ∷ operand i ∷ tag #EmptySet ∷ type whole i ∷ ps

abbrev pub is_type : ℕ → List Part → List Part
is_type i ps = tag #Equal ∷ operand i ∷ expression of_element i ∷ ps

-- the places that have a template
pub data Row : Type 0 where
  row : List ℕ → List Part → Row

unfoldable pub templates : List Row
templates =
    -- ⊤
    row (1 ∷ 3 ∷ 5 ∷ 10 ∷ 67 ∷ 68 ∷ 70 ∷ 71 ∷ 77 ∷ 83 ∷ []) (tag #BTrue ∷ [])
    -- ⊥
    ∷ row (2 ∷ 27 ∷ 36 ∷ 52 ∷ 60 ∷ 61 ∷ 80 ∷ 81 ∷ 82 ∷ []) (tag #BFalse ∷ [])
    -- finite(S), of id, prj1 or prj2 themselves
    ∷ row (4 ∷ 13 ∷ []) (tag #Finite ∷ expression of_source 0 ∷ [])
    -- finite(S); 6: of each operand
    ∷ row (6 ∷ 7 ∷ 9 ∷ 12 ∷ []) (tag #Finite ∷ operand 0 ∷ [])
    -- S = ∅ ∨ T = ∅ ∨ (finite(S) ∧ finite(T))
    ∷ row (8 ∷ []) (tag #LOr ∷ byte 3 ∷ is_empty 0 (is_empty 1 (tag #LAnd ∷ byte 2 ∷ tag #Finite ∷ operand 0 ∷ tag #Finite ∷ operand 1 ∷ [])))
    -- finite({x·P ∣ E})
    ∷ row (11 ∷ []) (tag #Finite ∷ tag #CSet ∷ binders ∷ operand 0 ∷ operand 1 ∷ [])
    -- S = ∅; 39 and 58: of each operand
    ∷ row (14 ∷ 39 ∷ 53 ∷ 55 ∷ 58 ∷ []) (is_empty 0 [])
    -- S = T
    ∷ row (15 ∷ []) (tag #Equal ∷ operand 0 ∷ operand 1 ∷ [])
    -- a > b
    ∷ row (16 ∷ 42 ∷ []) (tag #Gt ∷ operand 0 ∷ operand 1 ∷ [])
    -- a < b
    ∷ row (17 ∷ []) (tag #Lt ∷ operand 0 ∷ operand 1 ∷ [])
    -- a ≤ b
    ∷ row (18 ∷ []) (tag #Le ∷ operand 0 ∷ operand 1 ∷ [])
    -- a ≥ b
    ∷ row (19 ∷ []) (tag #Ge ∷ operand 0 ∷ operand 1 ∷ [])
    -- E = TRUE
    ∷ row (20 ∷ []) (tag #Equal ∷ operand 0 ∷ tag #True ∷ [])
    -- E = FALSE
    ∷ row (21 ∷ []) (tag #Equal ∷ operand 0 ∷ tag #False ∷ [])
    -- TRUE = E
    ∷ row (22 ∷ []) (tag #Equal ∷ tag #True ∷ operand 0 ∷ [])
    -- FALSE = E
    ∷ row (23 ∷ []) (tag #Equal ∷ tag #False ∷ operand 0 ∷ [])
    -- S = Ty; 24: of each operand
    ∷ row (24 ∷ 34 ∷ []) (is_type 0 [])
    -- A = Ty ∧ B = ∅
    ∷ row (25 ∷ []) (tag #LAnd ∷ byte 2 ∷ is_type 0 (is_empty 1 []))
    -- S = Ta ∧ T = Tb
    ∷ row (26 ∷ 28 ∷ 32 ∷ []) (tag #LAnd ∷ byte 2 ∷ is_type 0 (is_type 1 []))
    -- S = ∅ ∧ r = Ty
    ∷ row (29 ∷ []) (tag #LAnd ∷ byte 2 ∷ is_empty 0 (is_type 1 []))
    -- S = Tb ∧ r = Ty, of r ▷ S
    ∷ row (30 ∷ []) (tag #LAnd ∷ byte 2 ∷ is_type 1 (is_type 0 []))
    -- S = ∅ ∧ r = Ty, of r ⩥ S
    ∷ row (31 ∷ []) (tag #LAnd ∷ byte 2 ∷ is_empty 1 (is_type 0 []))
    -- S = {Ty}
    ∷ row (33 ∷ []) (tag #Equal ∷ operand 0 ∷ tag #SetExt ∷ byte 1 ∷ expression of_elements 0 ∷ [])
    -- ∀x·P ⇒ E = Ty
    ∷ row (35 ∷ []) (tag #Forall ∷ binders ∷ tag #LImp ∷ operand 0 ∷ is_type 1 [])
    -- A ⊆ B
    ∷ row (40 ∷ []) (tag #SubsetEq ∷ operand 0 ∷ operand 1 ∷ [])
    -- S = ∅ ∨ T = ∅
    ∷ row (41 ∷ 51 ∷ []) (tag #LOr ∷ byte 2 ∷ is_empty 0 (is_empty 1 []))
    -- A = ∅ ∧ ¬ B = ∅
    ∷ row (43 ∷ []) (tag #LAnd ∷ byte 2 ∷ is_empty 0 (tag #Not ∷ is_empty 1 []))
    -- A = ∅ ⇔ ¬ B = ∅
    ∷ row (44 ∷ []) (tag #LEqv ∷ is_empty 0 (tag #Not ∷ is_empty 1 []))
    -- dom(r) ∩ S = ∅, of S ◁ r
    ∷ row (45 ∷ []) (tag #Equal ∷ tag #BInter ∷ byte 2 ∷ tag #KDom ∷ operand 1 ∷ operand 0 ∷ tag #EmptySet ∷ type of_dom 1 ∷ [])
    -- dom(r) ⊆ S, of S ⩤ r
    ∷ row (46 ∷ []) (tag #SubsetEq ∷ tag #KDom ∷ operand 1 ∷ operand 0 ∷ [])
    -- ran(r) ∩ S = ∅
    ∷ row (47 ∷ []) (tag #Equal ∷ tag #BInter ∷ byte 2 ∷ tag #KRan ∷ operand 0 ∷ operand 1 ∷ tag #EmptySet ∷ type of_ran 0 ∷ [])
    -- ran(r) ⊆ S
    ∷ row (48 ∷ []) (tag #SubsetEq ∷ tag #KRan ∷ operand 0 ∷ operand 1 ∷ [])
    -- S ◁ r = ∅, of r[S]
    ∷ row (49 ∷ []) (tag #Equal ∷ tag #DomRes ∷ operand 1 ∷ operand 0 ∷ tag #EmptySet ∷ type whole 0 ∷ [])
    -- dom(p) ∩ dom(q) = ∅
    ∷ row (50 ∷ []) (tag #Equal ∷ tag #BInter ∷ byte 2 ∷ tag #KDom ∷ operand 0 ∷ tag #KDom ∷ operand 1 ∷ tag #EmptySet ∷ type of_dom 0 ∷ [])
    -- S ⊆ {∅}
    ∷ row (54 ∷ []) (tag #SubsetEq ∷ operand 0 ∷ tag #SetExt ∷ byte 1 ∷ tag #EmptySet ∷ type of_element 0 ∷ [])
    -- ran(p) ∩ dom(q) = ∅
    ∷ row (56 ∷ []) (tag #Equal ∷ tag #BInter ∷ byte 2 ∷ tag #KRan ∷ operand 0 ∷ tag #KDom ∷ operand 1 ∷ tag #EmptySet ∷ type of_ran 0 ∷ [])
    -- ran(q) ∩ dom(p) = ∅
    ∷ row (57 ∷ []) (tag #Equal ∷ tag #BInter ∷ byte 2 ∷ tag #KRan ∷ operand 1 ∷ tag #KDom ∷ operand 0 ∷ tag #EmptySet ∷ type of_ran 1 ∷ [])
    -- ∀x·P ⇒ E = ∅
    ∷ row (59 ∷ []) (tag #Forall ∷ binders ∷ tag #LImp ∷ operand 0 ∷ is_empty 1 [])
    -- P
    ∷ row (64 ∷ 66 ∷ 73 ∷ 74 ∷ 75 ∷ 76 ∷ 84 ∷ []) (operand 0 ∷ [])
    -- ¬P
    ∷ row (69 ∷ 72 ∷ 78 ∷ 79 ∷ []) (tag #Not ∷ operand 0 ∷ [])
    -- ∀x·P, of each operand
    ∷ row (85 ∷ []) (tag #Forall ∷ binders ∷ operand 0 ∷ [])
    -- ∃x·P, of each operand
    ∷ row (86 ∷ []) (tag #Exists ∷ binders ∷ operand 0 ∷ [])
    -- (∀x·P) ⇒ (∃x·Q)
    ∷ row (87 ∷ []) (tag #LImp ∷ tag #Forall ∷ binders ∷ operand 0 ∷ tag #Exists ∷ binders ∷ operand 1 ∷ [])
    ∷ []

unfoldable pub among : ℕ → List ℕ → Bool
among n [] = false
among n (m ∷ ms) = eqb n m || among n ms

unfoldable pub find_row : List Row → ℕ → List Part
find_row [] n = []
find_row (row ns ps ∷ rows) n = let next = find_row rows n in pick (among n ns) ps next

unfoldable pub template : ℕ → List Part
template place = find_row templates place
