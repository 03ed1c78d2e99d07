-- The equations that a step may be an instance of: for every place of the taken functions that builds a tree, the
-- equation under its catalogue name, left side, right side and side condition. They are written from the catalogue's
-- statements as the source's comments have them, the Rodin rewrite-rule pages as recalled and the Event-B Mathematical
-- Language, not from the rules (docs/DIFFERENCES.md says where a page states a step otherwise, and that the pages were not
-- at hand). Nothing of the rules' definitions is used here. rules/proofs shows that whatever `dispatch` gives is such an instance.
--
-- "A step that the Rodin pages state otherwise, or not at all, stands in docs/DIFFERENCES.md."
--
-- Γ has the types of the binders around the predicate. An equation's number is the rule number (docs/RULES.md).
use Rattle.std.specs.Prelude.{◌≡◌, ◌⊎◌, List, ℕ, ◌+◌, ◌<◌, length}
use Rattle.frame.specs.Types.{Ty, prod}
use Rattle.frame.specs.Trees.{head, Tree, node, Forest, nil, cons, tag_of, count, leaf, one, two, many, typed, sole, pair, quantified, bodied, append, map_f}
use Rattle.frame.specs.Tags.{form_of, binders_of}
use Rattle.frame.specs.Operators.{
  #BoundIdent,
  #SetExt,
  #Equal,
  #Lt,
  #Le,
  #Gt,
  #Ge,
  #In,
  #SubsetEq,
  #Mapsto,
  #SRel,
  #STRel,
  #SetMinus,
  #CProd,
  #DProd,
  #PProd,
  #DomRes,
  #DomSub,
  #RanRes,
  #RanSub,
  #UpTo,
  #RelImage,
  #LImp,
  #LEqv,
  #BUnion,
  #BInter,
  #BComp,
  #FComp,
  #Ovr,
  #LAnd,
  #LOr,
  #Integer,
  #Natural,
  #Natural1,
  #Bool,
  #True,
  #False,
  #EmptySet,
  #KPrj1Gen,
  #KPrj2Gen,
  #KIdGen,
  #BTrue,
  #BFalse,
  #Finite,
  #Not,
  #Pow,
  #Pow1,
  #KUnion,
  #KInter,
  #KDom,
  #KRan,
  #Converse,
  #QUnion,
  #QInter,
  #CSet,
  #Forall,
  #Exists,
  #Partition,
}
use Rattle.frame.specs.Places.{Ctx, push}
use Rattle.typing.specs.Typing.{type_of, element, relation}
use Rattle.typing.specs.TypeExpression.{to_expression}

-- ---- notation: trees are written as predicates and sets are; ᵖ marks a predicate's tree where the sign has another meaning, ≐ is = (101),
-- `inters` the ∩ (302) of a list
abbrev pub ⊤ : Tree
⊤ = leaf #BTrue

abbrev pub ⊥ᵖ : Tree
⊥ᵖ = leaf #BFalse

abbrev pub ¬ᵖ : Tree → Tree
¬ᵖ p = one #Not p

infixr 10 ◌⇒◌
abbrev pub ◌⇒◌ : Tree → Tree → Tree
p ⇒ q = two #LImp p q

infixr 10 ◌⇔◌
abbrev pub ◌⇔◌ : Tree → Tree → Tree
p ⇔ q = two #LEqv p q

abbrev pub ⋀ : Forest → Tree
⋀ ps = many #LAnd ps

abbrev pub ⋁ : Forest → Tree
⋁ ps = many #LOr ps

abbrev pub ∀ᵖ : List Ty → Tree → Tree
∀ᵖ xs p = quantified #Forall xs p

abbrev pub ∃ᵖ : List Ty → Tree → Tree
∃ᵖ xs p = quantified #Exists xs p

infix 15 ◌≐◌
abbrev pub ◌≐◌ : Tree → Tree → Tree
a ≐ b = two #Equal a b

infix 15 ◌∈ᵖ◌
abbrev pub ◌∈ᵖ◌ : Tree → Tree → Tree
a ∈ᵖ s = two #In a s

infix 15 ◌⊆◌
abbrev pub ◌⊆◌ : Tree → Tree → Tree
s ⊆ t = two #SubsetEq s t

abbrev pub fin : Tree → Tree
fin s = one #Finite s

-- {a, …, b}
abbrev pub ext : Forest → Tree
ext as' = many #SetExt as'

abbrev pub dom : Tree → Tree
dom r = one #KDom r

abbrev pub ran : Tree → Tree
ran r = one #KRan r

abbrev pub inters : Forest → Tree
inters ss = many #BInter ss

-- an associative operator over the operands that are left: over one, that one
abbrev pub over : ℕ → Forest → Tree
over g nil = many g nil
over g (cons a nil) = a
over g (cons a (cons b ks)) = many g (cons a (cons b ks))

-- ∅ of a type
abbrev pub ∅ : Ty → Tree
∅ t = typed #EmptySet t

module _ (Γ : Ctx) where
  -- S = ∅, where ∅ has the type of S
  abbrev pub ◌≐∅ : Tree → Tree
  ◌≐∅ s = s ≐ ∅ (type_of s Γ)

  -- Ty, the type of the elements of S, as an expression; S = Ty
  abbrev pub Ty_of : Tree → Tree
  Ty_of s = to_expression (element (type_of s Γ))

  abbrev pub ◌≐Ty : Tree → Tree
  ◌≐Ty s = s ≐ Ty_of s

-- t is among the operands
abbrev pub Among : Tree → Forest → Type 0
Among t nil = ⊥
Among t (cons k ks) = (t ≡ k) ⊎ Among t ks

-- ---- ∧ and ∨: the operator, its neutral and its absorbing literal
pub data Junction : ℕ → ℕ → ℕ → Type 0 where
  conjunction : Junction #LAnd #BTrue #BFalse
  disjunction : Junction #LOr #BFalse #BTrue

-- operands are dropped, any number of times: P ∧ … ∧ ⊤ ∧ … ∧ Q == P ∧ … ∧ Q, and so P ∨ … ∨ ⊥ ∨ … ∨ Q; and an operand that stands further
-- left too, P ∧ … ∧ Q ∧ … ∧ Q ∧ … ∧ R == P ∧ … ∧ Q ∧ … ∧ R, and so with ∨
pub data Dropped (neutral : ℕ) : Forest → Forest → Type 0 where
  done : (ks : Forest) → Dropped neutral ks ks
  SIMP_SPECIAL_AND_BTRUE/SIMP_SPECIAL_OR_BFALSE : (ks ls left right : Forest) → ks ≡ append left (cons (leaf neutral) right)
      → Dropped neutral (append left right) ls → Dropped neutral ks ls
  SIMP_MULTI_AND/SIMP_MULTI_OR : (ks ls left right : Forest) (q : Tree) → ks ≡ append left (cons q right) → Among q left
      → Dropped neutral (append left right) ls → Dropped neutral ks ls

-- n is ¬p, or p is ¬n: a double negation may go
pub data Opposite : Tree → Tree → Type 0 where
  negated : (p : Tree) → Opposite p (¬ᵖ p)
  restored : (p : Tree) → Opposite (¬ᵖ p) p

-- (A ∖ B), C, (D ∖ E): the operands A, C, D and the subtracted B, E; of an operand A ∖ B the B is always taken
pub data Subtracted : Forest → Forest → Forest → Type 0 where
  none : Subtracted nil nil nil
  minus : (a b : Tree) (ks ls ms : Forest) → Subtracted ks ls ms → Subtracted (cons (two #SetMinus a b) ks) (cons a ls) (cons b ms)
  other : (k : Tree) (ks ls ms : Forest) → (tag_of k ≡ #SetMinus → ⊥) → Subtracted ks ls ms → Subtracted (cons k ks) (cons k ls) ms

-- ---- binders: i counts back from the nearest list around a tree, as its index does
-- it occurs in t; below a node with binders it is counted past these
pub data Occurs : ℕ → Tree → Type 0 where
  named : (i : ℕ) (us : List Ty) (ks : Forest) → Occurs i (node (head #BoundIdent i us) ks)
  below : (i g n : ℕ) (us : List Ty) (ks : Forest) (k : Tree) → Among k ks → Occurs (i + length (binders_of (form_of g).layout us)) k
      → Occurs i (node (head g n us) ks)

-- it is t, or a part of t that is reached through maplets only
pub data Leaf : ℕ → Tree → Type 0 where
  alone : (i : ℕ) (us : List Ty) (ks : Forest) → Leaf i (node (head #BoundIdent i us) ks)
  side : (i n : ℕ) (us : List Ty) (ks : Forest) (k : Tree) → Among k ks → Leaf i k → Leaf i (node (head #Mapsto n us) ks)

-- ---- E = ∅ == new, and E = Ty == new
pub data Empties (Γ : Ctx) : ℕ → Tree → Tree → Type 0 where
  -- {A, …, B} has a member at least
  SIMP_SETENUM_EQUAL_EMPTY : (a : Tree) (as' : Forest) → Empties Γ 36 (ext (cons a as')) ⊥ᵖ
  SIMP_BINTER_SING_EQUAL_EMPTY : (a : Tree) (ks left right : Forest) → ks ≡ append left (cons (ext (sole a)) right)
      → Empties Γ 37 (inters ks) (¬ᵖ (a ∈ᵖ over #BInter (append left right)))
  SIMP_BINTER_SETMINUS_EQUAL_EMPTY : (ks ls : Forest) (b : Tree) (ms : Forest) → Subtracted ks ls (cons b ms)
      → Empties Γ 38 (inters ks) (over #BInter ls ⊆ over #BUnion (cons b ms))
  SIMP_BUNION_EQUAL_EMPTY : (ks : Forest) → Empties Γ 39 (many #BUnion ks) (⋀ (map_f (◌≐∅ Γ) ks))
  SIMP_SETMINUS_EQUAL_EMPTY : (a b : Tree) → Empties Γ 40 (two #SetMinus a b) (a ⊆ b)
  SIMP_CPROD_EQUAL_EMPTY : (s t : Tree) → Empties Γ 41 (two #CProd s t) (⋁ (pair (◌≐∅ Γ s) (◌≐∅ Γ t)))
  SIMP_UPTO_EQUAL_EMPTY : (i j : Tree) → Empties Γ 42 (two #UpTo i j) (two #Gt i j)
  SIMP_SREL_EQUAL_EMPTY : (a b : Tree) → Empties Γ 43 (two #SRel a b) (⋀ (pair (◌≐∅ Γ a) (¬ᵖ (◌≐∅ Γ b))))
  SIMP_STREL_EQUAL_EMPTY : (a b : Tree) → Empties Γ 44 (two #STRel a b) (◌≐∅ Γ a ⇔ ¬ᵖ (◌≐∅ Γ b))
  SIMP_DOMRES_EQUAL_EMPTY : (s r : Tree) → Empties Γ 45 (two #DomRes s r) (◌≐∅ Γ (inters (pair (dom r) s)))
  SIMP_DOMSUB_EQUAL_EMPTY : (s r : Tree) → Empties Γ 46 (two #DomSub s r) (dom r ⊆ s)
  SIMP_RANRES_EQUAL_EMPTY : (r s : Tree) → Empties Γ 47 (two #RanRes r s) (◌≐∅ Γ (inters (pair (ran r) s)))
  SIMP_RANSUB_EQUAL_EMPTY : (r s : Tree) → Empties Γ 48 (two #RanSub r s) (ran r ⊆ s)
  SIMP_RELIMAGE_EQUAL_EMPTY : (r s : Tree) → Empties Γ 49 (two #RelImage r s) (◌≐∅ Γ (two #DomRes s r))
  SIMP_DPROD_EQUAL_EMPTY : (p q : Tree) → Empties Γ 50 (two #DProd p q) (◌≐∅ Γ (inters (pair (dom p) (dom q))))
  SIMP_PPROD_EQUAL_EMPTY : (p q : Tree) → Empties Γ 51 (two #PProd p q) (⋁ (pair (◌≐∅ Γ p) (◌≐∅ Γ q)))
  SIMP_POW_EQUAL_EMPTY : (s : Tree) → Empties Γ 52 (one #Pow s) ⊥ᵖ
  SIMP_POW1_EQUAL_EMPTY : (s : Tree) → Empties Γ 53 (one #Pow1 s) (◌≐∅ Γ s)
  SIMP_KUNION_EQUAL_EMPTY : (s : Tree) → Empties Γ 54 (one #KUnion s) (s ⊆ ext (sole (∅ (element (type_of s Γ)))))
  SIMP_DOM_EQUAL_EMPTY : (r : Tree) → Empties Γ 55 (dom r) (◌≐∅ Γ r)
  SIMP_RAN_EQUAL_EMPTY : (r : Tree) → Empties Γ 55 (ran r) (◌≐∅ Γ r)
  SIMP_CONVERSE_EQUAL_EMPTY : (r : Tree) → Empties Γ 55 (one #Converse r) (◌≐∅ Γ r)
  SIMP_FCOMP_EQUAL_EMPTY : (p q : Tree) → Empties Γ 56 (many #FComp (pair p q)) (◌≐∅ Γ (inters (pair (ran p) (dom q))))
  SIMP_BCOMP_EQUAL_EMPTY : (p q : Tree) → Empties Γ 57 (many #BComp (pair p q)) (◌≐∅ Γ (inters (pair (ran q) (dom p))))
  SIMP_OVERL_EQUAL_EMPTY : (ks : Forest) → Empties Γ 58 (many #Ovr ks) (⋀ (map_f (◌≐∅ Γ) ks))
  SIMP_QUNION_EQUAL_EMPTY : (xs : List Ty) (p e : Tree) → Empties Γ 59 (bodied #QUnion xs p e) (∀ᵖ xs (p ⇒ ◌≐∅ (push xs Γ) e))
  SIMP_NATURAL_EQUAL_EMPTY : Empties Γ 60 (leaf #Natural) ⊥ᵖ
  SIMP_NATURAL1_EQUAL_EMPTY : Empties Γ 60 (leaf #Natural1) ⊥ᵖ
  SIMP_ID_EQUAL_EMPTY : (t : Ty) → Empties Γ 61 (typed #KIdGen t) ⊥ᵖ
  SIMP_PRJ1_EQUAL_EMPTY : (t : Ty) → Empties Γ 61 (typed #KPrj1Gen t) ⊥ᵖ
  SIMP_PRJ2_EQUAL_EMPTY : (t : Ty) → Empties Γ 61 (typed #KPrj2Gen t) ⊥ᵖ

pub data Fills (Γ : Ctx) : ℕ → Tree → Tree → Type 0 where
  SIMP_BINTER_EQUAL_TYPE : (ks : Forest) → Fills Γ 24 (inters ks) (⋀ (map_f (◌≐Ty Γ) ks))
  SIMP_SETMINUS_EQUAL_TYPE : (a b : Tree) → Fills Γ 25 (two #SetMinus a b) (⋀ (pair (◌≐Ty Γ a) (◌≐∅ Γ b)))
  SIMP_CPROD_EQUAL_TYPE : (s t : Tree) → Fills Γ 26 (two #CProd s t) (⋀ (pair (◌≐Ty Γ s) (◌≐Ty Γ t)))
  SIMP_UPTO_EQUAL_INTEGER : (i j : Tree) → Fills Γ 27 (two #UpTo i j) ⊥ᵖ
  SIMP_DOMRES_EQUAL_TYPE : (s r : Tree) → Fills Γ 28 (two #DomRes s r) (⋀ (pair (◌≐Ty Γ s) (◌≐Ty Γ r)))
  SIMP_DOMSUB_EQUAL_TYPE : (s r : Tree) → Fills Γ 29 (two #DomSub s r) (⋀ (pair (◌≐∅ Γ s) (◌≐Ty Γ r)))
  SIMP_RANRES_EQUAL_TYPE : (r s : Tree) → Fills Γ 30 (two #RanRes r s) (⋀ (pair (◌≐Ty Γ s) (◌≐Ty Γ r)))
  SIMP_RANSUB_EQUAL_TYPE : (r s : Tree) → Fills Γ 31 (two #RanSub r s) (⋀ (pair (◌≐∅ Γ s) (◌≐Ty Γ r)))
  SIMP_DPROD_EQUAL_TYPE : (p q : Tree) → Fills Γ 32 (two #DProd p q) (⋀ (pair (◌≐Ty Γ p) (◌≐Ty Γ q)))
  SIMP_PPROD_EQUAL_TYPE : (p q : Tree) → Fills Γ 32 (two #PProd p q) (⋀ (pair (◌≐Ty Γ p) (◌≐Ty Γ q)))
  SIMP_KINTER_EQUAL_TYPE : (s : Tree) → Fills Γ 33 (one #KInter s) (s ≐ ext (sole (to_expression (element (element (type_of s Γ))))))
  SIMP_CONVERSE_EQUAL_TYPE : (r : Tree) → Fills Γ 34 (one #Converse r) (◌≐Ty Γ r)
  SIMP_QINTER_EQUAL_TYPE : (xs : List Ty) (p e : Tree) → Fills Γ 35 (bodied #QInter xs p e) (∀ᵖ xs (p ⇒ ◌≐Ty (push xs Γ) e))

-- the predicates that say that E is ∅, that E is its whole type
pub data Emptiness : Tree → Tree → Type 0 where
  is-∅ : (e : Tree) (t : Ty) → Emptiness e (e ≐ ∅ t)
  in-∅ : (e : Tree) (t : Ty) → Emptiness e (e ⊆ ∅ t)
  ∅-is : (e : Tree) (t : Ty) → Emptiness e (∅ t ≐ e)

pub data Fullness (Γ : Ctx) : Tree → Tree → Type 0 where
  is_Ty : (e : Tree) → Fullness Γ e (e ≐ Ty_of Γ e)
  Ty_is : (e : Tree) → Fullness Γ e (Ty_of Γ e ≐ e)

-- ---- predicates
pub data Equation (Γ : Ctx) : ℕ → Tree → Tree → Type 0 where
  -- rewrite_finite
  SIMP_SPECIAL_FINITE : (t : Ty) → Equation Γ 1 (fin (∅ t)) ⊤
  SIMP_FINITE_NATURAL : Equation Γ 2 (fin (leaf #Natural)) ⊥ᵖ
  SIMP_FINITE_NATURAL1 : Equation Γ 2 (fin (leaf #Natural1)) ⊥ᵖ
  SIMP_FINITE_INTEGER : Equation Γ 2 (fin (leaf #Integer)) ⊥ᵖ
  SIMP_FINITE_BOOL : Equation Γ 3 (fin (leaf #Bool)) ⊤
  SIMP_FINITE_ID : (s : Ty) → Equation Γ 4 (fin (typed #KIdGen (relation s s))) (fin (to_expression s))
  SIMP_FINITE_SETENUM : (as' : Forest) → Equation Γ 5 (fin (ext as')) ⊤
  SIMP_FINITE_BUNION : (ks : Forest) → Equation Γ 6 (fin (many #BUnion ks)) (⋀ (map_f fin ks))
  SIMP_FINITE_POW : (s : Tree) → Equation Γ 7 (fin (one #Pow s)) (fin s)
  DERIV_FINITE_CPROD : (s t : Tree)
      → Equation Γ 8 (fin (two #CProd s t)) (⋁ (cons (◌≐∅ Γ s) (pair (◌≐∅ Γ t) (⋀ (pair (fin s) (fin t))))))
  SIMP_FINITE_CONVERSE : (r : Tree) → Equation Γ 9 (fin (one #Converse r)) (fin r)
  SIMP_FINITE_UPTO : (i j : Tree) → Equation Γ 10 (fin (two #UpTo i j)) ⊤
  -- each of the binders xs that occurs in F is a leaf of maplets in E
  SIMP_FINITE_LAMBDA : (xs : List Ty) (p e f : Tree) → ((i : ℕ) → i < length xs → Occurs i f → Leaf i e)
      → Equation Γ 11 (fin (bodied #CSet xs p (two #Mapsto e f))) (fin (bodied #CSet xs p e))
  SIMP_FINITE_ID_DOMRES : (e : Tree) (t : Ty) → Equation Γ 12 (fin (two #DomRes e (typed #KIdGen t))) (fin e)
  SIMP_FINITE_PRJ1_DOMRES : (e : Tree) (t : Ty) → Equation Γ 12 (fin (two #DomRes e (typed #KPrj1Gen t))) (fin e)
  SIMP_FINITE_PRJ2_DOMRES : (e : Tree) (t : Ty) → Equation Γ 12 (fin (two #DomRes e (typed #KPrj2Gen t))) (fin e)
  SIMP_FINITE_PRJ1 : (s t : Ty) → Equation Γ 13 (fin (typed #KPrj1Gen (relation (prod s t) s))) (fin (to_expression (prod s t)))
  SIMP_FINITE_PRJ2 : (s t : Ty) → Equation Γ 13 (fin (typed #KPrj2Gen (relation (prod s t) t))) (fin (to_expression (prod s t)))
  -- rewrite_partition
  SIMP_EMPTY_PARTITION : (s : Tree) → Equation Γ 14 (many #Partition (sole s)) (◌≐∅ Γ s)
  SIMP_SINGLE_PARTITION : (s t : Tree) → Equation Γ 15 (many #Partition (pair s t)) (s ≐ t)
  -- rewrite_not
  SIMP_NOT_LE : (a b : Tree) → Equation Γ 16 (¬ᵖ (two #Le a b)) (two #Gt a b)
  SIMP_NOT_GE : (a b : Tree) → Equation Γ 17 (¬ᵖ (two #Ge a b)) (two #Lt a b)
  SIMP_NOT_GT : (a b : Tree) → Equation Γ 18 (¬ᵖ (two #Gt a b)) (two #Le a b)
  SIMP_NOT_LT : (a b : Tree) → Equation Γ 19 (¬ᵖ (two #Lt a b)) (two #Ge a b)
  SIMP_SPECIAL_NOT_EQUAL_FALSE_R : (e : Tree) → Equation Γ 20 (¬ᵖ (e ≐ leaf #False)) (e ≐ leaf #True)
  SIMP_SPECIAL_NOT_EQUAL_TRUE_R : (e : Tree) → Equation Γ 21 (¬ᵖ (e ≐ leaf #True)) (e ≐ leaf #False)
  SIMP_SPECIAL_NOT_EQUAL_FALSE_L : (e : Tree) → Equation Γ 22 (¬ᵖ (leaf #False ≐ e)) (leaf #True ≐ e)
  SIMP_SPECIAL_NOT_EQUAL_TRUE_L : (e : Tree) → Equation Γ 23 (¬ᵖ (leaf #True ≐ e)) (leaf #False ≐ e)
  -- rewrite_equals_type, rewrite_equals_empty_set
  equal_type : {rule : ℕ} {e l r : Tree} → Fullness Γ e l → Fills Γ rule e r → Equation Γ rule l r
  equal_empty : {rule : ℕ} {e l r : Tree} → Emptiness e l → Empties Γ rule e r → Equation Γ rule l r
  -- simplify_assoc_pred: P ∧ … ∧ ⊥ ∧ … ∧ Q == ⊥; P ∧ … ∧ Q ∧ … ∧ ¬Q ∧ … ∧ R == ⊥; with ∨ both are ⊤
  SIMP_SPECIAL_AND_BFALSE/SIMP_SPECIAL_OR_BTRUE : (g n d : ℕ) (ps : Forest) → Junction g n d → Among (leaf d) ps → Equation Γ 62 (many g ps) (leaf d)
  SIMP_MULTI_AND_NOT/SIMP_MULTI_OR_NOT : (g n d : ℕ) (ps : Forest) (q : Tree) → Junction g n d → Among q ps → Among (¬ᵖ q) ps
      → Equation Γ 62 (many g ps) (leaf d)
  -- by the equations of `Dropped` nothing is left, or one operand, or more. In each some operand was dropped: 65 says so, and where fewer
  -- than two are left it follows, as ∧ and ∨ have two at least.
  dropped_all : (g n d : ℕ) (ps : Forest) → Junction g n d → Dropped n ps nil
      → Equation Γ 63 (many g ps) (leaf n)
  dropped_but_one : (g n d : ℕ) (ps : Forest) (p : Tree) → Junction g n d → Dropped n ps (sole p)
      → Equation Γ 64 (many g ps) p
  dropped_some : (g n d : ℕ) (ps : Forest) (p q : Tree) (qs : Forest) → Junction g n d
      → Dropped n ps (cons p (cons q qs)) → (count (cons p (cons q qs)) ≡ count ps → ⊥)
      → Equation Γ 65 (many g ps) (many g (cons p (cons q qs)))
  -- simplify_predicate_node: ⇒
  SIMP_SPECIAL_IMP_BTRUE_L : (p : Tree) → Equation Γ 66 (⊤ ⇒ p) p
  SIMP_SPECIAL_IMP_BFALSE_L : (p : Tree) → Equation Γ 67 (⊥ᵖ ⇒ p) ⊤
  SIMP_SPECIAL_IMP_BTRUE_R : (p : Tree) → Equation Γ 68 (p ⇒ ⊤) ⊤
  SIMP_SPECIAL_IMP_BFALSE_R : (p n : Tree) → Opposite p n → Equation Γ 69 (p ⇒ ⊥ᵖ) n
  SIMP_MULTI_IMP : (p : Tree) → Equation Γ 70 (p ⇒ p) ⊤
  SIMP_MULTI_IMP_AND : (ps : Forest) (q : Tree) → Among q ps → Equation Γ 71 (⋀ ps ⇒ q) ⊤
  SIMP_MULTI_IMP_AND_NOT_R/SIMP_MULTI_IMP_AND_NOT_L : (ps : Forest) (q m : Tree) → Opposite q m → Among m ps → Equation Γ 72 (⋀ ps ⇒ q) (¬ᵖ (⋀ ps))
  SIMP_MULTI_IMP_NOT_L : (p : Tree) → Equation Γ 73 (¬ᵖ p ⇒ p) p
  SIMP_MULTI_IMP_NOT_R : (p : Tree) → Equation Γ 74 (p ⇒ ¬ᵖ p) (¬ᵖ p)
  -- ⇔
  SIMP_SPECIAL_EQV_BTRUE/right : (p : Tree) → Equation Γ 75 (p ⇔ ⊤) p
  SIMP_SPECIAL_EQV_BTRUE/left : (p : Tree) → Equation Γ 76 (⊤ ⇔ p) p
  SIMP_MULTI_EQV : (p : Tree) → Equation Γ 77 (p ⇔ p) ⊤
  SIMP_SPECIAL_EQV_BFALSE/right : (p n : Tree) → Opposite p n → Equation Γ 78 (p ⇔ ⊥ᵖ) n
  SIMP_SPECIAL_EQV_BFALSE/left : (p n : Tree) → Opposite p n → Equation Γ 79 (⊥ᵖ ⇔ p) n
  SIMP_MULTI_EQV_NOT/right : (p : Tree) → Equation Γ 80 (p ⇔ ¬ᵖ p) ⊥ᵖ
  SIMP_MULTI_EQV_NOT/left : (p : Tree) → Equation Γ 81 (¬ᵖ p ⇔ p) ⊥ᵖ
  -- ¬
  SIMP_SPECIAL_NOT_BTRUE : Equation Γ 82 (¬ᵖ ⊤) ⊥ᵖ
  SIMP_SPECIAL_NOT_BFALSE : Equation Γ 83 (¬ᵖ ⊥ᵖ) ⊤
  SIMP_NOT_NOT : (p : Tree) → Equation Γ 84 (¬ᵖ (¬ᵖ p)) p
  -- ∀ and ∃
  SIMP_FORALL_AND : (xs : List Ty) (ps : Forest) → Equation Γ 85 (∀ᵖ xs (⋀ ps)) (⋀ (map_f (∀ᵖ xs) ps))
  SIMP_EXISTS_OR : (xs : List Ty) (ps : Forest) → Equation Γ 86 (∃ᵖ xs (⋁ ps)) (⋁ (map_f (∃ᵖ xs) ps))
  SIMP_EXISTS_IMP : (xs : List Ty) (p q : Tree) → Equation Γ 87 (∃ᵖ xs (p ⇒ q)) (∀ᵖ xs p ⇒ ∃ᵖ xs q)
