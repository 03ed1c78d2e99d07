-- The meaning of trees tells predicates apart: small trees whose truth is known.
-- Main results: by_interpretation, by_size (predicates that are true here and false there), whole_carrier ({x · ⊤ ∣ x} is
-- everything), inter_single_lem (inter({S}) = S), over_nothing (inter(∅) breaks the premise), over_one (inter({S}) meets it),
-- premise_needed (an equation that fails without it), not_all_TRUE, some_TRUE (quantifiers), no_sets_of_integers, single_numbers,
-- not_le_slip, surjective_slip, minus_slip (equations with a slip fail in some interpretation), samples_accepted (`check`
-- accepts these trees).
use mathlib.Core.Path.{◌≡◌, refl, ap, ◌∙◌}
use mathlib.Core.Logic.{inl, inr}
use mathlib.Core.Bool.{Bool, true, false, not, ◌&&◌, ◌||◌, So, true≢false, false≢true, or-false}
use mathlib.Core.List.{List, [], ◌∷◌, map, flat_map}
use Prim.Native.Nat.{ℕ}
use lib.IntN.{ℤ, pos}
use lib.Dec.{eqb}
use Rattle.frame.specs.Types.{Ty, bool, int, given, pow, prod}
use Rattle.frame.specs.Trees.{head, Tree, node, nil, leaf, one, two, sole, pair, bodied}
use Rattle.frame.specs.Tags.{pick, class_of, lookup, form_at}
use Rattle.frame.specs.Encoding.{enc_number, enc_ty, enc_tys, enc_head, enc}
use Rattle.frame.specs.Reading.{number_at, ty_case, read_ty, read_tys, with_number, with_form, read_head, read_many, read_node, parse}
use Rattle.frame.specs.Sameness.{same_ty, same_tys}
use Rattle.frame.specs.Operators.{#FreeIdent, #BoundIdent, #Le, #Ge, #SRel, #SetMinus, #Bool, #True, #Natural, #Integer, #KInter, #CSet}
use Rattle.typing.specs.Typing.{type_of, type_at, node_typed, typed_tree}
use Rattle.typing.specs.TypeExpression.{to_expression}
use Rattle.typing.specs.Check.{accepted, check_tree, check}
use Rattle.typing.specs.Binding.{closed_tree}
use Rattle.typing.specs.Identifiers.{givens_ty, givens_tys, idents, givens, agrees, agrees_with_givens, consistent, names_agree}
use Rattle.typing.specs.Members.{In}
use Rattle.rules.specs.Equations.{⊤, ¬ᵖ, ⋀, ∀ᵖ, ∃ᵖ, ◌≐◌, ◌⊆◌, ext, ∅}
use Rattle.meaning.specs.Lists.{any, all}
use Rattle.meaning.specs.Values.{list_of, same_element, pairs, including, subsets, Value, default, values, same, some_of, every_of, as_type}
use Rattle.meaning.specs.Operations.{op_at, op_of}
use Rattle.meaning.specs.Meaning.{
  Interpretation,
  Val,
  le_int,
  value_at,
  choices,
  identifier_value,
  set_of,
  equals,
  holds,
  value_of,
  quantified,
  bound_set,
  means,
  is_true,
}
use Rattle.meaning.specs.Premises.{NoInt, SingleIntegers, NoInterOverNothing}
use Rattle.meaning.proofs.Lists.{so_imp, so_any}
use Rattle.meaning.proofs.Complete.{listed, so_eq, so_some, so_every, as_type_refl}
use Rattle.meaning.proofs.Sets.{so_sets}
use Rattle.meaning.proofs.Kit as kit

-- ---- trees: an identifier with its type, the last bound identifier
abbrev pub identifier : ℕ → Ty → Tree
identifier n t = node (head #FreeIdent n (t ∷ [])) nil

abbrev pub bound : Tree
bound = node (head #BoundIdent 0 []) nil

-- ---- interpretations: given sets have one element, and identifiers of type BOOL, ℤ, ℙ(BOOL) have these values
unfoldable pub valued : (ℕ → Bool) → (ℕ → ℤ) → (ℕ → Bool → Bool) → ℕ → (t : Ty) → Value (λ n. 0) t
valued b k s n bool = b n
valued b k s n int = k n
valued b k s n (pow bool) = s n
valued b k s n (given m) = default (λ n. 0) (given m)
valued b k s n (pow int) = default (λ n. 0) (pow int)
valued b k s n (pow (given m)) = default (λ n. 0) (pow (given m))
valued b k s n (pow (pow t)) = default (λ n. 0) (pow (pow t))
valued b k s n (pow (prod t u)) = default (λ n. 0) (pow (prod t u))
valued b k s n (prod t u) = default (λ n. 0) (prod t u)

abbrev pub of : (ℕ → Bool) → (ℕ → ℤ) → (ℕ → Bool → Bool) → Interpretation
of b k s = record { size = λ n. 0; value = valued b k s; function = λ g ks t. default (λ n. 0) t }

-- each truth value is b, each number 0, each set empty
abbrev pub all_be : Bool → Interpretation
all_be b = of (λ n. b) (λ n. pos 0) (λ n x. false)

-- identifier 1 is s, the others are t
abbrev pub sets : (Bool → Bool) → (Bool → Bool) → Interpretation
sets s t = of (λ n. false) (λ n. pos 0) (λ n. pick (eqb n 1) s t)

-- ---- a predicate that is true here and false there: b = TRUE
abbrev pub is_TRUE : Tree
is_TRUE = identifier 7 bool ≐ leaf #True

pub by_interpretation : (is_true (all_be true) is_TRUE ≡ true) × (is_true (all_be false) is_TRUE ≡ false)
unfolding valued is_true means holds value_of identifier_value same type_of op_of op_at class_of lookup
by_interpretation = (refl, refl)

-- ---- {x · ⊤ ∣ x} is everything, at any type without integers
abbrev pub every_x : Ty → Tree
every_x t = bodied #CSet (t ∷ []) ⊤ bound

in_choices : {A : Type 0} (x : A) (l : List A) → In x l → In {A = A × Unit {0}} (x, tt) (flat_map (λ v. (v, tt) ∷ []) l)
unfolding flat_map
in_choices x [] i = elim i [ ]
in_choices x (y ∷ l) (inl e) = inl (ap (λ v. (v, tt)) e)
in_choices x (y ∷ l) (inr i) = inr (in_choices x l i)

every_x_full : (I : Interpretation) (t : Ty) → NoInt t → (x : Val I t) → So (set_of I (means I (every_x t) []) tt t x)
unfolding means bound_set choices holds value_of value_at op_of op_at class_of lookup
every_x_full I t n x =
    (so_any (λ (v : Val I t × Unit {0}). true && equals I t x (as_type I.size t t v.0)) (flat_map (λ v. (v, tt) ∷ []) (values I.size t))).1
    ((x, tt), in_choices x (values I.size t) (listed I.size t n x), rw as_type_refl ((so_eq I.size t n x x).1 refl))

pub whole_carrier : (I : Interpretation) (t : Ty) → NoInt t → is_true I (every_x t ≐ to_expression t) ≡ true
unfolding is_true type_of type_at class_of lookup form_at
whole_carrier I t n =
    kit.full_truth I [] (every_x t) t refl tt ∙ (so_every I.size t n (set_of I (means I (every_x t) []) tt t)).1 (every_x_full I t n)

-- {x · ⊤ ∣ x} = BOOL, and the same of a given set, whatever its carrier
pub whole_BOOL : (I : Interpretation) → is_true I (every_x bool ≐ leaf #Bool) ≡ true
unfolding to_expression
whole_BOOL I = whole_carrier I bool tt

pub whole_given : (I : Interpretation) → is_true I (every_x (given 5) ≐ identifier 5 (pow (given 5))) ≡ true
unfolding to_expression
whole_given I = whole_carrier I (given 5) tt

-- ---- inter({S}) = S, of an identifier S of any type ℙ(t)
only_one : (size : ℕ → ℕ) (t : Ty) → NoInt t → (s : Value size t → Bool)
    → So (same size (pow t) (λ x. every_of size (pow t) (λ a. not (same size (pow t) a s || false) || a x)) s)
only_one size t n s =
    (so_sets size t n (λ x. every_of size (pow t) (λ a. not (same size (pow t) a s || false) || a x)) s).1
    (λ x. simp (or-false, so_imp, so_every size (pow t) n, so_eq size (pow t) n) (λ h. h s refl, λ h a e. rw e h))

pub inter_single_lem : (I : Interpretation) (n : ℕ) (t : Ty) → NoInt t
    → is_true I (one #KInter (ext (sole (identifier n (pow t)))) ≐ identifier n (pow t)) ≡ true
unfolding is_true means value_of any type_of op_of op_at class_of lookup form_at
inter_single_lem I n t h =
    kit.equal_truth I [] (one #KInter (ext (sole (identifier n (pow t))))) (identifier n (pow t)) (pow t) refl tt
    ∙ only_one I.size t h (identifier_value I n (pow t))

-- ---- inter(∅) = BOOL breaks "no intersection over nothing"
pub over_nothing : (I : Interpretation) → NoInterOverNothing I (one #KInter (∅ (pow (pow bool))) ≐ leaf #Bool) [] → ⊥
unfolding NoInterOverNothing means value_of type_of some_of values subsets any op_of op_at class_of lookup
over_nothing I a = false≢true (a.2.0.0 tt)

-- without that premise inter(S) = Ty would not be S = {Ty}: inter(∅) is everything here, and ∅ is not {BOOL}
pub premise_needed : (I : Interpretation) → is_true I (one #KInter (∅ (pow (pow bool))) ≐ leaf #Bool) ≡ is_true I
    (∅ (pow (pow bool)) ≐ ext (sole (leaf #Bool))) → ⊥
unfolding is_true means holds value_of same values subsets including some_of every_of any all type_of op_of op_at class_of lookup
premise_needed I e = true≢false e

-- the premise holds of inter({S}) = S
pub over_one : (I : Interpretation) (n : ℕ) (t : Ty) → NoInt t
    → NoInterOverNothing I (one #KInter (ext (sole (identifier n (pow t)))) ≐ identifier n (pow t)) []
unfolding NoInterOverNothing means value_of any type_of op_of op_at class_of lookup
over_one I n t h = (
  tt,
  tt,
  (
    (
      λ ρ. (so_some I.size (pow t) h (λ a. equals I (pow t) a (identifier_value I n (pow t)) || false)).1
          (identifier_value I n (pow t), rw or-false ((so_eq I.size (pow t) h (identifier_value I n (pow t)) (identifier_value I n (pow t))).1 refl)),
      tt,
      ((tt, tt, ((tt, tt, tt), tt)), tt),
    ),
    ((tt, tt, tt), tt),
  ),
)

-- ---- quantifiers: ∀ x · x = TRUE is false, ∃ x · x = TRUE true
pub not_all_TRUE : (I : Interpretation) → is_true I (∀ᵖ (bool ∷ []) (bound ≐ leaf #True)) ≡ false
unfolding is_true means quantified choices flat_map values all holds value_of value_at same type_of type_at op_of op_at class_of lookup
not_all_TRUE I = simp as_type_refl

pub some_TRUE : (I : Interpretation) → is_true I (∃ᵖ (bool ∷ []) (bound ≐ leaf #True)) ≡ true
unfolding is_true means quantified choices flat_map values any holds value_of value_at same type_of type_at op_of op_at class_of lookup
some_TRUE I = simp as_type_refl

-- a given set has one element or more: ∃ x, y · ¬ x = y
abbrev pub sized : ℕ → Interpretation
sized n = record { size = λ m. n; value = λ m t. default (λ m. n) t; function = λ g ks t. default (λ m. n) t }

abbrev pub two_elements : Tree
two_elements = ∃ᵖ (given 5 ∷ given 5 ∷ []) (¬ᵖ (node (head #BoundIdent 1 []) nil ≐ bound))

pub by_size : (is_true (sized 0) two_elements ≡ false) × (is_true (sized 1) two_elements ≡ true)
unfolding is_true means quantified choices flat_map values list_of any holds value_of value_at same same_element type_of type_at op_of op_at class_of lookup
by_size = (refl, simp as_type_refl)

-- ---- sets of integers are left out: ℕ = ℤ does not meet the premise
pub no_sets_of_integers : SingleIntegers (leaf #Natural ≐ leaf #Integer) [] → ⊥
unfolding SingleIntegers type_of class_of lookup form_at
no_sets_of_integers s = s.3.0.1

-- single numbers are not: ¬(a ≤ b) meets it
pub single_numbers : SingleIntegers (¬ᵖ (two #Le (identifier 1 int) (identifier 2 int))) []
unfolding SingleIntegers type_of class_of lookup form_at
single_numbers = (tt, tt, tt, ((tt, tt, tt, (((tt, tt), tt, tt, tt), (((tt, tt), tt, tt, tt), tt))), tt))

-- ---- equations with a slip: the two sides differ in some interpretation
-- ¬(a ≤ b) is not a ≥ b: both are 0
pub not_le_slip : is_true (all_be true) (¬ᵖ (two #Le (identifier 1 int) (identifier 2 int))) ≡ is_true (all_be true)
    (two #Ge (identifier 1 int) (identifier 2 int)) → ⊥
unfolding valued is_true means holds value_of identifier_value le_int type_of op_of op_at class_of lookup
not_le_slip e = false≢true e

-- A <->> B = ∅ is not B = ∅ ∧ ¬ A = ∅: A is empty and B is {TRUE, FALSE}
abbrev pub A : Tree
A = identifier 1 (pow bool)

abbrev pub B : Tree
B = identifier 2 (pow bool)

abbrev pub none : Tree
none = ∅ (pow bool)

pub surjective_slip : is_true (sets (λ x. false) (λ x. true)) (two #SRel A B ≐ ∅ (pow (pow (prod bool bool))))
    ≡ is_true (sets (λ x. false) (λ x. true)) (⋀ (pair (B ≐ none) (¬ᵖ (A ≐ none)))) → ⊥
unfolding valued is_true means holds value_of identifier_value same values subsets including pairs some_of every_of any all type_of op_of op_at class_of lookup
surjective_slip e = true≢false e

-- S ∖ T = ∅ is not T ⊆ S: S is {TRUE, FALSE} and T is empty
pub minus_slip : is_true (sets (λ x. true) (λ x. false)) (two #SetMinus A B ≐ none) ≡ is_true (sets (λ x. true) (λ x. false)) (B ⊆ A) → ⊥
unfolding valued is_true means holds value_of identifier_value same values some_of every_of any all type_of op_of op_at class_of lookup
minus_slip e = false≢true e

-- ---- the trees above are accepted: `check` reads each from its frame
abbrev pub samples : List Tree
samples =
    is_TRUE
    ∷ (every_x bool ≐ leaf #Bool)
    ∷ (every_x (given 5) ≐ identifier 5 (pow (given 5)))
    ∷ (one #KInter (ext (sole A)) ≐ A)
    ∷ (one #KInter (∅ (pow (pow bool))) ≐ leaf #Bool)
    ∷ (∅ (pow (pow bool)) ≐ ext (sole (leaf #Bool)))
    ∷ ∀ᵖ (bool ∷ []) (bound ≐ leaf #True)
    ∷ ∃ᵖ (bool ∷ []) (bound ≐ leaf #True)
    ∷ two_elements
    ∷ ¬ᵖ (two #Le (identifier 1 int) (identifier 2 int))
    ∷ two #Ge (identifier 1 int) (identifier 2 int)
    ∷ (two #SRel A B ≐ ∅ (pow (pow (prod bool bool))))
    ∷ ⋀ (pair (B ≐ none) (¬ᵖ (A ≐ none)))
    ∷ (two #SetMinus A B ≐ none)
    ∷ (B ⊆ A)
    ∷ []

pub samples_accepted : map (λ t. check (enc t)) samples ≡ map accepted samples
unfolding lookup class_of form_at enc_number enc_ty enc_tys enc_head enc number_at ty_case read_ty read_tys with_number with_form read_head read_many
    read_node parse same_ty same_tys type_at type_of node_typed typed_tree closed_tree givens_ty givens_tys idents givens agrees agrees_with_givens consistent
    names_agree check_tree check
samples_accepted = refl
