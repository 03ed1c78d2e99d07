-- Carriers and values (document 01, "Meaning": "Carriers: BOOL two elements, each given set any finite number from 1 up,
-- products all pairs, powers all subsets." "integers are the whole numbers with sign").
use Rattle.std.specs.Prelude.{◌≡◌, Bool, true, false, ◌&&◌, ◌||◌, List, [], ◌∷◌, ◌++◌, map, ℕ, zero, suc, ℤ, pos, negsuc, eqb}
use Rattle.std.proofs.Common.{subst}
use Rattle.std.specs.Bool.{beq}
use Rattle.std.proofs.Math.Option.{Option, some, none}
use Rattle.std.proofs.Math.Decide.{ℕ_discrete}
use Rattle.frame.specs.Types.{Ty, bool, int, given, pow, prod, Ty-discrete}
use Rattle.meaning.specs.Lists.{any, all}

-- a set of n + 1 elements, so of any finite number from 1 up; its first element, all of them, and their equality
abbrev pub Elements : ℕ → Type 0
Elements zero = Unit {0}
Elements (suc n) = Option (Elements n)

unfoldable pub first_of : (n : ℕ) → Elements n
first_of zero = tt
first_of (suc n) = none

unfoldable pub list_of : (n : ℕ) → List (Elements n)
list_of zero = tt ∷ []
list_of (suc n) = none ∷ map some (list_of n)

unfoldable pub same_element : (n : ℕ) → Elements n → Elements n → Bool
same_element zero a b = true
same_element (suc n) none none = true
same_element (suc n) none (some b) = false
same_element (suc n) (some a) none = false
same_element (suc n) (some a) (some b) = same_element n a b

unfoldable pub same_int : ℤ → ℤ → Bool
same_int (pos m) (pos n) = eqb m n
same_int (pos m) (negsuc n) = false
same_int (negsuc m) (pos n) = false
same_int (negsuc m) (negsuc n) = eqb m n

module _ {A B : Type 0} where
  unfoldable pub pairs : List A → List B → List (A × B)
  pairs [] m = []
  pairs (a ∷ l) m = map (λ b. (a, b)) m ++ pairs l m

-- all subsets of what a list holds
module _ {A : Type 0} (same : A → A → Bool) where
  unfoldable pub including : A → (A → Bool) → A → Bool
  including a s x = same x a || s x

  unfoldable pub subsets : List A → List (A → Bool)
  subsets [] = (λ x. false) ∷ []
  subsets (a ∷ l) = subsets l ++ map (including a) (subsets l)

-- size n is one less than the number of elements of the given set n
module _ (size : ℕ → ℕ) where
  -- the values of a type: a set is a test of its members
  abbrev pub Value : Ty → Type 0
  Value bool = Bool
  Value int = ℤ
  Value (given n) = Elements (size n)
  Value (pow t) = Value t → Bool
  Value (prod t u) = Value t × Value u

  -- some value: carriers are not empty
  unfoldable pub default : (t : Ty) → Value t
  default bool = false
  default int = pos 0
  default (given n) = first_of (size n)
  default (pow t) = λ x. false
  default (prod t u) = (default t, default u)

  -- all values of a type that holds no integers, and equality. Integers can't be listed: no set of them is compared in
  -- what document 01 covers ("Integers only as single numbers").
  unfoldable mutual
    pub values : (t : Ty) → List (Value t)
    values bool = true ∷ false ∷ []
    values int = []
    values (given n) = list_of (size n)
    values (pow t) = subsets (λ a b. same t a b) (values t)
    values (prod t u) = pairs (values t) (values u)

    pub same : (t : Ty) → Value t → Value t → Bool
    same bool a b = beq a b
    same int a b = same_int a b
    same (given n) a b = same_element (size n) a b
    same (pow t) a b = all (λ x. beq (a x) (b x)) (values t)
    same (prod t u) a b = same t a.0 b.0 && same u a.1 b.1

  -- some value, every value of the type passes the test
  unfoldable pub some_of : (t : Ty) → (Value t → Bool) → Bool
  some_of t p = any p (values t)

  unfoldable pub every_of : (t : Ty) → (Value t → Bool) → Bool
  every_of t p = all p (values t)

  -- a value of one type at a type that is the same
  unfoldable pub cast : (u t : Ty) → Dec (u ≡ t) → Value u → Value t
  cast u t (yes e) v = subst Value e v
  cast u t (no f) v = default t

  unfoldable pub as_type : (u t : Ty) → Value u → Value t
  as_type u t v = cast u t (Ty-discrete ℕ_discrete u t) v
