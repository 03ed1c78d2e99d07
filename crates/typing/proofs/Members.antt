-- Members of lists: of two lists joined, and what holds of each.
-- Main results: in_left, in_right, in_either (members of two lists joined); all_join, all_left, all_right (what holds of each member
-- of them); all_of, all_in (from membership, and back).
use mathlib.Core.Path.{refl, sym, subst}
use mathlib.Core.Logic.{◌⊎◌, inl, inr}
use mathlib.Core.List.{List, [], ◌∷◌, ◌++◌}
use Rattle.typing.specs.Members.{In, All}

module _ {A : Type 0} where
  pub in_left : (x : A) (l m : List A) → In x l → In x (l ++ m)
  in_left x [] m i = absurd i
  in_left x (y ∷ l) m (inl e) = inl e
  in_left x (y ∷ l) m (inr i) = inr (in_left x l m i)

  pub in_right : (x : A) (l m : List A) → In x m → In x (l ++ m)
  in_right x [] m i = i
  in_right x (y ∷ l) m i = inr (in_right x l m i)

  pub in_either : (x : A) (l m : List A) → In x (l ++ m) → In x l ⊎ In x m
  in_either x [] m i = inr i
  in_either x (y ∷ l) m (inl e) = inl (inl e)
  in_either x (y ∷ l) m (inr i) = or_left (in_either x l m i)
    where
      or_left : In x l ⊎ In x m → In x (y ∷ l) ⊎ In x m
      or_left (inl j) = inl (inr j)
      or_left (inr j) = inr j

  -- what holds of each member
  pub all_join : (P : A → Type 0) (l m : List A) → All P l → All P m → All P (l ++ m)
  all_join P [] m h k = k
  all_join P (x ∷ l) m h k = (h.0, all_join P l m h.1 k)

  pub all_left : (P : A → Type 0) (l m : List A) → All P (l ++ m) → All P l
  all_left P [] m h = tt
  all_left P (x ∷ l) m h = (h.0, all_left P l m h.1)

  pub all_right : (P : A → Type 0) (l m : List A) → All P (l ++ m) → All P m
  all_right P [] m h = h
  all_right P (x ∷ l) m h = all_right P l m h.1

  -- from membership, and back
  pub all_of : (P : A → Type 0) (l : List A) → ((x : A) → In x l → P x) → All P l
  all_of P [] h = tt
  all_of P (x ∷ l) h = (h x (inl refl), all_of P l (λ y i. h y (inr i)))

  pub all_in : (P : A → Type 0) (l : List A) (x : A) → All P l → In x l → P x
  all_in P [] x h i = absurd i
  all_in P (y ∷ l) x h (inl e) = subst P (sym e) h.0
  all_in P (y ∷ l) x h (inr i) = all_in P l x h.1 i
