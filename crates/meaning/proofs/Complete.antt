-- Every value stands in the list of its type's values, and the test of equality is right.
-- Main results: listed, so_eq (of types without integers), so_same (of single integers too), so_some, so_every,
-- as_type_refl (a value at its own type).
use mathlib.Core.Path.{◌≡◌, refl, ap, subst_refl, fun_ext}
use mathlib.Core.Logic.{◌↔◌, ◌⊎◌, inl, inr}
use mathlib.Core.Bool.{Bool, true, false, So, false≢true, cond}
use mathlib.Core.List.{List, [], ◌∷◌, ◌++◌, map}
use mathlib.Core.HLevel.{hedberg}
use mathlib.Core.Option.{some, none}
use Prim.Native.Nat.{ℕ, zero, suc}
use native.Mathlib.Decide.{ℕ_discrete}
use lib.IntN.{ℤ, pos, negsuc}
use borrow.Author.Tests.{eqb-true, eq-eqb}
use Rattle.frame.specs.Types.{Ty, bool, int, given, pow, prod, Ty-discrete}
use Rattle.typing.specs.Members.{In}
use Rattle.typing.proofs.Members.{in_left, in_right}
use Rattle.meaning.specs.Values.{Elements, list_of, same_element, same_int, pairs, including, subsets, Value, values, same, some_of, every_of, cast, as_type}
use Rattle.meaning.specs.Premises.{NoInt, Single}
use Rattle.meaning.proofs.Lists.{iff, so_and, so_or, so_any, so_all, so_beq, In_map}

-- ---- the elements of a given set
all_elements : (n : ℕ) (x : Elements n) → In x (list_of n)
unfolding list_of
all_elements zero x = inl refl
all_elements (suc n) none = inl refl
all_elements (suc n) (some x) = inr (In_map some x (list_of n) (all_elements n x))

so_element : (n : ℕ) (a b : Elements n) → So (same_element n a b) ↔ (a ≡ b)
unfolding same_element
so_element zero a b = (λ _. refl, λ _. refl)
so_element (suc n) none none = (λ _. refl, λ _. refl)
so_element (suc n) none (some b) = (λ h. cc, λ e. cc)
so_element (suc n) (some a) none = (λ h. cc, λ e. cc)
so_element (suc n) (some a) (some b) = (λ h. ap some ((so_element n a b).0 h), λ e. (so_element n a b).1 (cc))

-- ---- whole numbers
so_int : (a b : ℤ) → So (same_int a b) ↔ (a ≡ b)
unfolding same_int
so_int (pos m) (pos n) = (λ h. ap pos (eqb-true m n h), λ e. eq-eqb m n (cc))
so_int (pos m) (negsuc n) = (λ h. cc, λ e. cc)
so_int (negsuc m) (pos n) = (λ h. cc, λ e. cc)
so_int (negsuc m) (negsuc n) = (λ h. ap negsuc (eqb-true m n h), λ e. eq-eqb m n (cc))

-- ---- pairs
all_pairs : {A B : Type 0} (a : A) (b : B) (l : List A) (m : List B) → In a l → In b m → In (a, b) (pairs l m)
unfolding pairs
all_pairs {A} {B} a b [] m i j = elim i [ ]
all_pairs {A} {B} a b (x ∷ l) m (inl e) j = rw e (in_left (x, b) (map (λ y. (x, y)) m) (pairs l m) (In_map (λ y. (x, y)) b m j))
all_pairs a b (x ∷ l) m (inr i) j = in_right (a, b) (map (λ y. (x, y)) m) (pairs l m) (all_pairs a b l m i j)

-- ---- sets
module _ {A : Type 0} (eq : A → A → Bool) (so_eq : (a b : A) → So (eq a b) ↔ (a ≡ b)) where
  -- the members of l that are in s
  part : List A → (A → Bool) → A → Bool
  part [] s = λ x. false
  part (a ∷ l) s = cond (s a) (including eq a (part l s)) (part l s)

  In_cond : (b : Bool) (f g : A → Bool) (l m : List (A → Bool)) → In f m → In g l → In (cond b f g) (l ++ m)
  In_cond true f g l m i j = in_right f l m i
  In_cond false f g l m i j = in_left g l m j

  part_listed : (l : List A) (s : A → Bool) → In (part l s) (subsets eq l)
  unfolding part subsets
  part_listed [] s = inl refl
  part_listed (a ∷ l) s =
      let ih = part_listed l s in
      In_cond (s a) (including eq a (part l s)) (part l s) (subsets eq l) (map (including eq a) (subsets eq l))
      (In_map (including eq a) (part l s) (subsets eq l) ih) ih

  so_part : (l : List A) (s : A → Bool) (x : A) → So (part l s x) ↔ (In x l × So (s x))
  unfolding part including
  so_part [] s x = (λ h. absurd (false≢true h), λ h. absurd h.0)
  so_part (a ∷ l) s x = go (s a) refl (so_part l s x)
    where
      put : s a ≡ true → So (part l s x) ↔ (In x l × So (s x)) → So (eq x a) ⊎ So (part l s x) → In x (a ∷ l) × So (s x)
      put e ih (inl h) = let p = (so_eq x a).0 h in (inl p, rw p e)
      put e ih (inr h) = let p = ih.0 h in (inr p.0, p.1)

      take : So (part l s x) ↔ (In x l × So (s x)) → In x (a ∷ l) → So (s x) → So (eq x a) ⊎ So (part l s x)
      take ih (inl e) h = inl ((so_eq x a).1 e)
      take ih (inr i) h = inr (ih.1 (i, h))

      pass : s a ≡ false → So (part l s x) ↔ (In x l × So (s x)) → In x (a ∷ l) → So (s x) → So (part l s x)
      pass e ih (inl p) h = let q : s x ≡ false = rw p e in cc
      pass e ih (inr i) h = ih.1 (i, h)

      go : (b : Bool) → s a ≡ b → So (part l s x) ↔ (In x l × So (s x))
          → So (cond b (including eq a (part l s)) (part l s) x) ↔ (In x (a ∷ l) × So (s x))
      go true e ih = simp so_or (λ h. put e ih h, λ h. take ih h.0 h.1)
      go false e ih = (λ h. let p = ih.0 h in (inr p.0, p.1), λ h. pass e ih h.0 h.1)

  all_subsets : (l : List A) → ((x : A) → In x l) → (s : A → Bool) → In s (subsets eq l)
  all_subsets l every s =
      let e : part l s ≡ s = fun_ext (λ x. iff (λ h. ((so_part l s x).0 h).1, λ h. (so_part l s x).1 (every x, h))) in
      rw e at (part_listed l s)

module _ (size : ℕ → ℕ) where
  mutual
    unfolding values same

    pub listed : (t : Ty) → NoInt t → (x : Value size t) → In x (values size t)
    listed bool n true = inl refl
    listed bool n false = inr (inl refl)
    listed int n x = absurd n
    listed (given k) n x = all_elements (size k) x
    listed (pow t) n x = all_subsets (λ a b. same size t a b) (λ a b. so_eq t n a b) (values size t) (λ y. listed t n y) x
    listed (prod t u) n x = all_pairs x.0 x.1 (values size t) (values size u) (listed t n.0 x.0) (listed u n.1 x.1)

    pub so_eq : (t : Ty) → NoInt t → (a b : Value size t) → So (same size t a b) ↔ (a ≡ b)
    so_eq bool n a b = so_beq a b
    so_eq int n a b = absurd n
    so_eq (given k) n a b = so_element (size k) a b
    so_eq (pow t) n a b =
        simp (so_all, so_beq) (λ h. fun_ext (λ x. h x (listed t n x)), λ e x i. ap (λ f. f x) e)
    so_eq (prod t u) n a b =
        simp (so_and, so_eq t n.0 a.0 b.0, so_eq u n.1 a.1 b.1) (λ h i. (h.0 i, h.1 i), λ e. (ap (λ p. p.0) e, ap (λ p. p.1) e))

  pub so_same : (t : Ty) → Single t → (a b : Value size t) → So (same size t a b) ↔ (a ≡ b)
  unfolding same
  so_same bool n a b = so_eq bool n a b
  so_same int n a b = so_int a b
  so_same (given k) n a b = so_eq (given k) n a b
  so_same (pow t) n a b = so_eq (pow t) n a b
  so_same (prod t u) n a b = so_eq (prod t u) n a b

  module _ (t : Ty) (n : NoInt t) (p : Value size t → Bool) where
    pub so_some : So (some_of size t p) ↔ ((x : Value size t) × So (p x))
    unfolding some_of
    so_some = simp so_any (λ h. (h.0, h.2), λ h. (h.0, listed t n h.0, h.1))

    pub so_every : So (every_of size t p) ↔ ((x : Value size t) → So (p x))
    unfolding every_of
    so_every = simp so_all (λ h x. h x (listed t n x), λ h x i. h x)

  -- a value at its own type
  pub as_type_refl : (t : Ty) (v : Value size t) → as_type size t t v ≡ v
  unfolding as_type cast
  as_type_refl t v = go (Ty-discrete ℕ_discrete t t)
    where
      go : (d : Dec (t ≡ t)) → cast size t t d v ≡ v
      go (yes e) = let p : e ≡ refl = hedberg (Ty-discrete ℕ_discrete) t t e refl in rw p (subst_refl (Value size) {x = t} v)
      go (no f) = absurd (f refl)
