-- Laws of sets of values.
-- Main results: is_empty_lem, empty_is, no_members, is_full, full_is (what S = ∅, ∅ = S, S ⊆ ∅, S = Ty, Ty = S say), within_is,
-- every_is, so_sets (equality of sets by their members), some_any (a union has a member if a part has).
use mathlib.Core.Path.{◌≡◌, ap, ◌∙◌, fun_ext}
use mathlib.Core.Logic.{◌↔◌}
use mathlib.Core.Bool.{Bool, true, false, not, ◌&&◌, ◌||◌, So, not-not, and-true}
use mathlib.Core.List.{List}
use Prim.Native.Nat.{ℕ}
use Rattle.frame.specs.Types.{Ty, pow}
use Rattle.meaning.specs.Lists.{any, all}
use Rattle.meaning.specs.Values.{Value, values, same, some_of, every_of}
use Rattle.meaning.specs.Premises.{NoInt}
use Rattle.meaning.proofs.Lists.{iff, so_any, beq_true, beq_false, beq_comm, nand, all_is, all_true, any_false}
use Rattle.meaning.proofs.Complete.{so_some, so_same}

module _ (size : ℕ → ℕ) (t : Ty) (s : Value size t → Bool) where
  pub is_empty_lem : same size (pow t) s (λ x. false) ≡ not (some_of size t s)
  unfolding same some_of
  is_empty_lem = simp (beq_false, all_is, not-not)

  pub is_full : same size (pow t) s (λ x. true) ≡ every_of size t s
  unfolding same every_of
  is_full = simp beq_true

module _ (size : ℕ → ℕ) (t : Ty) (s r : Value size t → Bool) where
  pub same_comm : same size (pow t) s r ≡ same size (pow t) r s
  unfolding same
  same_comm = ap (λ p. all p (values size t)) (fun_ext (λ x. beq_comm (s x) (r x)))

module _ (size : ℕ → ℕ) where
  pub every_is : (t : Ty) (p : Value size t → Bool) → every_of size t p ≡ not (some_of size t (λ x. not (p x)))
  unfolding every_of some_of
  every_is t p = all_is p (values size t)

  pub every_true : (t : Ty) → every_of size t (λ x. true) ≡ true
  unfolding every_of
  every_true t = all_true (values size t)

  pub some_false : (t : Ty) → some_of size t (λ x. false) ≡ false
  unfolding some_of
  some_false t = any_false (values size t)

  pub within_is : (t : Ty) (s r : Value size t → Bool) → every_of size t (λ x. not (s x) || r x) ≡ not (some_of size t (λ x. s x && not (r x)))
  within_is t s r = simp (nand, every_is, not-not)

  pub no_members : (t : Ty) (s : Value size t → Bool) → every_of size t (λ x. not (s x) || false) ≡ not (some_of size t s)
  no_members t s = simp (within_is, and-true)

  pub empty_is : (t : Ty) (s : Value size t → Bool) → same size (pow t) (λ x. false) s ≡ not (some_of size t s)
  empty_is t s = same_comm size t (λ x. false) s ∙ is_empty_lem size t s

  pub full_is : (t : Ty) (s : Value size t → Bool) → same size (pow t) (λ x. true) s ≡ every_of size t s
  full_is t s = same_comm size t (λ x. true) s ∙ is_full size t s

  pub so_sets : (t : Ty) → NoInt t → (s r : Value size t → Bool) → So (same size (pow t) s r) ↔ ((x : Value size t) → So (s x) ↔ So (r x))
  so_sets t n s r = simp (so_same size (pow t) n) (λ e x. (λ h. rw (← e) h, λ h. rw e h), λ f. fun_ext (λ x. iff (f x)))

  -- A ∪ … ∪ B has a member if one of them has
  pub some_any : {A : Type 0} (t : Ty) → NoInt t → (f : A → Value size t → Bool) (l : List A)
      → some_of size t (λ x. any (λ k. f k x) l) ≡ any (λ k. some_of size t (f k)) l
  some_any t n f l =
      iff (simp (so_any, so_some size t n)
      (λ h. (h.1.0, h.1.1, (h.0, h.1.2)), λ h. (h.2.0, (h.0, h.1, h.2.1))))
