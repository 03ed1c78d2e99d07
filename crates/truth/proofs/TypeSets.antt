-- Laws of sets of values that hold every element of their type, one for each equation of E = Ty: on the left what the new
-- predicate says, on the right that E is full.
-- Main results: cap_full, minus_full, times_full, domres_full, domsub_full, ranres_full, ransub_full, dprod_full, pprod_full,
-- kinter_full, converse_full, qinter_full.
use mathlib.Core.Path.{◌≡◌, refl, sym, ◌∙◌, fun_ext}
use mathlib.Core.Bool.{Bool, true, false, not, ◌&&◌, ◌||◌, So, or-false}
use mathlib.Core.List.{List}
use Prim.Native.Nat.{ℕ}
use Rattle.frame.specs.Types.{Ty, pow, prod}
use Rattle.meaning.specs.Lists.{all}
use Rattle.meaning.specs.Values.{Value, default, values, same, some_of, every_of}
use Rattle.meaning.specs.Premises.{NoInt}
use Rattle.meaning.proofs.Lists.{iff, so_and, so_not, so_imp, so_all, all_swap}
use Rattle.meaning.proofs.Complete.{so_some, so_every}
use Rattle.meaning.proofs.Sets.{is_full, so_sets}

module _ (size : ℕ → ℕ) where
  -- A ∩ … ∩ B
  pub cap_full : {A : Type 0} (t : Ty) (f : A → Value size t → Bool) (l : List A)
      → all (λ k. every_of size t (f k)) l ≡ every_of size t (λ x. all (λ k. f k x) l)
  unfolding every_of
  cap_full t f l = sym (all_swap f (values size t) l)

  -- A ∖ B
  pub minus_full : (t : Ty) → NoInt t → (s r : Value size t → Bool)
      → (every_of size t s && (not (some_of size t r) && true)) ≡ every_of size t (λ x. s x && not (r x))
  minus_full t n s r =
      iff (simp (so_and, so_not, so_every size t n, so_some size t n)
      (λ h x. (h.0 x, λ k. h.1.0 (x, k)), λ h. (λ x. (h x).0, (λ k. (h k.0).1 k.1, refl))))

  module _ (t u : Ty) (nt : NoInt t) (nu : NoInt u) where
    -- S × T
    pub times_full : (s : Value size t → Bool) (r : Value size u → Bool)
        → (every_of size t s && (every_of size u r && true)) ≡ every_of size (prod t u) (λ p. s p.0 && r p.1)
    times_full s r =
        iff (simp (so_and, so_every size t nt, so_every size u nu, so_every size (prod t u) (nt, nu))
        (λ h p. (h.0 p.0, h.1.0 p.1), λ h. (λ x. (h (x, default size u)).0, (λ y. (h (default size t, y)).1, refl))))

    -- S ◁ r, S ⩤ r, r ▷ T, r ⩥ T
    module _ (r : Value size (prod t u) → Bool) where
      pub domres_full : (s : Value size t → Bool)
          → (every_of size t s && (every_of size (prod t u) r && true)) ≡ every_of size (prod t u) (λ p. s p.0 && r (p.0, p.1))
      domres_full s =
          iff (simp (so_and, so_every size t nt, so_every size (prod t u) (nt, nu))
          (λ h p. (h.0 p.0, h.1.0 p), λ h. (λ x. (h (x, default size u)).0, (λ p. (h p).1, refl))))

      pub domsub_full : (s : Value size t → Bool)
          → (not (some_of size t s) && (every_of size (prod t u) r && true)) ≡ every_of size (prod t u) (λ p. not (s p.0) && r (p.0, p.1))
      domsub_full s =
          iff (simp (so_and, so_not, so_some size t nt, so_every size (prod t u) (nt, nu))
          (λ h p. (λ k. h.0 (p.0, k), h.1.0 p), λ h. (λ k. (h (k.0, default size u)).0 k.1, (λ p. (h p).1, refl))))

      pub ranres_full : (s : Value size u → Bool)
          → (every_of size u s && (every_of size (prod t u) r && true)) ≡ every_of size (prod t u) (λ p. r (p.0, p.1) && s p.1)
      ranres_full s =
          iff (simp (so_and, so_every size u nu, so_every size (prod t u) (nt, nu))
          (λ h p. (h.1.0 p, h.0 p.1), λ h. (λ y. (h (default size t, y)).1, (λ p. (h p).0, refl))))

      pub ransub_full : (s : Value size u → Bool)
          → (not (some_of size u s) && (every_of size (prod t u) r && true)) ≡ every_of size (prod t u) (λ p. r (p.0, p.1) && not (s p.1))
      ransub_full s =
          iff (simp (so_and, so_not, so_some size u nu, so_every size (prod t u) (nt, nu))
          (λ h p. (h.1.0 p, λ k. h.0 (p.1, k)), λ h. (λ k. (h (default size t, k.0)).1 k.1, (λ p. (h p).0, refl))))

      -- r∼
      pub converse_full : every_of size (prod t u) r ≡ every_of size (prod u t) (λ p. r (p.1, p.0))
      converse_full =
          iff (simp (so_every size (prod t u) (nt, nu), so_every size (prod u t) (nu, nt)) (λ h p. h (p.1, p.0), λ h p. h (p.1, p.0)))

  -- p ⊗ q
  pub dprod_full : (t u v : Ty) → NoInt t → NoInt u → NoInt v → (p : Value size (prod t u) → Bool) (q : Value size (prod t v) → Bool)
      → (every_of size (prod t u) p && (every_of size (prod t v) q && true)) ≡ every_of size (prod t (prod u v))
      (λ z. p (z.0, z.1.0) && q (z.0, z.1.1))
  dprod_full t u v nt nu nv p q =
      iff (simp (so_and, so_every size (prod t u) (nt, nu), so_every size (prod t v) (nt, nv), so_every size (prod t (prod u v)) (nt, (nu, nv))) (
        λ h z. (h.0 (z.0, z.1.0), h.1.0 (z.0, z.1.1)),
        λ h.
            (λ x. (h (x.0, (x.1, default size v))).0, (λ x. (h (x.0, (default size u, x.1))).1, refl)),
      ))

  -- p ∥ q
  pub pprod_full : (t u v w : Ty) → NoInt t → NoInt u → NoInt v → NoInt w → (p : Value size (prod t u) → Bool) (q : Value size (prod v w) → Bool)
      → (every_of size (prod t u) p && (every_of size (prod v w) q && true))
      ≡ every_of size (prod (prod t v) (prod u w)) (λ z. p (z.0.0, z.1.0) && q (z.0.1, z.1.1))
  pprod_full t u v w nt nu nv nw p q =
      iff (simp (
        so_and,
        so_every size (prod t u) (nt, nu),
        so_every size (prod v w) (nv, nw),
        so_every size
            (prod (prod t v) (prod u w)) ((nt, nv), (nu, nw)),
      ) (
        λ h z. (h.0 (z.0.0, z.1.0), h.1.0 (z.0.1, z.1.1)),
        λ h.
            (λ x. (h ((x.0, default size v), (x.1, default size w))).0, (λ x. (h ((default size t, x.0), (default size u, x.1))).1, refl)),
      ))

  -- inter(S), where S has a member: S is {Ty} if each of its members is Ty
  pub kinter_full : (t : Ty) → NoInt t → (s : Value size (pow t) → Bool) → So (some_of size (pow t) s)
      → same size (pow (pow t)) s (λ a. same size (pow t) a (λ x. true) || false) ≡ every_of size t (λ x. every_of size (pow t) (λ a. not (s a) || a x))
  kinter_full t n s h =
      iff (simp (or-false, is_full, so_sets size (pow t) n, so_imp, so_every size t n, so_every size (pow t) n)
      (λ g x a sa. (g a).0 sa x, λ f a. (λ sa x. f x a sa, λ g. full f a g)))
    where
      m : (a : Value size (pow t)) × So (s a)
      m = (so_some size (pow t) n s).0 h

      full : ((x : Value size t) (a : Value size (pow t)) → So (s a) → So (a x)) → (a : Value size (pow t))
          → ((x : Value size t) → So (a x)) → So (s a)
      full f a g = let e : a ≡ m.0 = fun_ext (λ x. g x ∙ sym (f x m.0 m.1)) in rw e m.1

  -- ⋂ x · P ∣ E
  pub qinter_full : {A : Type 0} (t : Ty) → NoInt t → (p : A → Bool) (f : A → Value size t → Bool) (l : List A)
      → all (λ k. not (p k) || every_of size t (f k)) l ≡ every_of size t (λ x. all (λ k. not (p k) || f k x) l)
  qinter_full t n p f l =
      iff (simp (so_all, so_imp, so_every size t n) (λ h x k i pk. h k i pk x, λ h k i pk x. h x k i pk))
