-- When sets of values that operators make are empty.
-- Main results: times_some, domres_some, domsub_none, ranres_some, ransub_none, image_some, dprod_some, pprod_some, pow_some,
-- pow1_some, kunion_none, dom_some, ran_some, converse_some, fcomp_some, qunion_none, id_some, prj1_some,
-- prj2_some, ext_some: an operator's set has a member (NAME-some), has none (NAME-none).
use mathlib.Core.Path.{◌≡◌, refl}
use mathlib.Core.Bool.{Bool, true, false, not, ◌&&◌, ◌||◌, or-false, not-not}
use mathlib.Core.List.{List}
use Prim.Native.Nat.{ℕ}
use Rattle.frame.specs.Types.{Ty, pow, prod}
use Rattle.meaning.specs.Lists.{any, all}
use Rattle.meaning.specs.Values.{Value, default, same, some_of, every_of, as_type}
use Rattle.meaning.specs.Premises.{NoInt}
use Rattle.meaning.proofs.Lists.{iff, so_and, so_not, so_imp, so_any, so_all}
use Rattle.meaning.proofs.Complete.{so_some, so_every, so_eq, as_type_refl}
use Rattle.meaning.proofs.Sets.{is_empty_lem, within_is}

module _ (size : ℕ → ℕ) where
  -- ---- two sets, a set and a relation
  module _ (t u : Ty) (nt : NoInt t) (nu : NoInt u) where
    pub times_some : (s : Value size t → Bool) (r : Value size u → Bool)
        → some_of size (prod t u) (λ p. s p.0 && r p.1) ≡ (some_of size t s && some_of size u r)
    times_some s r =
        iff (simp (so_and, so_some size t nt, so_some size u nu, so_some size (prod t u) (nt, nu))
        (λ h. ((h.0.0, h.1.0), (h.0.1, h.1.1)), λ h. ((h.0.0, h.1.0), (h.0.1, h.1.1))))

    module _ (s : Value size t → Bool) (r : Value size (prod t u) → Bool) where
      pub domres_some : some_of size t (λ x. some_of size u (λ y. r (x, y)) && s x) ≡ some_of size (prod t u) (λ p. s p.0 && r p)
      domres_some =
          iff (simp (so_and, so_some size t nt, so_some size u nu, so_some size (prod t u) (nt, nu))
          (λ h. ((h.0, h.1.0.0), (h.1.1, h.1.0.1)), λ h. (h.0.0, ((h.0.1, h.1.1), h.1.0))))

      pub domsub_none : every_of size t (λ x. not (some_of size u (λ y. r (x, y))) || s x) ≡ not (some_of size (prod t u) (λ p. not (s p.0) && r p))
      domsub_none =
          iff (simp (within_is, so_not, so_and, so_some size t nt, so_some size u nu, so_some size (prod t u) (nt, nu))
          (λ f h. f (h.0.0, ((h.0.1, h.1.1), h.1.0)), λ f h. f ((h.0, h.1.0.0), (h.1.1, h.1.0.1))))

      pub image_some : some_of size (prod t u) (λ p. s p.0 && r p) ≡ some_of size u (λ y. some_of size t (λ x. s x && r (x, y)))
      image_some =
          iff (simp (so_and, so_some size t nt, so_some size u nu, so_some size (prod t u) (nt, nu))
          (λ h. (h.0.1, (h.0.0, h.1)), λ h. ((h.1.0, h.0), h.1.1)))

    module _ (r : Value size (prod t u) → Bool) (s : Value size u → Bool) where
      pub ranres_some : some_of size u (λ y. some_of size t (λ x. r (x, y)) && s y) ≡ some_of size (prod t u) (λ p. r p && s p.1)
      ranres_some =
          iff (simp (so_and, so_some size t nt, so_some size u nu, so_some size (prod t u) (nt, nu))
          (λ h. ((h.1.0.0, h.0), (h.1.0.1, h.1.1)), λ h. (h.0.1, ((h.0.0, h.1.0), h.1.1))))

      pub ransub_none : every_of size u (λ y. not (some_of size t (λ x. r (x, y))) || s y) ≡ not (some_of size (prod t u) (λ p. r p && not (s p.1)))
      ransub_none =
          iff (simp (within_is, so_not, so_and, so_some size t nt, so_some size u nu, so_some size (prod t u) (nt, nu))
          (λ f h. f (h.0.1, ((h.0.0, h.1.0), h.1.1)), λ f h. f ((h.1.0.0, h.0), (h.1.0.1, h.1.1))))

    -- ---- dom, ran, ∼
    module _ (r : Value size (prod t u) → Bool) where
      pub dom_some : some_of size (prod t u) r ≡ some_of size t (λ x. some_of size u (λ y. r (x, y)))
      dom_some =
          iff (simp (so_some size t nt, so_some size u nu, so_some size (prod t u) (nt, nu))
          (λ h. (h.0.0, (h.0.1, h.1)), λ h. ((h.0, h.1.0), h.1.1)))

      pub ran_some : some_of size (prod t u) r ≡ some_of size u (λ y. some_of size t (λ x. r (x, y)))
      ran_some =
          iff (simp (so_some size t nt, so_some size u nu, so_some size (prod t u) (nt, nu))
          (λ h. (h.0.1, (h.0.0, h.1)), λ h. ((h.1.0, h.0), h.1.1)))

      pub converse_some : some_of size (prod t u) r ≡ some_of size (prod u t) (λ p. r (p.1, p.0))
      converse_some =
          iff (simp (so_some size (prod t u) (nt, nu), so_some size (prod u t) (nu, nt))
          (λ h. ((h.0.1, h.0.0), h.1), λ h. ((h.0.1, h.0.0), h.1)))

    -- ---- prj1, prj2
    pub prj1_some : some_of size (prod (prod t u) t) (λ p. same size t (as_type size t t p.0.0) p.1) ≡ true
    prj1_some =
        simp as_type_refl ((so_some size (prod (prod t u) t) ((nt, nu), nt) (λ p. same size t p.0.0 p.1)).1
        (((default size t, default size u), default size t), (so_eq size t nt (default size t) (default size t)).1 refl))

    pub prj2_some : some_of size (prod (prod t u) u) (λ p. same size u (as_type size u u p.0.1) p.1) ≡ true
    prj2_some =
        simp as_type_refl ((so_some size (prod (prod t u) u) ((nt, nu), nu) (λ p. same size u p.0.1 p.1)).1
        (((default size t, default size u), default size u), (so_eq size u nu (default size u) (default size u)).1 refl))

  -- ---- two relations
  module _ (t u v : Ty) (nt : NoInt t) (nu : NoInt u) (nv : NoInt v) where
    pub dprod_some : (p : Value size (prod t u) → Bool) (q : Value size (prod t v) → Bool)
        → some_of size t (λ x. some_of size u (λ y. p (x, y)) && some_of size v (λ z. q (x, z)))
        ≡ some_of size (prod t (prod u v)) (λ a. p (a.0, a.1.0) && q (a.0, a.1.1))
    dprod_some p q =
        iff (simp (so_and, so_some size t nt, so_some size u nu, so_some size v nv, so_some size (prod t (prod u v)) (nt, (nu, nv)))
        (λ h. ((h.0, (h.1.0.0, h.1.1.0)), (h.1.0.1, h.1.1.1)), λ h. (h.0.0, ((h.0.1.0, h.1.0), (h.0.1.1, h.1.1)))))

    module _ (p : Value size (prod t u) → Bool) (q : Value size (prod u v) → Bool) where
      pub fcomp_some : some_of size u (λ z. some_of size t (λ x. p (x, z)) && some_of size v (λ y. q (z, y)))
          ≡ some_of size (prod t v) (λ a. some_of size u (λ z. p (a.0, z) && q (z, a.1)))
      fcomp_some =
          iff (simp (so_and, so_some size t nt, so_some size u nu, so_some size v nv, so_some size (prod t v) (nt, nv))
          (λ h. ((h.1.0.0, h.1.1.0), (h.0, (h.1.0.1, h.1.1.1))), λ h. (h.1.0, ((h.0.0, h.1.1.0), (h.0.1, h.1.1.1)))))

  pub pprod_some : (t u v w : Ty) → NoInt t → NoInt u → NoInt v → NoInt w → (p : Value size (prod t v) → Bool) (q : Value size (prod u w) → Bool)
      → some_of size (prod (prod t u) (prod v w)) (λ a. p (a.0.0, a.1.0) && q (a.0.1, a.1.1)) ≡
      (some_of size (prod t v) p && some_of size (prod u w) q)
  pprod_some t u v w nt nu nv nw p q =
      iff (simp (
        so_and,
        so_some size (prod t v) (nt, nv),
        so_some size (prod u w) (nu, nw),
        so_some size
            (prod (prod t u) (prod v w)) ((nt, nu), (nv, nw)),
      ) (
        λ h. (((h.0.0.0, h.0.1.0), h.1.0), ((h.0.0.1, h.0.1.1), h.1.1)),
        λ h. (((h.0.0.0, h.1.0.0), (h.0.0.1, h.1.0.1)), (h.0.1, h.1.1)),
      ))

  -- ---- sets of sets
  module _ (t : Ty) (n : NoInt t) where
    pub pow_some : (a : Value size t → Bool) → some_of size (pow t) (λ s. every_of size t (λ x. not (s x) || a x)) ≡ true
    pow_some a = simp (so_imp, so_every size t n, so_some size (pow t) n) (a, λ x h. h)

    pub pow1_some : (a : Value size t → Bool) → some_of size t a ≡ some_of size (pow t) (λ s. every_of size t (λ x. not (s x) || a x) && some_of size t s)
    pow1_some a =
        iff (simp (so_and, so_imp, so_every size t n, so_some size t n, so_some size (pow t) n)
        (λ h. (a, ((λ x k. k), h)), λ h. (h.1.1.0, h.1.0 h.1.1.0 h.1.1.1)))

    pub kunion_none : (s : Value size (pow t) → Bool)
        → every_of size (pow t) (λ a. not (s a) || (same size (pow t) a (λ x. false) || false))
        ≡ not (some_of size t (λ x. some_of size (pow t) (λ a. s a && a x)))
    kunion_none s =
        iff (simp (or-false, is_empty_lem, within_is, not-not, so_not, so_and, so_some size t n, so_some size (pow t) n)
        (λ f h. f (h.1.0, (h.1.1.0, (h.0, h.1.1.1))), λ f h. f (h.1.1.0, (h.0, (h.1.0, h.1.1.1)))))

    pub id_some : some_of size (prod t t) (λ p. same size t (as_type size t t p.0) p.1) ≡ true
    id_some =
        simp as_type_refl ((so_some size (prod t t) (n, n) (λ p. same size t p.0 p.1)).1
        ((default size t, default size t), (so_eq size t n (default size t) (default size t)).1 refl))

    -- {a, …, b}
    pub ext_some : (a : Value size t) (p : Value size t → Bool) → some_of size t (λ x. same size t x a || p x) ≡ true
    ext_some a p = (so_some size t n (λ x. same size t x a || p x)).1 (a, rw ((so_eq size t n a a).1 refl))

    -- ⋃
    pub qunion_none : {A : Type 0} (p : A → Bool) (f : A → Value size t → Bool) (l : List A)
        → all (λ a. not (p a) || not (some_of size t (f a))) l ≡ not (some_of size t (λ x. any (λ a. p a && f a x) l))
    qunion_none p f l =
        iff (simp (so_not, so_imp, so_all, so_any, so_and, so_some size t n)
        (λ g h. g h.1.0 h.1.1 h.1.2.0 (h.0, h.1.2.1), λ g a i q h. g (h.0, (a, i, (q, h.1)))))
