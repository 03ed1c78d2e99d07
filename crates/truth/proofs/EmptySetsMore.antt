-- When sets of values that operators make are empty: sets of relations, <+, and ∩ with a singleton.
-- Main results: srel_some, strel_some (S <->> T and S <<->> T have a member), ovr_some, cap_single.
use mathlib.Core.Path.{◌≡◌, refl}
use mathlib.Core.Logic.{◌⊎◌, inl, inr}
use mathlib.Core.Bool.{Bool, true, false, not, ◌&&◌, ◌||◌, beq, So}
use mathlib.Core.List.{List, ◌∷◌, ◌++◌}
use Prim.Native.Nat.{ℕ}
use Rattle.frame.specs.Types.{Ty, pow, prod}
use Rattle.meaning.specs.Lists.{all}
use Rattle.meaning.specs.Values.{Value, same, some_of, every_of}
use Rattle.meaning.specs.Premises.{NoInt}
use Rattle.meaning.proofs.Lists.{iff, so_and, so_or, so_imp, so_beq_iff, all_mid}
use Rattle.meaning.proofs.Complete.{so_some, so_every, so_eq}

module _ (size : ℕ → ℕ) where
  -- ---- relations from a set to a set, among them the product of the two
  module _ (t u : Ty) (nt : NoInt t) (nu : NoInt u) (a : Value size t → Bool) (b : Value size u → Bool) where
    product : Value size (prod t u) → Bool
    product p = a p.0 && b p.1

    -- S <->> T has a member if T = ∅ or S ≠ ∅
    pub srel_some : some_of size (pow (prod t u)) (λ r.
        every_of size t (λ x. every_of size u (λ y. not (r (x, y)) || (a x && b y))) && every_of size u
        (λ y. not (b y) || some_of size t (λ x. r (x, y))))
        ≡ (not (some_of size u b) || some_of size t a)
    unfolding product
    srel_some =
        iff (simp (
          so_imp,
          so_and,
          so_every size t nt,
          so_every size u nu,
          so_some size t nt,
          so_some size u nu,
          so_some size
              (pow (prod t u)) (nt, nu),
        ) (
          λ h m. (let x = h.1.1 m.0 m.1 in (x.0, (h.1.0 x.0 m.0 x.1).0)),
          λ h. (product, ((λ x y k. (so_and (a x) (b y)).0 k), λ y k. (let x = h (y, k) in (x.0, (so_and (a x.0) (b y)).1 (x.1, k))))),
        ))

    -- S <<->> T has a member if both are empty or none is
    pub strel_some : some_of size (pow (prod t u)) (λ r.
        every_of size t (λ x. every_of size u (λ y. not (r (x, y)) || (a x && b y)))
        && (every_of size t (λ x. not (a x) || some_of size u (λ y. r (x, y))) && every_of size u (λ y. not (b y) || some_of size t (λ x. r (x, y)))))
        ≡ beq (some_of size t a) (some_of size u b)
    unfolding product
    strel_some =
        iff (simp (
          so_beq_iff,
          so_imp,
          so_and,
          so_every size t nt,
          so_every size u nu,
          so_some size t nt,
          so_some size u nu,
          so_some size
              (pow (prod t u)) (nt, nu),
        ) (
          λ h. (
            (λ m. (let y = h.1.1.0 m.0 m.1 in (y.0, (h.1.0 m.0 y.0 y.1).1))),
            λ m. (let x = h.1.1.1 m.0 m.1 in (x.0, (h.1.0 x.0 m.0 x.1).0)),
          ),
          λ h. (
            product,
            (
              (λ x y k. (so_and (a x) (b y)).0 k),
              (
                (λ x k. (let y = h.0 (x, k) in (y.0, (so_and (a x) (b y.0)).1 (k, y.1)))),
                λ y k. (let x = h.1 (y, k) in (x.0, (so_and (a x.0) (b y)).1 (x.1, k))),
              ),
            ),
          ),
        ))

  -- ---- r <+ s: a pair of s, or one of r from where s leads nowhere
  module _ (t u : Ty) (nt : NoInt t) (nu : NoInt u) (r s : Value size (prod t u) → Bool) where
    from : Value size t → Bool
    from x = some_of size u (λ z. s (x, z))

    over : Value size (prod t u) → Bool
    over a = s a || (r a && not (from a.0))

    -- a pair of r is in r <+ s, or one of s with the same start is
    keep : (a : Value size (prod t u)) → So (r a) → (c : Bool) → from a.0 ≡ c → (b : Value size (prod t u)) × So (over b)
    unfolding over from
    keep a h true e = let z = (so_some size u nu (λ z. s (a.0, z))).0 e in ((a.0, z.0), rw z.1)
    keep a h false e = (a, (so_or (s a) (r a && not (from a.0))).1 (inr ((so_and (r a) (not (from a.0))).1 (h, rw e))))

    pub ovr_some : some_of size (prod t u) (λ a. s a || (r a && not (some_of size u (λ z. s (a.0, z))))) ≡
        (some_of size (prod t u) r || some_of size (prod t u) s)
    unfolding over from
    ovr_some =
        iff (simp (so_some size (prod t u) (nt, nu)) (
          λ h. there h.0 ((so_or (s h.0) (r h.0 && not (from h.0.0))).0 h.1),
          λ h. back ((so_or (some_of size (prod t u) r) (some_of size (prod t u) s)).0 h),
        ))
      where
        there : (a : Value size (prod t u)) → So (s a) ⊎ So (r a && not (from a.0)) → So (some_of size (prod t u) r || some_of size (prod t u) s)
        there a (inl h) = (so_or (some_of size (prod t u) r) (some_of size (prod t u) s)).1 (inr ((so_some size (prod t u) (nt, nu) s).1 (a, h)))
        there a (inr h) = (so_or (some_of size (prod t u) r) (some_of size (prod t u) s)).1
            (inl ((so_some size (prod t u) (nt, nu) r).1 (a, ((so_and (r a) (not (from a.0))).0 h).0)))

        back : So (some_of size (prod t u) r) ⊎ So (some_of size (prod t u) s) → (a : Value size (prod t u)) × So (over a)
        back (inl h) = let a = (so_some size (prod t u) (nt, nu) r).0 h in keep a.0 a.1 (from a.0.0) refl
        back (inr h) = let a = (so_some size (prod t u) (nt, nu) s).0 h in (a.0, (so_or (s a.0) (r a.0 && not (from a.0.0))).1 (inl a.1))

  -- ---- A ∩ {a} ∩ B has a member if a is in A ∩ B
  pub cap_single : {A : Type 0} (t : Ty) → NoInt t → (f : A → Value size t → Bool) (l m : List A) (k : A) (a : Value size t)
      → ((x : Value size t) → f k x ≡ same size t x a) → some_of size t (λ x. all (λ k. f k x) (l ++ (k ∷ m))) ≡ all (λ k. f k a) (l ++ m)
  cap_single t n f l m k a h =
      iff (simp (all_mid, so_and, so_some size t n, h, so_eq size t n)
      (λ g. rw (← g.1.0) g.1.1, λ g. (a, (refl, g))))
