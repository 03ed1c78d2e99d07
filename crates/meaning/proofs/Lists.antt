-- Truth values as propositions, and what holds of some or of every member of a list.
-- Main results: iff (truth values that follow from each other are equal), so_and, so_or, so_not, so_imp, so_beq, so_beq_iff,
-- so_any, so_all (what each test says), laws of any and all (all_is, all_append, any_append, all_mid, any_mid, all_swap,
-- any_swap, any_or, any_imp).
use mathlib.Core.Path.{◌≡◌, refl, sym, ap, ◌∙◌}
use mathlib.Core.Logic.{◌↔◌, ◌⊎◌, inl, inr}
use mathlib.Core.Bool.{Bool, true, false, not, ◌&&◌, ◌||◌, beq, So, true≢false, false≢true, not-not, and_assoc, or_assoc}
use mathlib.Core.List.{List, [], ◌∷◌, ◌++◌, map}
use Rattle.meaning.specs.Lists.{any, all}
use Rattle.frame.proofs.Booleans.{and_swap}
use Rattle.typing.specs.Members.{In}

-- two truth values are equal if each follows from the other
pub iff : {a b : Bool} → (So a ↔ So b) → a ≡ b
iff {a = true} {b} e = sym (e.0 refl)
iff {a = false} {b = true} e = e.1 refl
iff {a = false} {b = false} e = refl

pub so_and : (a b : Bool) → So (a && b) ↔ (So a × So b)
so_and true b = (λ e. (refl, e), λ k. k.1)
so_and false b = (λ e. absurd (false≢true e), λ k. absurd (false≢true k.0))

pub so_or : (a b : Bool) → So (a || b) ↔ (So a ⊎ So b)
so_or true b = (λ e. inl refl, λ o. refl)
so_or false b = (λ e. inr e, λ o. elim o [ inl e ↦ absurd (false≢true e) | inr e ↦ e ])

pub so_not : (a : Bool) → So (not a) ↔ (So a → ⊥)
so_not true = (λ e _. false≢true e, λ f. absurd (f refl))
so_not false = (λ e. false≢true, λ f. refl)

pub so_imp : (a b : Bool) → So (not a || b) ↔ (So a → So b)
so_imp true b = (λ e _. e, λ f. f refl)
so_imp false b = (λ e f. absurd (false≢true f), λ f. refl)

pub so_beq : (a b : Bool) → So (beq a b) ↔ (a ≡ b)
so_beq true true = (λ _. refl, λ _. refl)
so_beq true false = (λ e. sym e, λ e. sym e)
so_beq false true = (λ e. e, λ e. e)
so_beq false false = (λ _. refl, λ _. refl)

pub so_beq_iff : (a b : Bool) → So (beq a b) ↔ ((So a → So b) × (So b → So a))
so_beq_iff true true = (λ e. (λ h. h, λ h. h), λ h. refl)
so_beq_iff true false = (λ e. absurd (false≢true e), λ h. h.0 refl)
so_beq_iff false true = (λ e. absurd (false≢true e), λ h. h.1 refl)
so_beq_iff false false = (λ e. (λ h. h, λ h. h), λ h. refl)

pub clash {ℓ} : {C : Type ℓ} (a : Bool) → So a → a ≡ false → C
clash true p q = absurd (true≢false q)
clash false p q = absurd (false≢true p)

pub not_so : {a : Bool} → (So a → ⊥) → a ≡ false
not_so {a = true} f = absurd (f refl)
not_so {a = false} f = refl

-- ---- equations between truth values
pub beq_true : (a : Bool) → beq a true ≡ a
beq_true true = refl
beq_true false = refl

pub beq_false : (a : Bool) → beq a false ≡ not a
beq_false true = refl
beq_false false = refl

pub beq_comm : (a b : Bool) → beq a b ≡ beq b a
beq_comm true true = refl
beq_comm true false = refl
beq_comm false true = refl
beq_comm false false = refl

pub or_swap : (a b c : Bool) → (a || (b || c)) ≡ (b || (a || c))
or_swap false b c = refl
or_swap true true c = refl
or_swap true false c = refl

pub or_mid : (a b c d : Bool) → ((a || b) || (c || d)) ≡ ((a || c) || (b || d))
or_mid true b c d = refl
or_mid false true true d = refl
or_mid false true false d = refl
or_mid false false c d = refl

-- De Morgan
pub not_or : (a b : Bool) → not (a || b) ≡ (not a && not b)
not_or true b = refl
not_or false b = refl

pub not_and : (a b : Bool) → not (a && b) ≡ (not a || not b)
not_and true b = refl
not_and false b = refl

pub nand : (a b : Bool) → (not a || b) ≡ not (a && not b)
nand true true = refl
nand true false = refl
nand false b = refl

-- ---- any and all
module _ {A : Type 0} where
  pub so_any : (p : A → Bool) (l : List A) → So (any p l) ↔ ((x : A) × In x l × So (p x))
  unfolding any
  so_any p [] = (λ h. absurd (false≢true h), λ h. absurd h.1)
  so_any p (y ∷ l) = step (so_any p l)
    where
      step : So (any p l) ↔ ((x : A) × In x l × So (p x)) → So (p y || any p l) ↔ ((x : A) × In x (y ∷ l) × So (p x))
      step ih = simp so_or (
        λ o. elim o [ inl q ↦ (y, inl refl, q) | inr r ↦ let r = ih.0 r in (r.0, inr r.1, r.2) ],
        λ h.
            back h.0 h.1 h.2,
      )
        where
          back : (x : A) → In x (y ∷ l) → So (p x) → So (p y) ⊎ So (any p l)
          back x (inl e) q = inl (rw e at q)
          back x (inr i) q = inr (ih.1 (x, i, q))

  pub so_all : (p : A → Bool) (l : List A) → So (all p l) ↔ ((x : A) → In x l → So (p x))
  unfolding all
  so_all p [] = (λ h x i. absurd i, λ h. refl)
  so_all p (y ∷ l) = step (so_all p l)
    where
      step : So (all p l) ↔ ((x : A) → In x l → So (p x)) → So (p y && all p l) ↔ ((x : A) → In x (y ∷ l) → So (p x))
      step ih = simp (so_and, ih) (λ h x i. there h.0 h.1 x i, λ h. (h y (inl refl), λ x i. h x (inr i)))
        where
          there : So (p y) → ((x : A) → In x l → So (p x)) → (x : A) → In x (y ∷ l) → So (p x)
          there h k x (inl e) = rw e h
          there h k x (inr i) = k x i

  pub all_is : (p : A → Bool) (l : List A) → all p l ≡ not (any (λ x. not (p x)) l)
  unfolding any all
  all_is p [] = refl
  all_is p (x ∷ l) = go (p x) (all_is p l)
    where
      go : (b : Bool) → all p l ≡ not (any (λ x. not (p x)) l) → (b && all p l) ≡ not (not b || any (λ x. not (p x)) l)
      go true e = e
      go false e = refl

  pub all_true : (l : List A) → all (λ x. true) l ≡ true
  unfolding all
  all_true [] = refl
  all_true (x ∷ l) = all_true l

  pub any_false : (l : List A) → any (λ x. false) l ≡ false
  unfolding any
  any_false [] = refl
  any_false (x ∷ l) = any_false l

  pub all_append : (p : A → Bool) (l m : List A) → all p (l ++ m) ≡ (all p l && all p m)
  unfolding all
  all_append p [] m = refl
  all_append p (a ∷ l) m = ap (λ b. p a && b) (all_append p l m) ∙ sym (and_assoc (p a) (all p l) (all p m))

  pub any_append : (p : A → Bool) (l m : List A) → any p (l ++ m) ≡ (any p l || any p m)
  unfolding any
  any_append p [] m = refl
  any_append p (a ∷ l) m = ap (λ b. p a || b) (any_append p l m) ∙ sym (or_assoc (p a) (any p l) (any p m))

  pub all_mid : (p : A → Bool) (l : List A) (k : A) (m : List A) → all p (l ++ (k ∷ m)) ≡ (p k && all p (l ++ m))
  unfolding all
  all_mid p [] k m = refl
  all_mid p (a ∷ l) k m = ap (λ b. p a && b) (all_mid p l k m) ∙ and_swap (p a) (p k) (all p (l ++ m))

  pub any_mid : (p : A → Bool) (l : List A) (k : A) (m : List A) → any p (l ++ (k ∷ m)) ≡ (p k || any p (l ++ m))
  unfolding any
  any_mid p [] k m = refl
  any_mid p (a ∷ l) k m = ap (λ b. p a || b) (any_mid p l k m) ∙ or_swap (p a) (p k) (any p (l ++ m))

  pub any_or : (p q : A → Bool) (l : List A) → any (λ a. p a || q a) l ≡ (any p l || any q l)
  unfolding any
  any_or p q [] = refl
  any_or p q (a ∷ l) = ap (λ b. (p a || q a) || b) (any_or p q l) ∙ or_mid (p a) (q a) (any p l) (any q l)

  pub any_imp : (p q : A → Bool) (l : List A) → any (λ a. not (p a) || q a) l ≡ (not (all p l) || any q l)
  any_imp p q l = any_or (λ a. not (p a)) q l ∙ simp (all_is, not-not)

module _ {A B : Type 0} where
  pub In_map : (f : A → B) (x : A) (l : List A) → In x l → In (f x) (map f l)
  In_map f x [] i = elim i [ ]
  In_map f x (y ∷ l) (inl e) = inl (ap f e)
  In_map f x (y ∷ l) (inr i) = inr (In_map f x l i)

module _ {A B : Type 0} (f : B → A → Bool) where
  pub all_swap : (l : List A) (m : List B) → all (λ a. all (λ b. f b a) m) l ≡ all (λ b. all (f b) l) m
  all_swap l m = iff (simp so_all (λ h b j a i. h a i b j, λ h a i b j. h b j a i))

  pub any_swap : (l : List A) (m : List B) → any (λ a. any (λ b. f b a) m) l ≡ any (λ b. any (f b) l) m
  any_swap l m = iff (simp so_any (λ h. (h.2.0, h.2.1, (h.0, h.1, h.2.2)), λ h. (h.2.0, h.2.1, (h.0, h.1, h.2.2))))
