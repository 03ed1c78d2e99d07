-- Claims that are noted one after the other.
-- Main results: told_none (the table of zeros), noted_then, noted_early, unlisted_then, unlisted_early.
use mathlib.Core.Path.{◌≡◌, refl, sym, ◌∙◌, subst}
use mathlib.Core.Logic.{inl}
use mathlib.Core.Bool.{Bool, true, false}
use mathlib.Core.List.{List, [], ◌∷◌, ◌++◌, append_assoc, append-nil}
use Prim.Native.Nat.{ℕ, ◌≤◌, ◌<◌}
use native.Mathlib.Omega.{arith}
use lib.ListN.{length, get_or, replicate, length-replicate, get_or-replicate, get_or-eq_default}
use lib.Dec.{ltb}
use borrow.Author.Tests.{ltb-true, ltb-false}
use Rattle.frame.specs.Types.{Ty}
use Rattle.typing.specs.Identifiers.{Named, named}
use Rattle.typing.proofs.Members.{in_left, in_right}
use Rattle.claims.specs.Table.{Clash, Told, Noted, Held}
use Rattle.identifiers.specs.Claims.{Unlisted}

-- ---- the table at first
zeros : (m n : ℕ) → ◌≡◌ {A = ℕ} (get_or (replicate m 0) n 0) 0
zeros m n = go (ltb n m) refl
  where
    go : (b : Bool) → ltb n m ≡ b → ◌≡◌ {A = ℕ} (get_or (replicate m 0) n 0) 0
    go true e = get_or-replicate m n 0 0 (ltb-true n m e)
    go false e = (let l : length {A = ℕ} (replicate m 0) ≤ n = rw (length-replicate {A = ℕ} m 0) (ltb-false n m e) in
        get_or-eq_default {A = ℕ} (replicate m 0) 0 l)

pub told_none : (s : List ℕ) (m : ℕ) → Told s (replicate m 0) []
told_none s m = record { all = λ n t i. absurd i; only = λ n h. absurd (h (zeros m n)) }

-- ---- several
clash_more : (l m : List Named) → Clash l → Clash (l ++ m)
clash_more l m c = record {
  number = c.number;
  one = c.one;
  other = c.other;
  first = in_left (named c.number c.one) l m c.first;
  second = in_left (named c.number c.other) l m c.second;
  differ = c.differ;
}

pub noted_nil : (s table : List ℕ) → Noted s table table [] true
noted_nil s table = record { size = refl; by = λ done h. subst (λ (l : List Named). Told s table l) (sym (append-nil done)) h }

pub noted_then : (s t₀ t₁ t₂ : List ℕ) (xs ys : List Named) (r : Bool) → Noted s t₀ t₁ xs true → Noted s t₁ t₂ ys r → Noted s t₀ t₂ (xs ++ ys) r
noted_then s t₀ t₁ t₂ xs ys true a b = record {
  size = b.size ∙ a.size;
  by = λ done h. subst (λ (l : List Named). Told s t₂ l)
      (append_assoc done xs ys) (b.by (done ++ xs) (a.by done h));
}
noted_then s t₀ t₁ t₂ xs ys false a b = record {
  size = b.size ∙ a.size;
  by = λ done h. subst Clash (append_assoc done xs ys)
      (b.by (done ++ xs) (a.by done h));
}

pub noted_early : (s t₀ t₁ : List ℕ) (xs ys : List Named) → Noted s t₀ t₁ xs false → Noted s t₀ t₁ (xs ++ ys) false
noted_early s t₀ t₁ xs ys a = record {
  size = a.size;
  by = λ done h. subst Clash (append_assoc done xs ys)
      (clash_more (done ++ xs) ys (a.by done h));
}

pub noted_true : (s t₀ t₁ : List ℕ) (xs : List Named) (r : Bool) → Noted s t₀ t₁ xs r → r ≡ true → Noted s t₀ t₁ xs true
noted_true s t₀ t₁ xs r a e = subst (λ (o : Bool). Noted s t₀ t₁ xs o) e a

-- a claim with no entry, among more claims
pub unlisted_then : (t₀ t₁ : List ℕ) (xs ys : List Named) → length t₁ ≡ length t₀ → Unlisted t₁ ys → Unlisted t₀ (xs ++ ys)
unlisted_then t₀ t₁ xs ys l u = record {
  number = u.number;
  type = u.type;
  claimed = in_right (named u.number u.type) xs ys u.claimed;
  beyond = omega (arith, u.beyond);
  low = u.low;
}

pub unlisted_early : (t : List ℕ) (xs ys : List Named) → Unlisted t xs → Unlisted t (xs ++ ys)
unlisted_early t xs ys u = record {
  number = u.number;
  type = u.type;
  claimed = in_left (named u.number u.type) xs ys u.claimed;
  beyond = u.beyond;
  low = u.low;
}

pub unlisted_one : (t₀ t₁ : List ℕ) (n : ℕ) (u : Ty) → length t₁ ≡ length t₀ → length t₁ ≤ n → n < 65536 → Unlisted t₀ (named n u ∷ [])
unlisted_one t₀ t₁ n u e l w = record { number = n; type = u; claimed = inl refl; beyond = omega arith; low = w }

-- a table that holds some claims goes on to do so
pub held_then : (s t₀ t₁ : List ℕ) (xs : List Named) → Held s t₀ → Noted s t₀ t₁ xs true → Held s t₁
held_then s t₀ t₁ xs h a = record { fits = h.fits; done = h.done ++ xs; told = a.by h.done h.told }
