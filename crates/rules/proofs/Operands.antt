-- Lists of operands: what each of them is, and how many they are.
-- Main results: append_nil, append_assoc; each_map (one by one), every_mid (an operand taken out), dropped_every, dropped_count
-- (the operands that ∧ and ∨ keep), minuends_every, subtrahends_every, minuends, subtrahends (the operands of
-- (A ∖ B) ∩ C ∩ (D ∖ E)), all_hold, some_hold (∧ and ∨ over a list).
use mathlib.Core.Path.{◌≡◌, refl, ap}
use Prim.Native.Nat.{ℕ, suc, ◌≤◌}
use native.Mathlib.Omega.{arith}
use Rattle.frame.specs.Types.{Ty, pow}
use Rattle.frame.specs.Trees.{Tree, Forest, nil, cons, count, leaf, two, append, map_f}
use Rattle.frame.specs.Tags.{Sort, expression}
use Rattle.frame.specs.Operators.{#SetMinus}
use Rattle.frame.specs.Places.{Ctx}
use Rattle.rules.specs.Equations.{⋀, ⋁, Dropped, done, SIMP_SPECIAL_AND_BTRUE/SIMP_SPECIAL_OR_BFALSE, SIMP_MULTI_AND/SIMP_MULTI_OR, Subtracted, none, minus, other}
use Rattle.rules.proofs.Nodes.{Is, Holds, Every, Each}
use Rattle.rules.proofs.NewNodes.{and_holds, or_holds}
use Rattle.rules.proofs.OldNodes.{Operands, of_minus_at}

-- ---- lists joined
pub append_nil : (xs : Forest) → append xs nil ≡ xs
append_nil nil = refl
append_nil (cons x xs) = ap (cons x) (append_nil xs)

pub append_assoc : (xs ys zs : Forest) → append (append xs ys) zs ≡ append xs (append ys zs)
append_assoc nil ys zs = refl
append_assoc (cons x xs) ys zs = ap (cons x) (append_assoc xs ys zs)

-- ---- how many
pub count_map : (f : Tree → Tree) (ks : Forest) → count (map_f f ks) ≡ count ks
count_map f nil = refl
count_map f (cons k ks) = ap suc (count_map f ks)

-- an operand taken out: one fewer
pub count_without : (left : Forest) (q : Tree) (right : Forest) → count (append left (cons q right)) ≡ suc (count (append left right))
count_without nil q right = refl
count_without (cons k left) q right = ap suc (count_without left q right)

pub dropped_count : {n : ℕ} {ks ls : Forest} → Dropped n ks ls → count ls ≤ count ks
dropped_count (done ks) = omega arith
dropped_count {n} (SIMP_SPECIAL_AND_BTRUE/SIMP_SPECIAL_OR_BFALSE ks ls left right e d) =
    rw e (omega (arith, count_without left (leaf n) right, dropped_count d))
dropped_count (SIMP_MULTI_AND/SIMP_MULTI_OR ks ls left right q e a d) = rw e (omega (arith, count_without left q right, dropped_count d))

pub subtracted_same : {ks ls ms : Forest} → Subtracted ks ls ms → count ls ≡ count ks
subtracted_same none = refl
subtracted_same (minus a b ks ls ms d) = ap suc (subtracted_same d)
subtracted_same (other k ks ls ms o d) = ap suc (subtracted_same d)

pub subtracted_fewer : {ks ls ms : Forest} → Subtracted ks ls ms → count ms ≤ count ks
subtracted_fewer none = omega arith
subtracted_fewer (minus a b ks ls ms d) = omega (arith, subtracted_fewer d)
subtracted_fewer (other k ks ls ms o d) = omega (arith, subtracted_fewer d)

-- ---- what each is
module _ {σ : ℕ → Ty} {Γ : Ctx} where
  pub each_map : {Δ : Ctx} {d e : Sort} {t u : Ty} (f : Tree → Tree) (ks : Forest) → ((k : Tree) → Is σ Γ e k t → Is σ Δ d (f k) u)
      → Each σ Γ e t ks → Each σ Δ d u (map_f f ks)
  each_map f nil g h = tt
  each_map f (cons k ks) g h = (g k h.0, each_map f ks g h.1)

module _ (P : Tree → Type 0) where
  -- of the operand q, and of those beside it
  pub every_mid : (left : Forest) (q : Tree) (right : Forest) → Every P (append left (cons q right)) → P q × Every P (append left right)
  every_mid nil q right h = h
  every_mid (cons k left) q right h = let r = every_mid left q right h.1 in (r.0, (h.0, r.1))

  pub dropped_every : {n : ℕ} {ks ls : Forest} → Dropped n ks ls → Every P ks → Every P ls
  dropped_every (done ks) h = h
  dropped_every {n} (SIMP_SPECIAL_AND_BTRUE/SIMP_SPECIAL_OR_BFALSE ks ls left right p d) h = dropped_every d (every_mid left (leaf n) right (rw p at h)).1
  dropped_every (SIMP_MULTI_AND/SIMP_MULTI_OR ks ls left right q p a d) h = dropped_every d (every_mid left q right (rw p at h)).1

  module _ (parts : (a b : Tree) → P (two #SetMinus a b) → P a × P b) where
    pub minuends_every : {ks ls ms : Forest} → Subtracted ks ls ms → Every P ks → Every P ls
    minuends_every none h = tt
    minuends_every (minus a b ks ls ms d) h = ((parts a b h.0).0, minuends_every d h.1)
    minuends_every (other k ks ls ms o d) h = (h.0, minuends_every d h.1)

    pub subtrahends_every : {ks ls ms : Forest} → Subtracted ks ls ms → Every P ks → Every P ms
    subtrahends_every none h = tt
    subtrahends_every (minus a b ks ls ms d) h = ((parts a b h.0).1, subtrahends_every d h.1)
    subtrahends_every (other k ks ls ms o d) h = subtrahends_every d h.1

module _ (σ : ℕ → Ty) (Γ : Ctx) (u : Ty) where
  pub minuends : {ks ls ms : Forest} → Subtracted ks ls ms → Each σ Γ expression (pow u) ks → Each σ Γ expression (pow u) ls
  minuends d h = minuends_every (λ k. Is σ Γ expression k (pow u)) (λ a b. of_minus_at) d h

  pub subtrahends : {ks ls ms : Forest} → Subtracted ks ls ms → Each σ Γ expression (pow u) ks → Each σ Γ expression (pow u) ms
  subtrahends d h = subtrahends_every (λ k. Is σ Γ expression k (pow u)) (λ a b. of_minus_at) d h

-- ---- ∧ and ∨ of a predicate for each operand
module _ {σ : ℕ → Ty} {Γ Δ : Ctx} {e : Sort} {t : Ty} (f : Tree → Tree) (g : (k : Tree) → Is σ Γ e k t → Holds σ Δ (f k)) where
  pub all_hold : {ks : Forest} → Operands σ Γ e t ks → Holds σ Δ (⋀ (map_f f ks))
  all_hold {ks} o = and_holds (map_f f ks) (rw count_map o.some) (rw count_map o.few) (each_map f ks g o.each)

  pub some_hold : {ks : Forest} → Operands σ Γ e t ks → Holds σ Δ (⋁ (map_f f ks))
  some_hold {ks} o = or_holds (map_f f ks) (rw count_map o.some) (rw count_map o.few) (each_map f ks g o.each)
