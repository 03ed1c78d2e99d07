-- The leaves of the nodes to come: what the iterator over the table has left, by the place of the next node.
-- Main results: ahead_from and place_from (at the start), some_left, ahead_here and ahead_next (a leaf is taken), place_next.
use mathlib.Core.Path.{◌≡◌, refl, sym, ap, ◌∙◌, subst}
use mathlib.Core.List.{List, [], ◌∷◌, ◌++◌, append_assoc}
use Prim.Native.Nat.{ℕ, ◌+◌, ◌-◌, ◌≤◌, ◌<◌}
use native.Mathlib.Omega.{arith}
use lib.ListN.{length, get_or, take, drop, length-append}
use lib.Seq.{get_or-append_seam}
use Rattle.std.proofs.lemmas.List.{length-drop, take-append-drop, take_all}
use Rattle.std.specs.Option.{IsSome}
use Rattle.std.specs.Slice.Iter.{iter_rest, iter_steps}
use Rattle.std.proofs.Common.{Option, Some, None, Iter, Bor}

-- the leaves that are left are the last of the table
pub record Ahead (leaves left : List ℕ) : Type 0 where
  pub past : List ℕ
  pub is : leaves ≡ past ++ left

abbrev pub place_by : List ℕ → List ℕ → ℕ
place_by leaves left = length leaves - length left

-- at the start they are those from the place of the root's first operand on
module _ (leaves left : List ℕ) (first n : ℕ) (e : left ≡ take n (drop first leaves)) (z : length leaves ≤ first + n) where
  all_left : left ≡ drop first leaves
  all_left = e ∙ take_all n (drop first leaves) (omega (arith, length-drop first leaves))

  pub ahead_from : Ahead leaves left
  ahead_from = record { past = take first leaves; is = sym (take-append-drop first leaves) ∙ ap (λ (l : List ℕ). take first leaves ++ l) (sym all_left) }

  pub place_from : first ≤ length leaves → place_by leaves left ≡ first
  place_from l = omega (arith, ap length all_left, length-drop first leaves)

pub some_left : (s t : Iter ℕ) (r : Option (Bor ℕ)) → iter_steps s r t → 0 < length (iter_rest s) → IsSome r
some_left s t None h l = absurd (omega (arith, h.0))
some_left s t (Some x) h l = refl

module _ (leaves : List ℕ) (s t : Iter ℕ) (a : Ahead leaves (iter_rest s)) where
  abbrev place : ℕ
  place = place_by leaves (iter_rest s)

  past_long : place ≡ length a.past
  past_long = omega (arith, ap length a.is, length-append a.past (iter_rest s))

  module _ {r : Option (Bor ℕ)} {x : Bor ℕ} (h : iter_steps s r t) (er : r ≡ Some x) where
    taken : iter_rest s ≡ x.now ∷ iter_rest t
    taken = subst (λ (o : Option (Bor ℕ)). iter_steps s o t) er h

    table : leaves ≡ a.past ++ (x.now ∷ iter_rest t)
    table = a.is ∙ ap (λ (l : List ℕ). a.past ++ l) taken

    pub ahead_here : x.now ≡ get_or leaves place 0
    ahead_here =
        sym (get_or-append_seam a.past x.now (iter_rest t) 0)
        ∙ sym (ap (λ (l : List ℕ). get_or l (length a.past) 0) table)
        ∙ sym (ap (λ (i : ℕ). get_or leaves i 0) past_long)

    pub ahead_next : Ahead leaves (iter_rest t)
    ahead_next = record { past = a.past ++ (x.now ∷ []); is = table ∙ sym (append_assoc a.past (x.now ∷ []) (iter_rest t)) }

    pub place_next : place_by leaves (iter_rest t) ≡ place + 1
    place_next = omega (arith, ap length taken, ap length table, length-append a.past (x.now ∷ iter_rest t))
