-- The open nodes below the one at hand, the lowest first: the first records of the slice that is lent for them.
-- Main results: below_long (how many they are), below_none, pushed (one more is put on them), popped (the last is taken from them).
use mathlib.Core.Path.{◌≡◌, ap, ◌∙◌}
use mathlib.Core.List.{List, [], ◌∷◌, ◌++◌}
use Prim.Native.Nat.{ℕ, ◌+◌, ◌-◌, ◌≤◌, ◌<◌}
use native.Mathlib.Omega.{arith}
use lib.ListN.{length, get_or, set, take}
use Rattle.std.proofs.lemmas.List.{length-take-le, take_more, take_more_set}
use Rattle.synthesis.specs.OpenNodes.{no_node}
use Rattle.synthesis.specs.declared.stack.OpenNode.{OpenNode}

module _ (stack : List OpenNode) (top : ℕ) where
  pub below_long : top ≤ length stack → length (take top stack) ≡ top
  below_long le = length-take-le top stack le

  pub below_none : top ≡ 0 → take top stack ≡ []
  below_none z = ap (λ (i : ℕ). take i stack) z

  pub pushed : (stack₁ : List OpenNode) (x : OpenNode) → top < length stack → stack₁ ≡ set stack top x
      → take (top + 1) stack₁ ≡ take top stack ++ (x ∷ [])
  pushed stack₁ x l e = ap (λ (xs : List OpenNode). take (top + 1) xs) e ∙ take_more_set stack top x l

  pub popped : (top ≡ 0 → ⊥) → top ≤ length stack → take top stack ≡ take (top - 1) stack ++ (get_or stack (top - 1) no_node ∷ [])
  popped n le =
      let e : top ≡ top - 1 + 1 = omega (arith, n) in
      ap (λ (i : ℕ). take i stack) e ∙ take_more stack (top - 1) no_node (omega (arith, n, le))
