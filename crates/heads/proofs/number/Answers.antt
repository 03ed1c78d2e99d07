-- `heads::number` meets its contract.
use Rattle.std.proofs.Common.{◌≡◌, ℕ, ◌+◌, ◌-◌, ◌≤◌, ◌<◌, List, length, get_or, take, drop, refl, ap, ◌∙◌, arith}
use Rattle.std.proofs.lemmas.List.{get_or-take, get_or-drop, length-take, length-drop}
use Rattle.frame.specs.Reading.{number_at}
use Rattle.frame.proofs.Numbers.{number_more, number_room}
use Rattle.heads.proofs.number.Goals as goal

-- the bytes that are gone over
module _ (s : List ℕ) (at w : ℕ) (h : at + w ≤ length s) where
  many : length (take (at + w - at) (drop at s)) ≡ w
  many = simp (length-take, length-drop) (omega arith)

  byte : (i : ℕ) → i < length (take (at + w - at) (drop at s)) → get_or (take (at + w - at) (drop at s)) i 0 ≡ get_or s (at + i) 0
  byte i l = get_or-take (at + w - at) (drop at s) i 0 (omega (arith, many)) ∙ get_or-drop at s i 0

pub loop-b-init : goal.loop-b-init
unfolding number_at
loop-b-init c = refl

pub overflow_mul-x : goal.overflow_mul-x
overflow_mul-x c =
    let z = many _ _ _ c.requires.0 in
    let r = number_room c.loop-b.b-index c.args.s.now (λ i. (c.type_inv.s i).fits) c.args.at (omega (arith, c.loop-b-test.true)) in
    omega (arith, c.loop-b.invariant)

pub overflow_add-x : goal.overflow_add-x
overflow_add-x c =
    let z = many _ _ _ c.requires.0 in
    let r = number_room c.loop-b.b-index c.args.s.now (λ i. (c.type_inv.s i).fits) c.args.at (omega (arith, c.loop-b-test.true)) in
    let y = byte _ _ _ c.requires.0 _ c.loop-b-test.true in
    omega (arith, c.loop-b.invariant, c.from.ensures, (c.type_inv.s (c.args.at + c.loop-b.b-index)).fits)

pub loop-b-preserved : goal.loop-b-preserved
loop-b-preserved c =
    let z = byte _ _ _ c.requires.0 _ c.loop-b-test.true in
    omega (arith, c.loop-b.invariant, c.from.ensures, number_more c.loop-b.b-index c.args.s.now c.args.at)

pub returns : goal.returns
returns c =
    let z = many _ _ _ c.requires.0 in
    let e : c.loop-b.b-index ≡ c.args.w = omega (arith, c.loop-b.auto.b-index-end, c.loop-b-test.false) in
    c.loop-b.invariant ∙ ap (λ k. number_at k c.args.s.now c.args.at) e
