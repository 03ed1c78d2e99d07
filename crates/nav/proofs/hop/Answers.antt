use mathlib.Core.Path.{◌≡◌, refl, sym, ◌∙◌}
use Prim.Native.Nat.{◌-◌, ◌+◌}
use native.Mathlib.Omega.{arith}
use Rattle.nav.proofs.PlaceTurns.{hop_here, hop_more, hop_none}
use Rattle.nav.proofs.hop.Goals as goal

pub loop-init : goal.loop-init
loop-init c = let z : c.args.m - 0 ≡ c.args.m = omega arith in rw z (c.requires, refl)

pub offset_bounds-nexts-d : goal.offset_bounds-nexts-d
offset_bounds-nexts-d c = let z = hop_here _ _ _ c.loop.invariant.0 (omega arith) in omega arith

pub bounds-nexts-d : goal.bounds-nexts-d
bounds-nexts-d c = hop_here _ _ _ c.loop.invariant.0 (omega arith)

pub loop-preserved : goal.loop-preserved
loop-preserved c = let y : c.args.m - (c.loop.counter + 1) ≡ c.args.m - c.loop.counter - 1 = omega arith in
    let r = hop_more _ _ _ c.loop.invariant.0 (omega arith) in rw (c.from-d.ensures, y) (r.0, r.1 ∙ c.loop.invariant.1)

pub returns : goal.returns
returns c = sym (hop_none _ _ _ (omega arith)) ∙ c.loop.invariant.1
