use Rattle.functional.proofs.NodeTurns.{own_other, room_own, own_inner, own_outer, own_bit}
use Rattle.nav.proofs.PlaceTurns.{placed_root}
use native.Mathlib.Omega.{arith}
use Rattle.functional.proofs.own_at.Goals as goal

pub returns-then-tag_at-ne-BOUND_IDENT : goal.returns-then-tag_at-ne-BOUND_IDENT
returns-then-tag_at-ne-BOUND_IDENT c = own_other _ _ _ _ _ _ c.tag_at.ensures c.if-tag_at-ne-BOUND_IDENT.true

pub start_at-requires : goal.start_at-requires
start_at-requires c = (placed_root _ _ _ c.requires.0).0

pub number-x-requires : goal.number-x-requires
number-x-requires c = let z = room_own _ _ _ c.args.d c.args.n _ c.tag_at.ensures c.if-tag_at-ne-BOUND_IDENT.false _
    c.start_at.ensures.0 c.requires.0 in omega arith

pub returns-then-x-d : goal.returns-then-x-d
returns-then-x-d c = own_inner _ _ _ _ _ _ c.tag_at.ensures c.if-tag_at-ne-BOUND_IDENT.false _ c.start_at.ensures.0 _
    c.number-x.ensures c.if-x-d.true

pub returns-then-n-x : goal.returns-then-n-x
returns-then-n-x c = own_outer _ _ _ _ _ _ c.tag_at.ensures c.if-tag_at-ne-BOUND_IDENT.false _ c.start_at.ensures.0 _ c.number-x.ensures
    c.if-x-d.false c.if-n-x.true

pub returns : goal.returns
returns c = own_bit _ _ _ _ _ _ c.tag_at.ensures c.if-tag_at-ne-BOUND_IDENT.false _ c.start_at.ensures.0 _ c.number-x.ensures
    c.if-x-d.false c.requires.1 c.if-n-x.false
