use mathlib.Core.Path.{sym, ◌∙◌}
use Rattle.functional.proofs.NodeTurns.{binders_none, room_binders, binders_some}
use Rattle.nav.proofs.PlaceTurns.{placed_root}
use native.Mathlib.Omega.{arith}
use Rattle.functional.proofs.binders_at.Goals as goal

pub returns-then-not-is_binder : goal.returns-then-not-is_binder
returns-then-not-is_binder c = binders_none _ _ _ _ c.tag_at.ensures (sym c.is_binder.ensures ∙ c.if-not-is_binder.true)

pub start_at-requires : goal.start_at-requires
start_at-requires c = (placed_root _ _ _ c.requires).0

pub number-requires : goal.number-requires
number-requires c = let z = room_binders _ _ _ _ c.tag_at.ensures (sym c.is_binder.ensures ∙ c.if-not-is_binder.false) _
    c.start_at.ensures.0 c.requires in omega arith

pub returns : goal.returns
returns c = binders_some _ _ _ _ c.tag_at.ensures (sym c.is_binder.ensures ∙ c.if-not-is_binder.false) _
    c.start_at.ensures.0 c.requires _ c.number.ensures
