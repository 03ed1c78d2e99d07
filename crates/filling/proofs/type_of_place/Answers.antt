use mathlib.Core.Path.{refl}
use native.Mathlib.Omega.{arith}
use Rattle.filling.proofs.Types.{work_all, work_own}
use Rattle.filling.proofs.type_of_place.Goals as goal

pub arity_at-requires : goal.arity_at-requires
arity_at-requires c = let p = c.requires in record { t = p.t; n = _; framed = p.held.framed; below = p.below }

pub type_with-requires : goal.type_with-requires
type_with-requires c = (c.requires, work_own _ _ _ refl _ c.arity_at.ensures c.if-arity_at-eq0.true)

pub type_with-requires-then-places-le62 : goal.type_with-requires-then-places-le62
type_with-requires-then-places-le62 c = (c.requires, work_all _ _ _ (omega arith))

pub type_with-requires-then-places-le254 : goal.type_with-requires-then-places-le254
type_with-requires-then-places-le254 c = (c.requires, work_all _ _ _ (omega arith))

pub type_with-requires-then-places-le1022 : goal.type_with-requires-then-places-le1022
type_with-requires-then-places-le1022 c = (c.requires, work_all _ _ _ (omega arith))

pub type_with-requires-2 : goal.type_with-requires-2
type_with-requires-2 c = (c.requires, work_all _ _ _ (let f = c.requires.held.framed.short in omega arith))
