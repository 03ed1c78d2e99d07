use Rattle.put.proofs.Puts.{puts_copied, puts_short, puts_lost}
use Rattle.put.proofs.Writer.put_copy.Goals.{in_default-via-in-Some+else-s-n, in_default-via-in_default}
use Rattle.put.proofs.Writer.put_copy.Goals as goal

pub returns-in-Some : goal.returns-in-Some
returns-in-Some c = let t = c.self in puts_copied _ _ _ _ t.view_is t.told t.invariant _ _ c.in-Some.is c.if-s-n.true c.copy_in.ensures

pub returns-in_default : goal.returns-in_default
returns-in_default c = let t = c.self in elim c.in_default.branch [
  | in_default-via-in-Some+else-s-n w ↦ puts_short _ _ _ _ t.view_is t.told t.invariant _ w.in-Some.is w.if-s-n.false
  | in_default-via-in_default w ↦ puts_lost _ _ _ _ t.view_is t.told t.invariant w.in_default.is
]
