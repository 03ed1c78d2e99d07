use Rattle.running.proofs.Turns.{going_starts, going_first, going_ends, going_less, going_on}
use Rattle.running.proofs.rounds.Goals as goal

pub loop-ending-init : goal.loop-ending-init
loop-ending-init c = going_starts _

pub first_step-next-requires : goal.first_step-next-requires
first_step-next-requires c = rw c.frame.ensures (going_first _ c.requires _ c.loop-ending.invariant)

pub returns-in-Some : goal.returns-in-Some
returns-in-Some c =
    going_ends _ c.requires _ c.loop-ending.invariant _ (rw c.frame.ensures at c.first_step-next.ensures) _ _ c.turn.ensures _ c.in-Some.is

pub loop-ending-smaller : goal.loop-ending-smaller
loop-ending-smaller c =
    going_less _ c.requires _ c.loop-ending.invariant _ (rw c.frame.ensures at c.first_step-next.ensures) _ _ c.turn.ensures c.in_default.is

pub loop-ending-preserved : goal.loop-ending-preserved
loop-ending-preserved c =
    going_on _ c.requires _ c.loop-ending.invariant _ (rw c.frame.ensures at c.first_step-next.ensures) _ _ c.turn.ensures c.in_default.is
