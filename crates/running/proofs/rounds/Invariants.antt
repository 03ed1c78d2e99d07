use Rattle.running.proofs.Turns.{Going}
use Rattle.running.proofs.rounds.Given as goal

abbrev pub invariant-loop-ending : goal.invariant-loop-ending
invariant-loop-ending l = Going l.initial.progress l.progress

abbrev pub decreases-loop-ending : goal.decreases-loop-ending
decreases-loop-ending l = l.progress.left
