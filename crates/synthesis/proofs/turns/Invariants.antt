use Rattle.std.proofs.Common.{◌≡◌, ◌≤◌, length, take}
use Rattle.synthesis.specs.Turns.{state, started}
use Rattle.synthesis.specs.TypingPosts.{steps_left}
use Rattle.synthesis.proofs.StepTurns.{Going}
use Rattle.synthesis.proofs.LeavesLeft.{Ahead, place_by}
use Rattle.synthesis.proofs.turns.Given as goal

-- the leaves from the place of the next node on are to come; and whatever the tables and the open nodes were at the root, there are some now
-- that come to the same answer
abbrev pub invariant-loop-node : goal.invariant-loop-node
invariant-loop-node l = record {
  ahead : Ahead l.leaves l.leaves_left.rest.now;
  lent : length l.stack ≡ 2048;
  deep : l.top ≤ 2048;
  going : Going l.fn.root.node l.s l.leaves l.initial.types (started l.fn.root l.fn.first) (take l.top l.stack) l.types l.node
      (state l.at (place_by l.leaves l.leaves_left.rest.now) l.end (length (take l.top l.stack)));
}

abbrev pub decreases-loop-node : goal.decreases-loop-node
decreases-loop-node l = steps_left l.s (state l.at (place_by l.leaves l.leaves_left.rest.now) l.end l.top)
