use Rattle.std.proofs.Common.{◌≡◌, ℕ, List, [], ◌++◌, length}
use Rattle.simplify.specs.Feeding.{Feeds}
use Rattle.simplify.proofs.stream.Stream.feed.Given as goal

-- the text before `rest` is taken, and the answers go into the same bytes
abbrev pub invariant-loop-end : goal.invariant-loop-end
invariant-loop-end l = (t : List ℕ) × (t ++ l.rest ≡ l.piece) × Feeds l.initial.self t l.self × (t ≡ [] → l.self.answers ≡ l.initial.self.answers)
    × (l.self.answers.bytes.ghost_name ≡ l.initial.self.answers.bytes.ghost_name)

abbrev pub decreases-loop-end : goal.decreases-loop-end
decreases-loop-end l = length l.rest
