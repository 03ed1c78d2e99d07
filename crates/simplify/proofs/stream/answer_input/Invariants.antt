use Rattle.std.proofs.Common.{ℕ, List, [], length}
use Rattle.simplify.proofs.Input.{Answered}
use Rattle.simplify.proofs.stream.answer_input.Given as goal

-- all that was read is answered
abbrev pub invariant-loop : goal.invariant-loop
invariant-loop g l = (t : List ℕ) × Answered (g.R.Read.remaining l.initial.input) (g.R.Read.remaining l.input) (g.W.Write.contents l.initial.output)
    (g.W.Write.contents l.output) l.stream t []

-- all that was read is answered, but for the rest of the piece
abbrev pub invariant-loop-rest : goal.invariant-loop-rest
invariant-loop-rest g l = (t : List ℕ) × Answered (g.R.Read.remaining l.fn.input) (g.R.Read.remaining l.input) (g.W.Write.contents l.fn.output)
    (g.W.Write.contents l.output) l.stream t l.rest

abbrev pub decreases-loop-rest : goal.decreases-loop-rest
decreases-loop-rest g l = length l.rest
