use Rattle.std.proofs.Common.{◌≡◌}
use Rattle.frame.specs.Reading.{number_at}
use Rattle.heads.proofs.number.Given as goal

abbrev pub invariant-loop-b : goal.invariant-loop-b
invariant-loop-b l = l.x ≡ number_at l.b-index l.s l.at
