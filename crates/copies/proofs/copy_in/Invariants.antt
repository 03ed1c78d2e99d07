use Rattle.std.proofs.Common.{◌≡◌}
use lib.Seq.{paste}
use Rattle.copies.proofs.copy_in.Given as goal

abbrev pub invariant-loop-i : goal.invariant-loop-i
invariant-loop-i l = l.buf ≡ paste l.initial.buf l.to l.s l.i
