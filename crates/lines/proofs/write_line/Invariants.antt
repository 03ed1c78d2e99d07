use Rattle.std.proofs.Common.{◌≡◌, ◌≤◌, ◌/◌, length, take}
use lib.Seq.{sets}
use Rattle.frame.specs.Lines.{write_line}
use Rattle.lines.proofs.write_line.Given as goal

abbrev pub invariant-loop-i : goal.invariant-loop-i
invariant-loop-i l = (length l.frame ≤ length l.initial.out / 2) × (l.out ≡ sets l.initial.out 0 (write_line (take l.i l.frame)))
