use Rattle.std.proofs.Common.{ℕ, List, ◌++◌, take}
use Rattle.lines.specs.LineReads.{Reads}
use Rattle.lines.proofs.LineReader.read.Given as goal

abbrev pub invariant-loop-c : goal.invariant-loop-c
invariant-loop-c l = (cs : List ℕ) → Reads l.initial.self cs → Reads l.self (cs ++ take l.c-index l.piece)
