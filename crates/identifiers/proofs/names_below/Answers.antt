use Rattle.std.proofs.Common.{ℕ, arith}
use lib.ListN.{length-replicate}
use Rattle.identifiers.proofs.names_below.Goals as goal

pub returns-in-Err-Clashed : goal.returns-in-Err-Clashed
returns-in-Err-Clashed g c = rw c.in-Err-Clashed.field-0-is at c.in-Err-Clashed.ensures

pub returns-in-Err-Beyond : goal.returns-in-Err-Beyond
returns-in-Err-Beyond g c = λ t a.
    (let d = (rw c.in-Err-Beyond.field-0-is at c.in-Err-Beyond.ensures) in let l = d t a in omega (arith, length-replicate {A = ℕ} g.row.N 0))
