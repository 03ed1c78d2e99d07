use lib.ListN.{drop_of_length-le}
use Rattle.std.proofs.lemmas.List.{drop_more}
use Rattle.junction.proofs.JunctionTurns.{scanned_pre, scanned_none, scanned_next, scanned_end}
use Rattle.junction.proofs.is_new.Goals as goal

pub differs-requires : goal.differs-requires
differs-requires c = scanned_pre c.loop-one.invariant (drop_more _ _ _ c.loop-one-test.true) c.requires

pub returns-in_err-new : goal.returns-in_err-new
returns-in_err-new c =
    let a = c.in_err-new.was in
    let p = rw a at c.differs.ensures in
    rw c.from_residual.ensures (scanned_none c.loop-one.invariant (drop_more _ _ _ c.loop-one-test.true) p)

pub loop-one-preserved : goal.loop-one-preserved
loop-one-preserved c =
    let a = c.in_ok-new.was in
    let p = rw a at c.differs.ensures in
    scanned_next c.loop-one.invariant (drop_more _ _ _ c.loop-one-test.true) p

pub returns : goal.returns
returns c = scanned_end c.loop-one.invariant (drop_of_length-le _ c.loop-one-test.false)
