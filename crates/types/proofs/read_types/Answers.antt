-- `types::read_types` meets its contract.
use Rattle.types.proofs.TypeTurns.{row_stops, row_goes, row_done}
use Rattle.types.proofs.read_types.Goals as goal

pub returns-in_err-p : goal.returns-in_err-p
returns-in_err-p c = row_stops _ _ _ _ _ c.loop.invariant c.loop-test.true _ _ c.from_residual.ensures.1 c.in_err-p.ensures

pub loop-preserved : goal.loop-preserved
loop-preserved c = row_goes _ _ _ _ _ c.loop.invariant c.loop-test.true (λ i. (c.type_inv.s i).fits) _ c.in_ok-p.ensures

pub returns : goal.returns
returns c = row_done _ _ _ _ _ c.loop.invariant c.loop-test.false c.loop.auto.counter-end
