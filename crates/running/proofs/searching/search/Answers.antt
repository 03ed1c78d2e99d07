use Rattle.running.proofs.SearchTurns.{search_starts, search_at, search_found, search_next, search_rests}
use Rattle.running.proofs.searching.search.Goals as goal

pub loop-k-init : goal.loop-k-init
loop-k-init c = search_starts _

pub decide_at-requires : goal.decide_at-requires
decide_at-requires c = search_at _ c.requires _ c.loop-k-test.true

pub returns-in-Some : goal.returns-in-Some
returns-in-Some c = search_found _ c.requires _ c.loop-k-test.true c.loop-k.invariant _ _ c.decide_at.ensures _ c.in-Some.is

pub loop-k-preserved : goal.loop-k-preserved
loop-k-preserved c = search_next _ c.requires _ c.loop-k-test.true c.loop-k.invariant _ _ c.decide_at.ensures c.in_default.is

pub returns : goal.returns
returns c = search_rests _ _ _ c.loop-k.invariant c.loop-k-test.false
