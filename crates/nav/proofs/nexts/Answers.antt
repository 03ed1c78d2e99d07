use native.Mathlib.Omega.{arith}
use Rattle.nav.proofs.PlaceTurns.{fill_start, fill_root, fill_hops, fill_turn, fill_done}
use Rattle.nav.proofs.nexts.Goals as goal

pub loop-k-init : goal.loop-k-init
loop-k-init c = fill_start _ _ _ _ c.requires

pub offset_bounds-starts-k : goal.offset_bounds-starts-k
offset_bounds-starts-k c = let z = fill_root _ _ _ _ (omega arith) _ c.loop-k.invariant _ c.requires.framed in omega arith

pub bounds-starts-k : goal.bounds-starts-k
bounds-starts-k c = let z = fill_root _ _ _ _ (omega arith) _ c.loop-k.invariant _ c.requires.framed in omega arith

pub children_at-m-requires : goal.children_at-m-requires
children_at-m-requires c = rw c.from.ensures (fill_root _ _ _ _ (omega arith) _ c.loop-k.invariant _ c.requires.framed).1

pub hop-c-requires : goal.hop-c-requires
hop-c-requires c = (fill_hops _ _ _ _ (omega arith) _ c.loop-k.invariant _ (rw c.from.ensures at
    c.children_at-m.ensures) _ c.requires.framed).0

pub overflow_cast-table : goal.overflow_cast-table
overflow_cast-table c = let z = fill_hops _ _ _ _ (omega arith) _ c.loop-k.invariant _ (rw c.from.ensures at c.children_at-m.ensures) _
    c.requires.framed in omega (arith, c.hop-c.ensures)

pub offset_bounds-table-k : goal.offset_bounds-table-k
offset_bounds-table-k c = let z = fill_root _ _ _ _ (omega arith) _ c.loop-k.invariant _ c.requires.framed in omega arith

pub bounds-table-k : goal.bounds-table-k
bounds-table-k c = let z = fill_root _ _ _ _ (omega arith) _ c.loop-k.invariant _ c.requires.framed in omega arith

pub loop-k-preserved : goal.loop-k-preserved
loop-k-preserved c = fill_turn _ _ _ _ (omega arith) _ c.loop-k.invariant _ (rw c.from.ensures at c.children_at-m.ensures)
    (fill_root _ _ _ _ (omega arith) _ c.loop-k.invariant _ c.requires.framed).0 _ c.hop-c.ensures

pub returns : goal.returns
returns c = fill_done _ _ _ _ _ c.loop-k.invariant (omega arith)
