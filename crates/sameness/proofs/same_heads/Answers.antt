-- `sameness::same_heads` meets its contract.
use native.Mathlib.Omega.{arith}
use mathlib.Core.Path.{refl}
use Rattle.sameness.proofs.SameTurns.{left_stands, tags_first, tags_second, both_inside, heads_room, heads_short, heads_bytes, heads_agree, bytes_same, bytes_other}
use Rattle.sameness.proofs.same_heads.Goals as goal

pub bounds-s-a : goal.bounds-s-a
bounds-s-a c = let z = both_inside _ _ _ _ c.requires.1 in omega arith

pub bounds-s-b : goal.bounds-s-b
bounds-s-b c = let z = both_inside _ _ _ _ c.requires.1 in omega arith

pub returns-then-s-a : goal.returns-then-s-a
returns-then-s-a c = λ e. tags_first _ e _ _ c.if-s-a.true

pub bounds-s-a-2 : goal.bounds-s-a-2
bounds-s-a-2 c = let z = both_inside _ _ _ _ c.requires.1 in omega arith

pub bounds-s-b-2 : goal.bounds-s-b-2
bounds-s-b-2 c = let z = both_inside _ _ _ _ c.requires.1 in omega arith

pub returns-then-s-a-2 : goal.returns-then-s-a-2
returns-then-s-a-2 c = λ e. tags_second _ e _ _ c.if-s-a-2.true

pub known_head-h-requires : goal.known_head-h-requires
known_head-h-requires c = left_stands _ _ _ c.requires

pub overflow_sub-n : goal.overflow_sub-n
overflow_sub-n c = let z = heads_room _ _ _ _ _ c.known_head-h.ensures c.requires.1 in
    omega arith

pub returns-then-s-b : goal.returns-then-s-b
returns-then-s-b c = λ e. heads_short _ e _ _ _ c.known_head-h.ensures c.if-s-b.true

pub slice_bounds-ne-count : goal.slice_bounds-ne-count
slice_bounds-ne-count c = let z = heads_room _ _ _ _ _ c.known_head-h.ensures c.requires.1 in omega arith

pub slice_bounds-ne-start : goal.slice_bounds-ne-start
slice_bounds-ne-start c = let z = heads_room _ _ _ _ _ c.known_head-h.ensures c.requires.1 in omega arith

pub returns-then-ne : goal.returns-then-ne
returns-then-ne c = λ e. heads_bytes _ e _ _ _ c.known_head-h.ensures (bytes_other _ e _ _ _ c.known_head-h.ensures _ c.ne.ensures c.if-ne.true)

pub returns : goal.returns
returns c = λ e. heads_agree _ e _ _ _ c.known_head-h.ensures (bytes_same _ e _ _ _ c.known_head-h.ensures _ c.ne.ensures c.if-ne.false) c.if-s-b.false
    _ refl refl refl c.first.ensures c.later.ensures

pub slice_bounds-ne-end : goal.slice_bounds-ne-end
slice_bounds-ne-end c = let z = heads_room _ _ _ _ _ c.known_head-h.ensures c.requires.1 in omega arith
