use Rattle.std.proofs.Common.{rules, ◌≤◌, ◌+◌, length}
use Rattle.nav.proofs.EarlyTurns.{two_operands, early_none, early_room, early_bytes}
use Rattle.nav.proofs.differ_early.Goals as goal

pub returns-then-not-contains : goal.returns-then-not-contains
returns-then-not-contains c = early_none _ _ _ c.args.tag

pub slice_bounds-ne-end : goal.slice_bounds-ne-end
slice_bounds-ne-end c =
    let w = two_operands c.args.tag _ _ c.new.ensures.start c.new.ensures.end c.if-not-contains.ensures.cases in
    let z : c.args.x + 6 ≤ length c.args.s.now = (early_room _ _ _ _ w c.requires).0 in
    search rules

pub slice_bounds-ne-end-2 : goal.slice_bounds-ne-end-2
slice_bounds-ne-end-2 c =
    let w = two_operands c.args.tag _ _ c.new.ensures.start c.new.ensures.end c.if-not-contains.ensures.cases in
    let z : c.args.y + 6 ≤ length c.args.s.now = (early_room _ _ _ _ w c.requires).1 in
    search rules

pub returns : goal.returns
returns c =
    let w = two_operands c.args.tag _ _ c.new.ensures.start c.new.ensures.end c.if-not-contains.ensures.cases in
    early_bytes _ _ _ _ w c.requires _ c.ne.ensures
