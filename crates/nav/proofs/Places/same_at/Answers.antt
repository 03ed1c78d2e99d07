use Rattle.nav.proofs.SamePlaces.{tags_differ, early_differ, both_there, same_done}
use Rattle.nav.proofs.PlaceTurns.{placed_root}
use Rattle.sameness.proofs.View.{stand_inside}
use Rattle.nav.specs.PlaceTables.{Rooted}
use native.Mathlib.Omega.{arith}
use mathlib.Core.Path.{sym, ◌∙◌, subst}
use Rattle.nav.proofs.Places.same_at.Goals as goal

pub start_at-x-requires : goal.start_at-x-requires
start_at-x-requires c = (placed_root _ _ _ c.requires.left).0

pub start_at-y-requires : goal.start_at-y-requires
start_at-y-requires c = (placed_root _ _ _ c.requires.right).0

pub number-tag-requires : goal.number-tag-requires
number-tag-requires c = let z = stand_inside (placed_root _ _ _ c.requires.left).1.there in omega arith

pub number-requires : goal.number-requires
number-requires c = let z = stand_inside (placed_root _ _ _ c.requires.right).1.there in omega arith

pub returns-then-tag-number : goal.returns-then-tag-number
returns-then-tag-number c = tags_differ _ _ _ _ _ _ c.start_at-x.ensures.0 c.start_at-y.ensures.0
    (λ q. c.if-tag-number.true (c.number-tag.ensures ∙ (q ∙ sym c.number.ensures)))

pub differ_early-requires : goal.differ_early-requires
differ_early-requires c = record {
  left = subst (Rooted _) (sym c.start_at-x.ensures.0)
      (placed_root _ _ _ c.requires.left).1;
  right = subst (Rooted _) (sym c.start_at-y.ensures.0)
      (placed_root _ _ _ c.requires.right).1;
  of_left = c.number-tag.ensures;
  of_right = c.if-tag-number.false ∙ c.number.ensures;
}

pub returns-then-differ_early : goal.returns-then-differ_early
returns-then-differ_early c = early_differ _ _ _ _ _ _ c.start_at-x.ensures.0 c.start_at-y.ensures.0 _ c.differ_early.ensures c.if-differ_early.true

pub same_tree-requires : goal.same_tree-requires
same_tree-requires c = both_there _ _ _ _ _ _ c.start_at-x.ensures.0 c.start_at-y.ensures.0 _ c.number-tag.ensures
    (c.if-tag-number.false ∙ c.number.ensures) c.requires

pub returns : goal.returns
returns c = rw c.is_some.ensures (same_done _ _ _ _ _ _ c.start_at-x.ensures.0 c.start_at-y.ensures.0 _ c.number-tag.ensures
    (c.if-tag-number.false ∙ c.number.ensures) _ c.same_tree.ensures)
