use Rattle.std.proofs.Common.{rules}
use Rattle.filling.proofs.Fills.{fill_few, fill_types, fill_places, fill_ready, fill_done}
use Rattle.filling.proofs.fill.Goals.{then-asks_types, else-asks_types}
use Rattle.filling.proofs.fill.Goals as goal

pub asks_types-requires : goal.asks_types-requires
asks_types-requires c = fill_few _ _ _ _ _ c.requires

pub type_of_place-requires : goal.type_of_place-requires
type_of_place-requires c = let z = fill_types _ _ _ _ _ c.requires in search rules

pub type_of_place-requires-then-asks_types : goal.type_of_place-requires-then-asks_types
type_of_place-requires-then-asks_types c = let z = fill_types _ _ _ _ _ c.requires in search rules

pub subtree_at-requires : goal.subtree_at-requires
subtree_at-requires c = (fill_places _ _ _ _ _ c.requires).0

pub subtree_at-requires-2 : goal.subtree_at-requires-2
subtree_at-requires-2 c = (fill_places _ _ _ _ _ c.requires).1

pub behind_tag-requires : goal.behind_tag-requires
behind_tag-requires c = (fill_places _ _ _ _ _ c.requires).2

pub fill_template-requires : goal.fill_template-requires
fill_template-requires c = fill_ready c.args.places.now _ c.args.first c.args.second c.args.binder _ c.asks_types.ensures _ c.subtree_at.ensures c.subtree_at-2.ensures
    (λ e. rw (c.deref.ensures.0, c.deref-2.ensures.0) (elim c.if-asks_types.branch [
      | then-asks_types w ↦ rw w.first_type-is (w.type_of_place.ensures, w.type_of_place-then-asks_types.ensures)
      | else-asks_types w ↦ cc (e, w.if-asks_types.false)
    ])) c.behind_tag.ensures c.requires

pub returns : goal.returns
returns c = fill_done c.args.places.now _ c.args.first c.args.second c.args.binder _ c.asks_types.ensures _ c.subtree_at.ensures c.subtree_at-2.ensures
    (λ e. rw (c.deref.ensures.0, c.deref-2.ensures.0) (elim c.if-asks_types.branch [
      | then-asks_types w ↦ rw w.first_type-is (w.type_of_place.ensures, w.type_of_place-then-asks_types.ensures)
      | else-asks_types w ↦ cc (e, w.if-asks_types.false)
    ])) c.behind_tag.ensures _ _ c.fill_template.ensures
