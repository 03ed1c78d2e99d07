use Rattle.build.proofs.SubtreeTurns.{kept_placed, kept_tag, kept_list, kept_built}
use Rattle.build.proofs.build_kept.Goals as goal

pub tag_at-tag-requires : goal.tag_at-tag-requires
tag_at-tag-requires c = kept_placed _ _ _ c.requires

pub put_kept-requires : goal.put_kept-requires
put_kept-requires c = kept_list _ _ _ c.requires

pub put_many-requires : goal.put_many-requires
put_many-requires c = kept_tag _ _ c.args.places.now c.requires _ c.tag_at-tag.ensures _ c.len.ensures.value

pub returns : goal.returns
returns c = kept_built _ _ c.args.places.now _ c.tag_at-tag.ensures _ c.len.ensures.value _ _ c.put_many.ensures _ c.put_kept.ensures
