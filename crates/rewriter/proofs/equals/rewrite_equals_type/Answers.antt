use mathlib.Core.Path.{refl}
use Rattle.rewriter.proofs.TypeTurns.{type_24, type_two, type_33, type_34, type_35}
use Rattle.decision.proofs.Shapes.{here_few, here_placed}
use native.Mathlib.Omega.{arith}
use Rattle.rewriter.proofs.equals.rewrite_equals_type.Goals as goal

pub tag_at-tag-requires : goal.tag_at-tag-requires
tag_at-tag-requires c = here_placed c.requires

pub overflow_add-a : goal.overflow_add-a
overflow_add-a c = let z = here_few c.requires in omega arith

pub second_of-b-requires : goal.second_of-b-requires
second_of-b-requires c = here_few c.requires

pub returns-in-302 : goal.returns-in-302
returns-in-302 c = type_24 _ _ _ _ _ c.tag_at-tag.ensures c.in-302.is _ c.each.ensures

pub returns-in-213 : goal.returns-in-213
returns-in-213 c = type_two _ _ _ _ _ c.tag_at-tag.ensures 213 25 refl c.in-213.is _
    c.second_of-b.ensures _ c.fixed.ensures

pub returns-in-214 : goal.returns-in-214
returns-in-214 c = type_two _ _ _ _ _ c.tag_at-tag.ensures 214 26 refl c.in-214.is _
    c.second_of-b.ensures _ c.fixed-in-214.ensures

pub returns-in-221 : goal.returns-in-221
returns-in-221 c = type_two _ _ _ _ _ c.tag_at-tag.ensures 221 27 refl c.in-221.is _
    c.second_of-b.ensures _ c.fixed-in-221.ensures

pub returns-in-217 : goal.returns-in-217
returns-in-217 c = type_two _ _ _ _ _ c.tag_at-tag.ensures 217 28 refl c.in-217.is _
    c.second_of-b.ensures _ c.fixed-in-217.ensures

pub returns-in-218 : goal.returns-in-218
returns-in-218 c = type_two _ _ _ _ _ c.tag_at-tag.ensures 218 29 refl c.in-218.is _
    c.second_of-b.ensures _ c.fixed-in-218.ensures

pub returns-in-219 : goal.returns-in-219
returns-in-219 c = type_two _ _ _ _ _ c.tag_at-tag.ensures 219 30 refl c.in-219.is _
    c.second_of-b.ensures _ c.fixed-in-219.ensures

pub returns-in-220 : goal.returns-in-220
returns-in-220 c = type_two _ _ _ _ _ c.tag_at-tag.ensures 220 31 refl c.in-220.is _
    c.second_of-b.ensures _ c.fixed-in-220.ensures

pub returns-in-755 : goal.returns-in-755
returns-in-755 c = type_33 _ _ _ _ _ c.tag_at-tag.ensures c.in-755.is _ c.fixed-in-755.ensures

pub returns-in-763 : goal.returns-in-763
returns-in-763 c = type_34 _ _ _ _ _ c.tag_at-tag.ensures c.in-763.is _ c.fixed-in-763.ensures

pub returns-in-802 : goal.returns-in-802
returns-in-802 c = type_35 _ _ _ _ _ c.tag_at-tag.ensures c.in-802.is _ c.second_of-b.ensures _ c.fixed-in-802.ensures

pub returns-in-215 : goal.returns-in-215
returns-in-215 c = type_two _ _ _ _ _ c.tag_at-tag.ensures c.tag_at-tag.result 32 (grind arith) refl _
    c.second_of-b.ensures _ c.fixed-in-215.ensures
