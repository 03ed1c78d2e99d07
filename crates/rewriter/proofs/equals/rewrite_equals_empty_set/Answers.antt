use Rattle.std.proofs.Common.{rules}
use mathlib.Core.Path.{refl}
use native.Mathlib.Omega.{arith}
use Rattle.decision.proofs.Shapes.{here_few, here_placed}
use Rattle.rewriter.proofs.EmptyTurns.{inter_here, empty_inter, empty_two, empty_56, empty_57, empty_59}
use Rattle.rewriter.proofs.equals.rewrite_equals_empty_set.Goals as goal

pub tag_at-tag-requires : goal.tag_at-tag-requires
tag_at-tag-requires c = here_placed c.requires

pub overflow_add-a : goal.overflow_add-a
overflow_add-a c = let z = here_few c.requires in omega arith

pub second_of-b-requires : goal.second_of-b-requires
second_of-b-requires c = here_few c.requires

pub arity_at-m-requires : goal.arity_at-m-requires
arity_at-m-requires c = here_placed c.requires

pub decide_inter-requires : goal.decide_inter-requires
decide_inter-requires c = inter_here _ _ _ _ _ c.tag_at-tag.ensures c.in-302.is c.requires

pub empty_by_tag-requires : goal.empty_by_tag-requires
empty_by_tag-requires c = (here_few c.requires, (search rules))

pub returns-in-302 : goal.returns-in-302
returns-in-302 c = empty_inter _ _ _ _ _ c.tag_at-tag.ensures c.in-302.is _ c.decide_inter.ensures

pub returns-in-213 : goal.returns-in-213
returns-in-213 c = empty_two _ _ _ _ _ c.tag_at-tag.ensures 213 40 refl c.in-213.is _ c.second_of-b.ensures _ c.fixed.ensures

pub returns-in-214 : goal.returns-in-214
returns-in-214 c = empty_two _ _ _ _ _ c.tag_at-tag.ensures 214 41 refl c.in-214.is _ c.second_of-b.ensures _ c.fixed-in-214.ensures

pub returns-in-221 : goal.returns-in-221
returns-in-221 c = empty_two _ _ _ _ _ c.tag_at-tag.ensures 221 42 refl c.in-221.is _ c.second_of-b.ensures _ c.fixed-in-221.ensures

pub returns-in-204 : goal.returns-in-204
returns-in-204 c = empty_two _ _ _ _ _ c.tag_at-tag.ensures 204 43 refl c.in-204.is _ c.second_of-b.ensures _ c.fixed-in-204.ensures

pub returns-in-205 : goal.returns-in-205
returns-in-205 c = empty_two _ _ _ _ _ c.tag_at-tag.ensures 205 44 refl c.in-205.is _ c.second_of-b.ensures _ c.fixed-in-205.ensures

pub returns-in-217 : goal.returns-in-217
returns-in-217 c = empty_two _ _ _ _ _ c.tag_at-tag.ensures 217 45 refl c.in-217.is _ c.second_of-b.ensures _ c.fixed-in-217.ensures

pub returns-in-218 : goal.returns-in-218
returns-in-218 c = empty_two _ _ _ _ _ c.tag_at-tag.ensures 218 46 refl c.in-218.is _ c.second_of-b.ensures _ c.fixed-in-218.ensures

pub returns-in-219 : goal.returns-in-219
returns-in-219 c = empty_two _ _ _ _ _ c.tag_at-tag.ensures 219 47 refl c.in-219.is _ c.second_of-b.ensures _ c.fixed-in-219.ensures

pub returns-in-220 : goal.returns-in-220
returns-in-220 c = empty_two _ _ _ _ _ c.tag_at-tag.ensures 220 48 refl c.in-220.is _ c.second_of-b.ensures _ c.fixed-in-220.ensures

pub returns-in-227 : goal.returns-in-227
returns-in-227 c = empty_two _ _ _ _ _ c.tag_at-tag.ensures 227 49 refl c.in-227.is _ c.second_of-b.ensures _ c.fixed-in-227.ensures

pub returns-in-215 : goal.returns-in-215
returns-in-215 c = empty_two _ _ _ _ _ c.tag_at-tag.ensures 215 50 refl c.in-215.is _ c.second_of-b.ensures _ c.fixed-in-215.ensures

pub returns-in-216 : goal.returns-in-216
returns-in-216 c = empty_two _ _ _ _ _ c.tag_at-tag.ensures 216 51 refl c.in-216.is _ c.second_of-b.ensures _ c.fixed-in-216.ensures

pub returns-in-304 : goal.returns-in-304
returns-in-304 c = empty_56 _ _ _ _ _ c.tag_at-tag.ensures c.in-304.is _ c.second_of-b.ensures _
    c.arity_at-m.ensures _ c.fixed_if_two.ensures

pub returns-in-303 : goal.returns-in-303
returns-in-303 c = empty_57 _ _ _ _ _ c.tag_at-tag.ensures c.in-303.is _ c.second_of-b.ensures _
    c.arity_at-m.ensures _ c.fixed_if_two-in-303.ensures

pub returns-in-801 : goal.returns-in-801
returns-in-801 c = empty_59 _ _ _ _ _ c.tag_at-tag.ensures c.in-801.is _ c.second_of-b.ensures _ c.fixed-in-801.ensures

pub returns-in_default : goal.returns-in_default
returns-in_default c = c.empty_by_tag.ensures.decides _ _ _ c.tag_at-tag.ensures
