use mathlib.Core.Path.{refl}
use native.Mathlib.Omega.{arith}
use Rattle.decision.proofs.Shapes.{here_few, here_placed}
use Rattle.predicates.proofs.FiniteTurns.{finite_node, finite_6, finite_child, finite_8, set_here, finite_set, restricted_here, finite_restricted_lem}
use Rattle.predicates.proofs.finite.rewrite_finite.Goals as goal

pub tag_at-tag-requires : goal.tag_at-tag-requires
tag_at-tag-requires c = here_placed c.requires

pub overflow_add-a : goal.overflow_add-a
overflow_add-a c = let z = here_few c.requires in omega arith

pub second_of-b-requires : goal.second_of-b-requires
second_of-b-requires c = here_few c.requires

pub finite_set_at-requires : goal.finite_set_at-requires
finite_set_at-requires c = set_here _ _ _ _ _ c.tag_at-tag.ensures c.in-803.is c.requires

pub finite_restricted_at-requires : goal.finite_restricted_at-requires
finite_restricted_at-requires c = restricted_here _ _ _ _ _ c.tag_at-tag.ensures c.in-217.is _ c.second_of-b.ensures c.requires

pub returns-in-407 : goal.returns-in-407
returns-in-407 c = finite_node _ _ _ _ _ c.tag_at-tag.ensures 407 1 refl c.in-407.is _ c.fixed.ensures

pub returns-in-404 : goal.returns-in-404
returns-in-404 c = finite_node _ _ _ _ _ c.tag_at-tag.ensures 404 3 refl c.in-404.is _ c.fixed-in-404.ensures

pub returns-in-412 : goal.returns-in-412
returns-in-412 c = finite_node _ _ _ _ _ c.tag_at-tag.ensures 412 4 refl c.in-412.is _ c.fixed-in-412.ensures

pub returns-in-5 : goal.returns-in-5
returns-in-5 c = finite_node _ _ _ _ _ c.tag_at-tag.ensures 5 5 refl c.in-5.is _ c.fixed-in-5.ensures

pub returns-in-301 : goal.returns-in-301
returns-in-301 c = finite_6 _ _ _ _ _ c.tag_at-tag.ensures c.in-301.is _ c.each.ensures

pub returns-in-752 : goal.returns-in-752
returns-in-752 c = finite_child _ _ _ _ _ c.tag_at-tag.ensures 752 7 refl c.in-752.is _ c.fixed-in-752.ensures

pub returns-in-214 : goal.returns-in-214
returns-in-214 c = finite_8 _ _ _ _ _ c.tag_at-tag.ensures c.in-214.is _ c.second_of-b.ensures _ c.fixed-in-214.ensures

pub returns-in-763 : goal.returns-in-763
returns-in-763 c = finite_child _ _ _ _ _ c.tag_at-tag.ensures 763 9 refl c.in-763.is _ c.fixed-in-763.ensures

pub returns-in-221 : goal.returns-in-221
returns-in-221 c = finite_node _ _ _ _ _ c.tag_at-tag.ensures 221 10 refl c.in-221.is _ c.fixed-in-221.ensures

pub returns-in-803 : goal.returns-in-803
returns-in-803 c = finite_set _ _ _ _ _ c.tag_at-tag.ensures c.in-803.is _ c.finite_set_at.ensures

pub returns-in-217 : goal.returns-in-217
returns-in-217 c = finite_restricted_lem _ _ _ _ _ c.tag_at-tag.ensures c.in-217.is _ c.second_of-b.ensures _
    c.finite_restricted_at.ensures

pub returns-in-402 : goal.returns-in-402
returns-in-402 c = finite_node _ _ _ _ _ c.tag_at-tag.ensures c.tag_at-tag.result 2 (grind arith) refl _ c.fixed-in-402.ensures

pub returns-in-410 : goal.returns-in-410
returns-in-410 c = finite_node _ _ _ _ _ c.tag_at-tag.ensures c.tag_at-tag.result 13 (grind arith) refl _ c.fixed-in-410.ensures
