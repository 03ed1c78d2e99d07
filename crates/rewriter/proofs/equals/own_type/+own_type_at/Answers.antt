use Rattle.std.proofs.Common.{rules}
use Rattle.rewriter.proofs.OwnTurns.{out_atom, name_here, out_ident, out_pow, out_other, out_first, out_both}
use Rattle.decision.proofs.Descents.{here_child, here_first, here_second, after_first_lem}
use Rattle.decision.proofs.Shapes.{here_few, here_placed, two_here}
use Rattle.frame.specs.Tags.{expression, lookup, class_of, form_at}
use native.Mathlib.Omega.{arith}
use mathlib.Core.Path.{refl}
use Rattle.rewriter.proofs.equals.own_type.+own_type_at.Goals as goal

pub tag_at-requires : goal.tag_at-requires
tag_at-requires t c = here_placed c.requires

pub is_given_at-requires : goal.is_given_at-requires
is_given_at-requires t c = name_here _ _ _ _ _ c.tag_at.ensures c.in-1.is c.requires

pub returns-in-1 : goal.returns-in-1
returns-in-1 t c = out_ident _ _ _ _ _ c.tag_at.ensures c.in-1.is _ c.is_given_at.ensures

pub overflow_add-k : goal.overflow_add-k
overflow_add-k t c = let z = here_few c.requires in omega arith

pub returns-in-752 : goal.returns-in-752
returns-in-752 t c = out_pow _ _ _ _ _ c.tag_at.ensures c.in-752.is _ c.own_type_at.ensures

pub own_type_at-requires : goal.own_type_at-requires
unfolding lookup class_of form_at
own_type_at-requires t c =
    let h = here_child _ _ _ _ _ c.tag_at.ensures 752 c.in-752.is expression (λ x. refl) c.requires in
    let z = here_few h in
    (omega arith, h)

pub overflow_add-k-in-214 : goal.overflow_add-k-in-214
overflow_add-k-in-214 t c = let z = here_few c.requires in omega arith

pub own_type_at-requires-in-214 : goal.own_type_at-requires-in-214
unfolding lookup class_of form_at
own_type_at-requires-in-214 t c =
    let h = here_first (two_here _ _ _ _ _ c.tag_at.ensures 214 c.in-214.is expression expression (λ x. refl) _ refl c.requires) in
    let z = here_few h in
    (omega arith, h)

pub overflow_add-k-then-own_type_at : goal.overflow_add-k-then-own_type_at
overflow_add-k-then-own_type_at t c = let z = here_few c.requires in omega arith

pub next_at-requires : goal.next_at-requires
unfolding lookup class_of form_at
next_at-requires t c =
    here_few (here_first (two_here _ _ _ _ _ c.tag_at.ensures 214 c.in-214.is expression expression (λ x. refl) _ refl c.requires))

pub own_type_at-requires-then-own_type_at : goal.own_type_at-requires-then-own_type_at
unfolding lookup class_of form_at
own_type_at-requires-then-own_type_at t c =
    let q = c.next_at.ensures.0 in
    let w = two_here _ _ _ _ _ c.tag_at.ensures 214 c.in-214.is expression expression (λ x. refl) _ q c.requires in
    let h = here_second w in
    let z = here_few h in
    let x = after_first_lem (here_first w) in
    (omega arith, h)

pub returns-then-own_type_at : goal.returns-then-own_type_at
returns-then-own_type_at t c =
    out_both _ _ _ _ _ c.tag_at.ensures c.in-214.is _ c.own_type_at-in-214.ensures c.if-own_type_at.true _ c.next_at.ensures.0 _
    c.own_type_at-then-own_type_at.ensures

pub returns-else-own_type_at : goal.returns-else-own_type_at
returns-else-own_type_at t c =
    rw c.if-own_type_at.false (out_first _ _ _ _ _ c.tag_at.ensures c.in-214.is _ c.own_type_at-in-214.ensures c.if-own_type_at.false)

pub returns-in-404 : goal.returns-in-404
returns-in-404 t c = out_atom _ _ _ _ _ c.tag_at.ensures c.in-404.is

pub returns-in_default : goal.returns-in_default
returns-in_default t c = search (rules, out_other)
