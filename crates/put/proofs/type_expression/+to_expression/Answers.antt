use mathlib.Core.Path.{◌≡◌}
use native.Mathlib.Omega.{arith}
use lib.ListN.{get_or}
use Rattle.put.proofs.TypeBytes.{type_within, lead_most, has_pow, has_left, has_right, right_further, given_within, write_bool, write_int, write_given, write_pow, write_prod}
use Rattle.put.proofs.type_expression.+to_expression.Goals as goal

pub bounds-types-at : goal.bounds-types-at
bounds-types-at t c = type_within _ _ c.requires

pub given_expression-requires : goal.given_expression-requires
given_expression-requires t c = given_within _ _ c.requires c.in-2.is

pub to_expression-requires : goal.to_expression-requires
to_expression-requires t c = (omega (arith, type_within _ _ c.requires), has_pow _ _ c.requires c.in-3.is)

pub to_expression-second-requires : goal.to_expression-second-requires
to_expression-second-requires t c =
    let four : get_or c.args.types.now c.args.at 0 ≡ 4 = omega (arith, lead_most _ _ c.requires) in
    (omega (arith, type_within _ _ c.requires), has_left _ _ c.requires four)

pub to_expression-requires-in_default : goal.to_expression-requires-in_default
to_expression-requires-in_default t c =
    let four : get_or c.args.types.now c.args.at 0 ≡ 4 = omega (arith, lead_most _ _ c.requires) in
    let e = c.to_expression-second.ensures.end in (
      omega (arith, type_within _ _ c.requires, (right_further _ _ _ c.requires four e).0),
      has_right _ _ _ c.requires four e,
    )

pub returns-in-0 : goal.returns-in-0
returns-in-0 t c = write_bool _ _ _ _ c.in-0.is c.put_word.ensures

pub returns-in-1 : goal.returns-in-1
returns-in-1 t c = write_int _ _ _ _ c.in-1.is c.put_word-in-1.ensures

pub returns-in-2 : goal.returns-in-2
returns-in-2 t c = write_given _ _ _ _ c.in-2.is c.given_expression.ensures

pub returns-in-3 : goal.returns-in-3
returns-in-3 t c = write_pow _ _ _ _ _ _ c.in-3.is c.put_word-in-3.ensures c.to_expression.ensures

pub returns-in_default : goal.returns-in_default
returns-in_default t c =
    let four : get_or c.args.types.now c.args.at 0 ≡ 4 = omega (arith, lead_most _ _ c.requires) in
    write_prod _ _ _ _ _ _ _ _ four c.put_word-in_default.ensures c.to_expression-second.ensures c.to_expression-in_default.ensures
