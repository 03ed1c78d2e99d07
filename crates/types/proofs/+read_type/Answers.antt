-- `types::read_type` meets its contract: each goal cites a law of its way out.
use native.Mathlib.Omega.{arith}
use Rattle.types.proofs.TypeTurns.{ty_none, ty_plain, ty_given, ty_pow, ty_prod_no, prod_further, ty_prod, ty_bad}
use Rattle.types.proofs.+read_type.Goals as goal

pub returns-in_err-type_byte : goal.returns-in_err-type_byte
returns-in_err-type_byte t c = ty_none _ _ _ c.requires.1 _ _ c.from_residual.ensures.1 c.in_err-type_byte.ensures

pub returns-in-0 : goal.returns-in-0
returns-in-0 t c = ty_plain _ _ _ c.requires.1 _ c.in_ok-type_byte.ensures (omega arith)

pub returns-in-2 : goal.returns-in-2
returns-in-2 t c = ty_given _ _ _ c.requires.1 _ c.in_ok-type_byte.ensures c.in-2.is _ c.given_number.ensures

pub returns-in-3 : goal.returns-in-3
returns-in-3 t c = ty_pow _ _ _ c.requires.1 _ c.in_ok-type_byte.ensures c.in-3.is _ c.read_type.ensures

pub returns-in_err-p-in-4 : goal.returns-in_err-p-in-4
returns-in_err-p-in-4 t c = ty_prod_no _ _ _ c.requires.1 _ c.in_ok-type_byte.ensures c.in-4.is _ _ c.from_residual-in_err-p-in-4.ensures.1
    c.in_err-p-in-4.ensures

pub read_type-requires-in-4-2 : goal.read_type-requires-in-4-2
read_type-requires-in-4-2 t c =
    let w = prod_further _ _ _ c.requires.1 _ c.in_ok-type_byte.ensures (λ i. (c.type_inv.s i).fits) _ c.in_ok-p-in-4.ensures in
    omega arith

pub returns-in_ok-p-in-4 : goal.returns-in_ok-p-in-4
returns-in_ok-p-in-4 t c = ty_prod _ _ _ c.requires.1 _ c.in_ok-type_byte.ensures (λ i. (c.type_inv.s i).fits) _ c.in_ok-p-in-4.ensures c.in-4.is _
    c.read_type-in-4-2.ensures

pub returns-in_default : goal.returns-in_default
returns-in_default t c = ty_bad _ _ _ c.requires.1 _ c.in_ok-type_byte.ensures (omega arith)
