use Rattle.std.proofs.Common.{refl, arith}
use Rattle.synthesis.proofs.OpenTurns.{open_own, open_small, open_bad, open_to}
use Rattle.synthesis.proofs.open_node.Goals as goal

pub own_type-requires : goal.own_type-requires
own_type-requires c = open_own (λ i. (c.type_inv.s i).fits) c.known_head-h.ensures _ _ _ c.requires

pub returns-in_err-own : goal.returns-in_err-own
returns-in_err-own c = rw c.from_residual.ensures (record {
  opens = λ t l f top. open_bad (λ i. (c.type_inv.s i).fits) c.known_head-h.ensures _ _ _ _ _ c.own_type.ensures c.in_err-own.was t l f top _ _ _;
})

pub overflow_cast-result : goal.overflow_cast-result
overflow_cast-result c = omega (arith, (open_small (λ i. (c.type_inv.s i).fits) c.known_head-h.ensures _ _ _ c.requires).0)

pub overflow_cast-result-2 : goal.overflow_cast-result-2
overflow_cast-result-2 c = omega (arith, (open_small (λ i. (c.type_inv.s i).fits) c.known_head-h.ensures _ _ _ c.requires).1)

pub returns : goal.returns
returns c = record {
  opens = λ t l f top. open_to (λ i. (c.type_inv.s i).fits) c.known_head-h.ensures _ _ _ _ _ c.own_type.ensures _ c.in_ok-own.was _ t l f top _ _ _ refl refl refl;
}
