use Rattle.std.proofs.Common.{sym, ◌∙◌}
use Rattle.rewriter.proofs.InterTurns.{inter_placed, apart_none, apart_some, apart_other}
use Rattle.rewriter.proofs.inter.apart_at.Goals as goal

pub arity_at-n-requires : goal.arity_at-n-requires
arity_at-n-requires c = inter_placed _ _ _ _ c.requires

pub returns-in_err-single : goal.returns-in_err-single
returns-in_err-single c = rw c.from_residual.ensures (apart_none _ _ _ _ c.in_err-single.ensures)

pub returns-then-is_apart : goal.returns-then-is_apart
returns-then-is_apart c =
    apart_some _ _ _ _ _ _ _ c.in_ok-single.ensures c.arity_at-n.ensures c.count_singles-m.ensures (sym c.is_apart.ensures ∙ c.if-is_apart.true)

pub returns : goal.returns
returns c =
    apart_other _ _ _ _ _ _ _ c.in_ok-single.ensures c.arity_at-n.ensures c.count_singles-m.ensures (sym c.is_apart.ensures ∙ c.if-is_apart.false)
