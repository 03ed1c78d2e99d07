-- `heads::known_head` meets its contract.
use mathlib.Core.Path.{sym, subst}
use Rattle.heads.specs.HeadPost.{KnownPost}
use Rattle.heads.proofs.KnownTurns.{known_types, known_found}
use Rattle.heads.proofs.known_head.Goals as goal

pub skip_types-children-requires : goal.skip_types-children-requires
skip_types-children-requires c = known_types _ _ _ c.known_opening-opening.ensures _ c.many_types.ensures (λ i. (c.type_inv.s i).fits) c.requires

pub returns : goal.returns
returns c = subst (KnownPost c.args.s.now c.args.at) (sym c.with_children.ensures)
    (known_found _ _ _ c.known_opening-opening.ensures _ c.many_types.ensures (λ i. (c.type_inv.s i).fits) c.requires _ c.skip_types-children.ensures)
