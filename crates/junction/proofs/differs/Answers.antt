use Rattle.junction.proofs.JunctionTurns.{differ_both, differ_keys, differ_opposite, differ_same}
use Rattle.junction.proofs.differs.Goals as goal

pub returns-then-one-child : goal.returns-then-one-child
returns-then-one-child c = differ_keys c.requires c.if-one-child.true

pub opposite-requires : goal.opposite-requires
opposite-requires c = differ_both c.from-p.ensures c.from-c.ensures c.requires

pub returns-then-opposite : goal.returns-then-opposite
returns-then-opposite c = differ_opposite c.from-p.ensures c.from-c.ensures c.opposite.ensures c.if-opposite.true

pub same_at-requires : goal.same_at-requires
same_at-requires c = differ_both c.from-p.ensures c.from-c.ensures c.requires

pub returns : goal.returns
returns c = differ_same c.from-p.ensures c.from-c.ensures c.opposite.ensures c.if-opposite.false c.same_at.ensures
