use Rattle.checking.proofs.Turns.{bound_out, names_out, typed_out, accepted_out}
use Rattle.checking.proofs.check_tree.Goals as goal

pub returns-then-not-binding_ok : goal.returns-then-not-binding_ok
returns-then-not-binding_ok c = bound_out c.args.frame.now c.binding_ok.ensures c.if-not-binding_ok.true

pub returns-then-not-names_ok : goal.returns-then-not-names_ok
returns-then-not-names_ok c = names_out c.args.frame.now c.binding_ok.ensures c.if-not-binding_ok.false c.names_ok.ensures c.if-not-names_ok.true

pub returns-then-not-typing_ok : goal.returns-then-not-typing_ok
returns-then-not-typing_ok c = typed_out c.args.frame.now c.binding_ok.ensures c.if-not-binding_ok.false c.names_ok.ensures c.if-not-names_ok.false
    c.typing_ok.ensures c.if-not-typing_ok.true

pub returns : goal.returns
returns c = accepted_out c.args.frame.now c.binding_ok.ensures c.if-not-binding_ok.false c.names_ok.ensures c.if-not-names_ok.false
    c.typing_ok.ensures c.if-not-typing_ok.false _ c.requires
