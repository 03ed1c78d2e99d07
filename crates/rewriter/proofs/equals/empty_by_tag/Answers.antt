use native.Mathlib.Omega.{arith}
use mathlib.Core.Path.{refl}
use Rattle.rewriter.proofs.EmptyTurns.{empty_node, empty_39, empty_child, empty_58}
use Rattle.rewriter.proofs.equals.empty_by_tag.Goals as goal

pub returns-in-5 : goal.returns-in-5
returns-in-5 c = record { decides = λ s st nx pt. empty_node s st nx _ _ pt 5 36 refl c.in-5.is _ c.fixed.ensures }

pub returns-in-301 : goal.returns-in-301
returns-in-301 c = record { decides = λ s st nx pt. empty_39 s st nx _ _ pt c.in-301.is _ c.each.ensures }

pub returns-in-752 : goal.returns-in-752
returns-in-752 c = record { decides = λ s st nx pt. empty_child s st nx _ _ pt 752 52 refl c.in-752.is _ c.fixed-in-752.ensures }

pub returns-in-753 : goal.returns-in-753
returns-in-753 c = record { decides = λ s st nx pt. empty_child s st nx _ _ pt 753 53 refl c.in-753.is _ c.fixed-in-753.ensures }

pub returns-in-754 : goal.returns-in-754
returns-in-754 c = record { decides = λ s st nx pt. empty_child s st nx _ _ pt 754 54 refl c.in-754.is _ c.fixed-in-754.ensures }

pub returns-in-305 : goal.returns-in-305
returns-in-305 c = record { decides = λ s st nx pt. empty_58 s st nx _ _ pt c.in-305.is _ c.each-in-305.ensures }

pub returns-in-756 : goal.returns-in-756
returns-in-756 c = record { decides = λ s st nx pt. empty_child s st nx _ _ pt c.args.tag 55 (grind arith) refl _ c.fixed-in-756.ensures }

pub returns-in-402 : goal.returns-in-402
returns-in-402 c = record { decides = λ s st nx pt. empty_node s st nx _ _ pt c.args.tag 60 (grind arith) refl _ c.fixed-in-402.ensures }

pub returns-in-412 : goal.returns-in-412
returns-in-412 c = record { decides = λ s st nx pt. empty_node s st nx _ _ pt c.args.tag 61 (grind arith) refl _ c.fixed-in-412.ensures }
