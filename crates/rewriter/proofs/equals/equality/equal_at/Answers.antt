use Rattle.std.proofs.Common.{Some, None, refl}
use Rattle.rewriter.proofs.PairTurns.{equal_series}
use Rattle.rewriter.proofs.equals.equality.equal_at.Goals as goal

pub returns-in-Some : goal.returns-in-Some
returns-in-Some c =
    let d = Some c.in-Some.empty in
    equal_series _ _ _ _ _ d c.in-Some.ensures d refl d refl

pub returns-in-Some-type_rule_at : goal.returns-in-Some-type_rule_at
returns-in-Some-type_rule_at c =
    let e = Some c.in-Some-type_rule_at.left in
    equal_series _ _ _ _ _ None c.in_default.ensures e c.in-Some-type_rule_at.ensures e refl

pub returns : goal.returns
returns c =
    equal_series _ _ _ _ _ None c.in_default.ensures None c.in_default-type_rule_at.ensures c.type_rule_at-2.result c.type_rule_at-2.ensures
