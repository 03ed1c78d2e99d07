use Rattle.std.proofs.Common.{Some, None, refl}
use Rattle.decision.proofs.Series.{imp_series}
use Rattle.logic.proofs.implication.implication_at.Goals as goal

pub returns-in-Some : goal.returns-in-Some
returns-in-Some c =
    let d = Some c.in-Some.first in
    imp_series _ _ _ _ _ d c.in-Some.ensures d refl d refl

pub returns-in-Some-implication_and_at : goal.returns-in-Some-implication_and_at
returns-in-Some-implication_and_at c =
    let e = Some c.in-Some-implication_and_at.within in
    imp_series _ _ _ _ _ None c.in_default.ensures e c.in-Some-implication_and_at.ensures e refl

pub returns : goal.returns
returns c =
    imp_series _ _ _ _ _ None c.in_default.ensures None c.in_default-implication_and_at.ensures c.implication_last_at.result
    c.implication_last_at.ensures
