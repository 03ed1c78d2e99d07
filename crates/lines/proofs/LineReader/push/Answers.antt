-- `lines::LineReader::push` meets its contract.
use Rattle.std.proofs.Common.{[], ◌∷◌, ◌++◌, ◌+◌, ◌*◌, subst, refl, ap, arith}
use Rattle.std.proofs.lemmas.Grind.{or_after_shift}
use Rattle.put.proofs.Puts.{puts_then, puts_as}
use Rattle.lines.specs.LineReads.{Leaves}
use Rattle.lines.specs.declared.Pending.TheVariants.{High}
use Rattle.lines.proofs.LineReading.{leaves_bad, leaves_second}
use Rattle.lines.proofs.LineReader.push.Goals as goal

pub returns-in_default : goal.returns-in_default
returns-in_default c = λ cs r. record { made = r.made; wrote = r.wrote; leaves = leaves_bad cs r.made _ _ c.in_default.ensures r.leaves }

pub returns-in-High : goal.returns-in-High
returns-in-High c = λ cs r.
    let leaves : Leaves cs r.made (High c.in-High.high) = subst (Leaves cs r.made) c.in-High.is r.leaves in
    let e = or_after_shift c.in-High.high 16 256 c.in-Some.digit refl (omega (arith, c.in-Some.ensures.1)) (omega (arith, leaves.2)) in
    record {
      made = r.made ++ (c.in-High.high * 16 + c.in-Some.digit) ∷ [];
      wrote = puts_then _ _ _ r.made _ r.wrote (puts_as _ _ _ _ (ap (λ x. x ∷ []) e) c.put_byte.ensures);
      leaves = leaves_second cs r.made c.args.c _ _ c.in-Some.ensures.0 c.in-Some.ensures.1 leaves;
    }
