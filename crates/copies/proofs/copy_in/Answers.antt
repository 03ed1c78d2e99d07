use Rattle.std.proofs.Common.{◌+◌, ◌<◌, length, set, get_or, ap, ◌∙◌, arith}
use Rattle.std.proofs.lemmas.List.Edits.{paste_more}
use Rattle.copies.proofs.copy_in.Goals as goal

pub loop-i-preserved : goal.loop-i-preserved
loop-i-preserved c =
    ap (λ l. set l (c.args.to + c.loop-i.i) (get_or c.args.s.now c.loop-i.i 0)) c.loop-i.invariant
    ∙ paste_more c.args.buf.now c.args.to c.args.s.now c.loop-i.i 0 (omega (arith, c.requires, c.loop-i-test.true)) c.loop-i-test.true
