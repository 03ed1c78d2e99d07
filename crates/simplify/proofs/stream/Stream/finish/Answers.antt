-- `simplify::stream::Stream::finish` meets its contract.
use Rattle.std.proofs.Common.{◌≡◌, [], true, false, sym, ◌∙◌}
use Rattle.printing.proofs.Writes.{adds_none}
use Rattle.simplify.proofs.Lines.{line_last}
use Rattle.simplify.proofs.stream.Stream.finish.Goals as goal

pub returns-then-is_empty-clause-adds : goal.returns-then-is_empty-clause-adds
returns-then-is_empty-clause-adds c = λ room held r. rw ((c.is_empty.ensures held r).0 c.if-is_empty.true) (adds_none c.args.self.now.answers)

pub returns-clause-adds : goal.returns-clause-adds
returns-clause-adds c = λ room held r.
    let some : held ≡ [] → ⊥ = λ e. (let z : true ≡ false = sym ((c.is_empty.ensures held r).1 e) ∙ c.if-is_empty.false in cc) in
    rw (← line_last held some) (c.end_line.ensures.adds held r)
