-- `simplify::stream::answer_input` meets its contract.
use Rattle.std.proofs.Common.{◌≡◌, ◌∙◌, Ok, [], ◌++◌, length, take, ap, take-append-drop, rules, arith}
use Rattle.program.specs.Pieces.{last_line}
use Rattle.simplify.proofs.Lines.{rest_of}
use Rattle.simplify.proofs.Input.{answered_none, answered_read, answered_more, answered_whole, read_at, on_ok}
use Rattle.simplify.proofs.stream.answer_input.Goals as goal

pub loop-init : goal.loop-init
loop-init g c = ([], answered_none _ _ _ c.new-stream.ensures.line c.new-stream.ensures.written (ap length c.new-stream.ensures.behind))

pub returns-then-n-eq0-clause-whole : goal.returns-then-n-eq0-clause-whole
returns-then-n-eq0-clause-whole g c =
    let i = c.loop.invariant in
    let none : c.read.result ≡ Ok 0 = search rules in
    let read = read_at _ _ _ _ none c.read.ensures.bytes (omega arith) in
    on_ok c.write.result c.write.ensures.written
    (answered_whole _ _ (answered_read _ [] i.1 read.0) read.1 (c.finish.ensures.adds (omega (arith, i.1.room)) (last_line i.0 []) i.1.line))

pub loop-rest-preserved : goal.loop-rest-preserved
loop-rest-preserved g c =
    let i = c.loop-rest.invariant in
    let wrote = c.in_ok-write.ensures in
    let taken = c.feed-taken.result in
    let rest = c.loop-rest.rest.now in (
      i.0 ++ take taken rest,
      answered_more (take taken rest) _ _ _ _ i.1 (ap (λ x. take taken rest ++ x) (rest_of taken rest) ∙ take-append-drop taken rest)
          c.feed-taken.ensures.feeds wrote.written wrote.line wrote.cleared wrote.behind,
    )
