-- `simplify::stream::Stream::feed` meets its contract.
use Rattle.std.proofs.Common.{◌≡◌, [], ◌∷◌, ◌++◌, length, take, refl, sym, ap, ◌∙◌, length-append, ℕ, arith}
use Rattle.std.proofs.Math.Seq.{take_all}
use Rattle.program.specs.Text.{newline}
use Rattle.simplify.proofs.Lines.{cut_behind, feeds_none, feeds_part, feeds_line}
use Rattle.simplify.proofs.stream.Stream.feed.Goals as goal

pub loop-end-init : goal.loop-end-init
loop-end-init c = ([], refl, feeds_none _, λ e. refl, refl)

pub loop-end-preserved : goal.loop-end-preserved
loop-end-preserved c =
    let i = c.loop-end.invariant in
    let e = c.in-Some.ensures in
    let rest = c.loop-end.rest.now in (
      i.0 ++ take c.in-Some.end rest ++ newline ∷ [],
      cut_behind i.0 rest c.args.piece.now c.in-Some.end e.0 e.1 i.1,
      feeds_line (take c.in-Some.end rest) e.2 i.2 refl c.read.ensures c.end_line.ensures.line c.end_line.ensures.adds,
      λ none. absurd (omega (arith, ap length none, length-append {A = ℕ})),
      c.end_line.ensures.same_reference ∙ i.4,
    )

pub returns-clause-feeds : goal.returns-clause-feeds
returns-clause-feeds c =
    let i = c.loop-end.invariant in
    let piece = c.args.piece.now in
    let whole : take (length piece) piece ≡ i.0 ++ c.loop-end.rest.now = take_all (length piece) piece (omega arith) ∙ sym i.1 in
    rw whole (feeds_part c.loop-end.rest.now c.in_default.ensures i.2 refl c.read-2.ensures)
