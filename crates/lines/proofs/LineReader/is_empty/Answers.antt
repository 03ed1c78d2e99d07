-- `lines::LineReader::is_empty` meets its contract.
use Rattle.std.proofs.Common.{◌≡◌, ℕ, List, [], Result, Ok, Err, length, ap, sym, ◌∙◌}
use borrow.Author.Tests.{eqb-true, eq-eqb}
use Rattle.frame.specs.declared.refusals.Refusal.{Refusal}
use Rattle.lines.proofs.LineReading.{empty_of, answer_empty}
use Rattle.lines.proofs.LineReader.is_empty.Goals as goal

pub returns-in-Ok : goal.returns-in-Ok
returns-in-Ok c = λ cs r.
    let e = c.in-Ok.ensures cs r in (
      λ t. empty_of cs c.in-Ok.frame.now e (eqb-true _ _ (sym c.is_empty.ensures ∙ t)),
      λ z. (
          let y : ◌≡◌ {A = Result (List ℕ) Refusal} (Ok []) (Ok c.in-Ok.frame.now) = sym (answer_empty cs z) ∙ e in
          let n : [] ≡ c.in-Ok.frame.now = cc in
          c.is_empty.ensures ∙ eq-eqb _ _ (ap length (sym n))
          ),
    )

pub returns-in-Err : goal.returns-in-Err
returns-in-Err c = λ cs r. (
  λ t. cc,
  λ z. (
      let y : ◌≡◌ {A = Result (List ℕ) Refusal} (Ok []) (Err c.in-Err.field-0) = sym (answer_empty cs z) ∙ c.in-Err.ensures cs r in
      cc
      ),
)
