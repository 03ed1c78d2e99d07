-- `printing::Text::put_frame` meets its contract.
use Rattle.std.proofs.Common.{◌≡◌, ◌+◌, ◌-◌, List, [], ℕ, length, take, drop, Some, refl, sym, ap, ◌∙◌, append-nil, length-drop, arith}
use Rattle.std.proofs.Math.Seq.{take_all}
use Rattle.std.proofs.lemmas.List.{drop_all}
use Rattle.frame.specs.Lines.{write_line}
use Rattle.printing.specs.Written.{behind}
use Rattle.printing.proofs.Writes.{adds_at}
use Rattle.printing.proofs.Text.put_frame.Goals as goal

pub returns : goal.returns
unfolding behind
returns c =
    let s = c.args.self.now in
    let k : ℕ = length s.bytes.now - s.end in
    let rest : List ℕ = drop s.end s.bytes.now in
    let whole : take k rest ≡ rest = take_all k rest (omega (arith, length-drop s.end s.bytes.now)) in
    let none : drop k rest ≡ [] = drop_all k rest (omega (arith, length-drop s.end s.bytes.now)) in
    let wrote = (rw whole at c.write_line-written.ensures.wrote) c.requires in
    let n : Some (length (write_line c.args.frame.now)) ≡ Some c.unwrap.result = sym wrote.0 ∙ c.unwrap.ensures in
    let m : c.unwrap.result ≡ length (write_line c.args.frame.now) = cc in
    adds_at s _ _ c.requires (ap (λ i. s.end + i) m) (rw (wrote.1, none, append-nil) refl) refl
