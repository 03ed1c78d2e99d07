-- `printing::Text::put_text` meets its contract.
use Rattle.std.proofs.Common.{◌≡◌, ◌+◌, ◌-◌, ◌++◌, length, take, drop, refl, ap₂, arith}
use Rattle.printing.proofs.Writes.{adds_at}
use Rattle.printing.proofs.Text.put_text.Goals as goal

pub returns : goal.returns
returns c =
    let s = c.args.self.now in
    let n : s.end + length c.args.text.now - s.end ≡ length c.args.text.now = omega arith in
    adds_at s _ c.args.text.now c.requires refl
    (ap₂ (λ t k. take s.end s.bytes.now ++ (t ++ drop k (drop s.end s.bytes.now))) c.copy_from_slice.ensures.after n) refl
