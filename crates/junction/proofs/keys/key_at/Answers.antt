use mathlib.Core.Path.{ap, ◌∙◌}
use Prim.Native.Nat.{ℕ, ◌-◌, ◌%◌}
use lib.ListN.{take, drop}
use Rattle.std.proofs.Common.{sum}
use Rattle.nav.proofs.ChildPlaces.{tree_few}
use Rattle.junction.proofs.KeyTurns.{key_placed, key_done}
use Rattle.junction.proofs.keys.key_at.Goals as goal

pub start_at-from-requires : goal.start_at-from-requires
start_at-from-requires c = tree_few _ _ _ _ c.requires

pub end_at-to-requires : goal.end_at-to-requires
end_at-to-requires c = key_placed c.requires c.next_at.ensures.0

pub returns : goal.returns
returns c =
    let s = c.args.places.now.bytes.now in
    key_done c.next_at.ensures.0 c.end_at-to.ensures _
    (ap (λ (x : ℕ). x % 191) (c.sum_of.ensures ∙ ap (λ (x : ℕ). sum (take (c.end_at-to.result - x) (drop x s))) c.start_at-from.ensures.0))
