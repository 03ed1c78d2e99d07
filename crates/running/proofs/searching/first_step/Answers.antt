use Rattle.running.proofs.SearchTurns.{as_nexts, tabled, first_search, first_rests, first_splice, first_writes}
use Rattle.checking.proofs.Accepted.{accepted_parse}
use Rattle.std.proofs.Common.{refl}
use Rattle.running.proofs.searching.first_step.Goals as goal

pub new-known-requires : goal.new-known-requires
new-known-requires c = (c.requires.0, accepted_parse _ (λ i. (c.type_inv.frame i).fits) _ c.requires.1)

pub nexts-requires : goal.nexts-requires
nexts-requires c = as_nexts _ (λ i. (c.type_inv.frame i).fits) _ c.requires.1 _ (rw c.new-known.ensures at c.read_again-read.ensures) _ c.told-table

pub search-requires : goal.search-requires
search-requires c = first_search _ _ (tabled _ (λ i. (c.type_inv.frame i).fits) c.read_again-read.result (rw c.new-known.ensures at c.read_again-read.ensures) _ _ _
    (rw c.new-known.ensures at c.binding_ok.ensures) _ c.nexts.ensures _ refl refl refl refl refl) c.requires

pub returns-in_err-k : goal.returns-in_err-k
returns-in_err-k c =
    rw c.from_residual.ensures (first_rests _ _ (tabled _ (λ i. (c.type_inv.frame i).fits) c.read_again-read.result (rw c.new-known.ensures at c.read_again-read.ensures) _ _ _
    (rw c.new-known.ensures at c.binding_ok.ensures) _ c.nexts.ensures _ refl refl refl refl refl) _ c.in_err-k.ensures)

pub splice-requires : goal.splice-requires
splice-requires c = first_splice _ _ (tabled _ (λ i. (c.type_inv.frame i).fits) c.read_again-read.result (rw c.new-known.ensures at c.read_again-read.ensures) _ _ _
    (rw c.new-known.ensures at c.binding_ok.ensures) _ c.nexts.ensures _ refl refl refl refl refl) _ _ _ c.in_ok-k.ensures c.requires

pub returns : goal.returns
returns c =
    first_writes _ _ (tabled _ (λ i. (c.type_inv.frame i).fits) c.read_again-read.result (rw c.new-known.ensures at c.read_again-read.ensures) _ _ _
    (rw c.new-known.ensures at c.binding_ok.ensures) _ c.nexts.ensures _ refl refl refl refl refl) _ _ _ c.in_ok-k.ensures _ c.splice.ensures
