use Rattle.std.proofs.Common.{refl, sym}
use Rattle.running.proofs.Turns.{run_fits, run_starts, run_room, run_front, run_done}
use Rattle.running.proofs.run_admitted.Goals as goal

pub new-progress-requires : goal.new-progress-requires
new-progress-requires c = run_fits _ (λ i. (c.type_inv.frame i).fits) c.args.budget c.args.out.now c.requires

pub rounds-ending-requires : goal.rounds-ending-requires
rounds-ending-requires c = rw c.new-progress.ensures (run_starts _ (λ i. (c.type_inv.frame i).fits) c.args.budget c.args.out.now c.requires)

pub slice_bounds-copy_from_slice-end : goal.slice_bounds-copy_from_slice-end
slice_bounds-copy_from_slice-end c = run_room _ (λ i. (c.type_inv.frame i).fits) c.args.budget c.args.out.now c.requires
    _ _ (rw c.new-progress.ensures at c.rounds-ending.ensures) _ c.frame-last.ensures

pub slice_bounds-copy_from_slice-end-2 : goal.slice_bounds-copy_from_slice-end-2
slice_bounds-copy_from_slice-end-2 c = sym (run_front _ (λ i. (c.type_inv.frame i).fits) c.args.budget c.args.out.now c.requires
    _ _ (rw c.new-progress.ensures at c.rounds-ending.ensures) _ c.frame-last.ensures)

pub copy_from_slice-requires : goal.copy_from_slice-requires
copy_from_slice-requires c = run_front _ (λ i. (c.type_inv.frame i).fits) c.args.budget c.args.out.now c.requires
    _ _ (rw c.new-progress.ensures at c.rounds-ending.ensures) _ c.frame-last.ensures

pub returns : goal.returns
returns c = run_done _ (λ i. (c.type_inv.frame i).fits) c.args.budget c.args.out.now c.requires
    _ _ (rw c.new-progress.ensures at c.rounds-ending.ensures) _ c.frame-last.ensures _ _ _
    c.copy_from_slice.ensures.after refl c.ended.ensures
