use mathlib.Core.Path.{refl}
use native.Mathlib.Omega.{arith}
use Rattle.filling.proofs.Ends.{place_few, behind_room, behind_done}
use Rattle.filling.proofs.behind_tag.Goals as goal

pub start_at-from-requires : goal.start_at-from-requires
start_at-from-requires c = (place_few c.args.places.now c.args.k c.requires).0

pub overflow_add-k : goal.overflow_add-k
overflow_add-k c = let z = place_few c.args.places.now c.args.k c.requires in omega arith

pub start_at-requires : goal.start_at-requires
start_at-requires c = let z = place_few c.args.places.now c.args.k c.requires in omega arith

pub slice_bounds-result-count : goal.slice_bounds-result-count
slice_bounds-result-count c = let z = behind_room c.args.places.now c.args.k c.requires c.start_at.result (λ h. c.start_at.ensures.0) (λ h. absurd (omega arith)) in omega arith

pub slice_bounds-result-start : goal.slice_bounds-result-start
slice_bounds-result-start c = let z = behind_room c.args.places.now c.args.k c.requires c.start_at.result (λ h. c.start_at.ensures.0) (λ h. absurd (omega arith)) in omega arith

pub slice_bounds-result-end : goal.slice_bounds-result-end
slice_bounds-result-end c = let z = behind_room c.args.places.now c.args.k c.requires c.start_at.result (λ h. c.start_at.ensures.0) (λ h. absurd (omega arith)) in omega arith

pub returns-then-k-places : goal.returns-then-k-places
returns-then-k-places c = behind_done c.args.places.now c.args.k _ c.start_at.result (omega arith) (λ h. c.start_at.ensures.0) (λ h. absurd (omega arith))

pub slice_bounds-result-count-2 : goal.slice_bounds-result-count-2
slice_bounds-result-count-2 c = let z = behind_room c.args.places.now c.args.k c.requires _ (λ h. absurd (omega arith)) (λ h. refl) in omega arith

pub slice_bounds-result-start-2 : goal.slice_bounds-result-start-2
slice_bounds-result-start-2 c = let z = behind_room c.args.places.now c.args.k c.requires _ (λ h. absurd (omega arith)) (λ h. refl) in omega arith

pub returns : goal.returns
returns c = behind_done c.args.places.now c.args.k _ _ (omega arith) (λ h. absurd (omega arith)) (λ h. refl)
