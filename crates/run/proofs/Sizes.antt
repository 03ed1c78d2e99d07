-- How large a run's answer is.
-- Main results: run_small (the count is within the budget, the last frame within the limit).
use mathlib.Core.Path.{◌≡◌, refl}
use mathlib.Core.Bool.{Bool, true, false}
use mathlib.Core.List.{List}
use Prim.Native.Nat.{ℕ, zero, suc, ◌+◌, ◌≤◌}
use native.Mathlib.Omega.{arith}
use lib.ListN.{length}
use lib.Dec.{ltb}
use Rattle.frame.specs.Trees.{Tree}
use Rattle.frame.specs.Tags.{pick}
use Rattle.frame.specs.Encoding.{enc}
use Rattle.frame.specs.Reading.{frame_limit}
use Rattle.frame.specs.Spans.{Bytes}
use Rattle.typing.specs.Check.{Checked, accepted, refused, check}
use Rattle.typing.proofs.Checked.{check_accepts}
use Rattle.run.specs.Run.{First, next, nowhere, first_step, Word, FULL, Ran, ran, at_end, go_on, run_tree, ended, turned_down, ended_by, run_on, run}
use Rattle.run.proofs.Runs.{run_steps}

-- with n steps made and this budget left
pub count_within : (budget n : ℕ) (t : Tree) (w : Word) (m : ℕ) (u : Tree) → run_tree budget n t ≡ ran w m u → m ≤ n + budget
unfolding run_tree
count_within zero n t w m u e = go (first_step t) e
  where
    go : (f : First) → at_end f n t ≡ ran w m u → m ≤ n + 0
    go (next v) e = let z : n ≡ m = cc in omega arith
    go nowhere e = let z : n ≡ m = cc in omega arith
count_within (suc budget) n t w m u e = go (first_step t) e (count_within budget (n + 1))
  where
    on : (v : Tree) (b : Bool) → pick b (ran FULL n t) (run_tree budget (n + 1) v) ≡ ran w m u
        → ((t : Tree) (w : Word) (m : ℕ) (u : Tree) → run_tree budget (n + 1) t ≡ ran w m u → m ≤ n + 1 + budget) → m ≤ n + suc budget
    on v true e ih = let z : n ≡ m = cc in omega arith
    on v false e ih = omega (arith, ih v w m u e)

    go : (f : First) → go_on f n t (run_tree budget (n + 1)) ≡ ran w m u
        → ((t : Tree) (w : Word) (m : ℕ) (u : Tree) → run_tree budget (n + 1) t ≡ ran w m u → m ≤ n + 1 + budget) → m ≤ n + suc budget
    go (next v) e ih = on v (ltb frame_limit (length (enc v))) e ih
    go nowhere e ih = let z : n ≡ m = cc in omega arith

pub run_small : (s : List ℕ) → Bytes s → (budget c : ℕ) (w : Word) (n : ℕ) (xs : List ℕ) → run s budget c ≡ ended w n xs
    → (n ≤ budget) × (length xs ≤ frame_limit)
unfolding run
run_small s b budget c w n xs e = on (check s) refl e
  where
    on_ran : (t : Tree) → length (enc t) ≤ frame_limit → (x : Ran) → run_tree budget 0 t ≡ x → (short : Bool)
        → pick short (turned_down 12) (ended_by x) ≡ ended w n xs → (n ≤ budget) × (length xs ≤ frame_limit)
    on_ran t l x r true e = cc
    on_ran t l (ran v m u) r false e =
        let y : m ≡ n = cc in
        let z : enc u ≡ xs = cc in
        (omega (arith, count_within budget 0 t v m u r), rw z at ((run_steps budget 0 t v m u r).fits l))

    on : (x : Checked) → check s ≡ x → run_on budget c x ≡ ended w n xs → (n ≤ budget) × (length xs ≤ frame_limit)
    on (accepted t) h e =
        let a = check_accepts s b t h in
        on_ran t (rw a.bytes a.fits) (run_tree budget 0 t) refl (ltb c frame_limit) e
    on (refused k) h e = cc
