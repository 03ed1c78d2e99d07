-- Steps one after the other, at any places and with results of any length: no frame, no limit, no output plays a part. (Of the step bound
-- document 01 says: "holds as well if results may be of any length".)
use Rattle.std.specs.Prelude.{◌≡◌, ℕ, suc}
use Rattle.frame.specs.Trees.{Tree}
use Rattle.step.specs.Step.{changed, step_tree}

-- u lies n changing steps after t
pub data Steps : Tree → ℕ → Tree → Type 0 where
  none : (t : Tree) → Steps t 0 t
  more : (t u v : Tree) (k rule n : ℕ) → step_tree t k ≡ changed rule u → Steps u n v → Steps t (suc n) v
