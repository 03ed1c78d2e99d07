-- What one turn of a run answers, by the definition of run/specs/Run.antt.
use Rattle.std.specs.Prelude.{◌≡◌, List, ℕ, suc, ◌+◌, ◌≤◌, length, Option, Some, None}
use Rattle.frame.specs.Trees.{Tree}
use Rattle.frame.specs.Encoding.{enc}
use Rattle.frame.specs.Reading.{frame_limit}
use Rattle.put.specs.Out.{Wrote}
use Rattle.run.specs.Run.{First, next, nowhere, first_step, Word, ran, run_tree, ending_for}
use Rattle.run.specs.declared.Ending.{Ending}
use Rattle.turn.specs.Progress.{At}

-- ---- the first step that was found
-- the answer says what `first_step` gives; the new frame's bytes were written
abbrev pub Gives : Option (Option (List ℕ)) → First → Type 0
Gives None f = f ≡ nowhere
Gives (Some w) f = (u : Tree) × (f ≡ next u) × Wrote w (enc u)

-- ---- the turn, from o to p
-- The run of t ends at t, with the word that the definition gives it. Nothing is changed.
pub record EndsHere (t : Tree) (o p : At) (e : Ending) : Type 0 where
  pub word : Word
  pub ended : run_tree o.left o.steps t ≡ ran word o.steps t
  pub ending : e ≡ ending_for word
  pub kept : p ≡ o

-- "A run steps at the first place in prefix order where a rule applies": the run of t is the run of the tree after that step. Its
-- bytes are held now, one step less is left, and one more is counted.
pub record GoesOn (t : Tree) (o p : At) : Type 0 where
  pub after : Tree
  pub step : first_step t ≡ next after
  pub same : run_tree o.left o.steps t ≡ run_tree p.left p.steps after
  pub less : o.left ≡ suc p.left
  pub more : p.steps ≡ o.steps + 1
  pub bytes : p.frame ≡ enc after
  pub fits : length (enc after) ≤ frame_limit

abbrev pub Follows : Tree → At → At → Option Ending → Type 0
Follows t o p (Some e) = EndsHere t o p e
Follows t o p None = GoesOn t o p

-- of every tree whose first step was found so
pub record TurnPost (x : Option (Option (List ℕ))) (o p : At) (r : Option Ending) : Type 0 where
  pub follows : (t : Tree) → Gives x (first_step t) → Follows t o p r
