-- Demand 3. After any series of calls (steps at any places, runs with any budgets, refused and unchanged ones too) the predicate
-- held has the first one's truth value in every interpretation that document 01 covers, and the changing steps number at most
-- a figure worked out from the first tree alone. Document 01: "Demand 3 is a single claim about the whole list, whatever its
-- calls, places, budgets and outputs, and not one for each call. Once both calls run, demand 3 is owed, all of it."
use Rattle.std.specs.Prelude.{◌≡◌, List, [], ℕ, ◌<◌}
use Rattle.frame.specs.Trees.{Tree}
use Rattle.frame.specs.Spans.{Bytes}
use Rattle.typing.specs.Check.{accepted, check}
use Rattle.run.specs.Steps.{Steps}
use Rattle.run.specs.Series.{Call, held_after_all, changing_steps}
use Rattle.meaning.specs.Meaning.{Interpretation, is_true}
use Rattle.meaning.specs.Premises.{SingleIntegers, NoInterOverNothing}
use Rattle.weight.specs.Weight.{weight}

-- what holds after the calls, begun on the frame s, which is read as the tree first
pub record After (s : List ℕ) (first : Tree) (calls : List Call) : Type 0 where
  -- the frame held at the end is read without a number, as the tree last
  pub last : Tree
  pub reads : check (held_after_all s calls) ≡ accepted last
  -- the first tree's truth value in every interpretation: the premises are on the first tree alone, "Integers only as single
  -- numbers" and "No intersection over nothing"
  pub truth : (I : Interpretation) → SingleIntegers first [] → NoInterOverNothing I first [] → is_true I last ≡ is_true I first
  -- "The step bound is a formula in docs/ over the first tree's nodes and types" (docs/STEP-FIGURE.md): the weight less one
  pub figure : changing_steps s calls < weight first

-- "In a series the held frame is at first any frame that is read without a number." The calls, their places, budgets and
-- lent outputs are any; a frame's elements are bytes.
abbrev pub Demand3 : Type 0
Demand3 = (s : List ℕ) → Bytes s → (first : Tree) → check s ≡ accepted first → (calls : List Call) → After s first calls

-- "It makes no steps, doesn't use the 4,096 limit, and holds as well if results may be of any length": no row of changing steps, at
-- any places, is longer, however long the trees on the way are
abbrev pub AnyLength : Type 0
AnyLength = (s : List ℕ) → Bytes s → (first : Tree) → check s ≡ accepted first → (n : ℕ) (last : Tree) → Steps first n last → n < weight first
