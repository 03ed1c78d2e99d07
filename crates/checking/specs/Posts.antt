-- What the code of the check answers, by the definition of typing/specs/Check.antt.
use Rattle.std.specs.Prelude.{◌≡◌, Bool, List, [], ℕ, length, Result}
use Rattle.frame.specs.declared.refusals.Refusal.{Refusal}
use Rattle.frame.specs.Trees.{Tree, nodes}
use Rattle.frame.specs.Tags.{predicate}
use Rattle.frame.specs.Reading.{tree, parse}
use Rattle.frame.specs.At.{IsAt}
use Rattle.typing.specs.Typing.{typed_tree}
use Rattle.heads.specs.Leaves.{LeavesAt}
use Rattle.typing.specs.Check.{accepted, check, check_answer}

-- the table has the types of the bound identifiers of the frame's tree
abbrev pub LeavesListed : List ℕ → List ℕ → Type 0
LeavesListed s leaves = (t : Tree) → IsAt s predicate 0 t (length s) → LeavesAt t [] 0 s leaves

pub record TypedPost (s leaves : List ℕ) (r : Bool) : Type 0 where
  pub answer : (t : Tree) → IsAt s predicate 0 t (length s) → LeavesAt t [] 0 s leaves → r ≡ typed_tree t []

-- the frame's tree has n nodes
abbrev pub NodesOf : List ℕ → ℕ → Type 0
NodesOf s n = (t : Tree) → parse s ≡ tree t → n ≡ nodes t

-- what the check of a frame's tree answers; where it is accepted, the table has the types of its bound identifiers
pub record TreePost (s leaves : List ℕ) (r : Result ℕ Refusal) : Type 0 where
  pub answer : r ≡ check_answer (check s)
  pub leafs : (t : Tree) → check s ≡ accepted t → LeavesAt t [] 0 s leaves
  pub size : length leaves ≡ 2048
