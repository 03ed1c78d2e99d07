-- A frame checked: numbers 2 to 10 in their order (document 01, "Numbers of what is turned down, in checking order").
use Rattle.std.specs.Prelude.{ℕ, List, [], Result, Ok, Err}
use Rattle.frame.specs.declared.refusals.Refusal.{Refusal}
use Rattle.frame.specs.Refusals.{refusal}
use Rattle.frame.specs.Trees.{Tree, nodes}
use Rattle.frame.specs.Tags.{pick}
use Rattle.frame.specs.Reading.{Parsed, tree, bad, parse}
use Rattle.typing.specs.Typing.{typed_tree}
use Rattle.typing.specs.Binding.{closed_tree}
use Rattle.typing.specs.Identifiers.{names_agree}

pub data Checked : Type 0 where
  accepted : Tree → Checked
  refused : ℕ → Checked

-- 8 over the whole tree, then 9 over the whole tree, then 10
unfoldable pub check_tree : Tree → Checked
check_tree t =
    pick (closed_tree t []) (pick (names_agree t) (pick (typed_tree t []) (accepted t) (refused 10)) (refused 9)) (refused 8)

abbrev pub check_parsed : Parsed → Checked
check_parsed (tree t) = check_tree t
check_parsed (bad c) = refused c

unfoldable pub check : List ℕ → Checked
check s = check_parsed (parse s)

-- "Where an answer is an enum, a definition gives this paper's number and values for each case of the enum. The promises use that
-- definition." The contract of the entry `check` is an equation with it: "The contract of each entry gives answer, count and every
-- byte of the output afterwards, refusals too"; the answer has the number of nodes, and there is no output here. "No entry is left
-- with a contract that says nothing of what it gives."
abbrev pub check_answer : Checked → Result ℕ Refusal
check_answer (accepted t) = Ok (nodes t)
check_answer (refused n) = Err (refusal n)
