-- A turn of typing: where it begins, and what it does.
use Rattle.std.specs.Prelude.{ℕ, Option}
use Rattle.synthesis.specs.declared.stack.OpenNode.{OpenNode}
use Rattle.synthesis.specs.declared.Opened.{Opened}

-- where the next node stands and its place, the end of the types, and how many nodes are open below the one at hand
pub record State : Type 0 where
  pub at : ℕ
  pub place : ℕ
  pub end : ℕ
  pub top : ℕ

abbrev pub state : ℕ → ℕ → ℕ → ℕ → State
state at place end top = record { at = at; place = place; end = end; top = top }

-- after the root was opened, with the place of the next node
abbrev pub started : Opened → ℕ → State
started root place = state root.at place root.end 0

pub data Turned : Type 0 where
  -- the node at hand goes on the stack as it is here, and its operand is at hand
  descends : OpenNode → OpenNode → State → Turned
  -- the node at hand is closed, and the one below it is at hand again
  climbs : State → Turned
  -- the answer of the whole
  finishes : Option ℕ → Turned
