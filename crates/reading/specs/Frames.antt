-- Which bytes are a frame's.
use Rattle.std.specs.Prelude.{Bool, true, false, List, ℕ}
use Rattle.frame.specs.Reading.{Parsed, tree, bad, parse}

-- a tree was read
abbrev pub is_tree : Parsed → Bool
is_tree (tree t) = true
is_tree (bad c) = false

-- reading these bytes gives a tree
unfoldable pub is_frame : List ℕ → Bool
is_frame s = is_tree (parse s)
