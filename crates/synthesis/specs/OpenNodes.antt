-- The record of an open node, and what stands for one past the end of a stack. "The nodes still open while typing are a lent
-- slice of records (tag, operands to come, type start): our own code lends it, 2,048 records long." "typing keeps its open
-- nodes in a lent slice of structs; thin push and pop functions only."
use Rattle.synthesis.specs.declared.stack.OpenNode.{OpenNode}

abbrev pub no_node : OpenNode
no_node = record { tag = 0; left = 0; from = 0 }
