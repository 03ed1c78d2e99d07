pub mod RowTurns
pub mod SubtreeTurns
pub mod InterSubtrees
pub mod DecisionTurns
pub mod SpliceTurns
