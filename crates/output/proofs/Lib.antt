pub mod OutTurns
