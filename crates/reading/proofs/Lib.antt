pub mod FrameTree
mod NodeTurns
mod TreesTurns
mod FrameTurns
pub mod AgainTurns
