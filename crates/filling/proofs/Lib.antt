pub mod Subtrees
mod Types
mod Ends
mod Fills
