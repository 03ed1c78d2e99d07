pub mod Positive
pub mod Monotone
mod Forests
mod Empties
mod Fills
pub mod Equations
