pub mod Runs
pub mod Calls
mod UnionFigure
pub mod Sizes
pub mod Answers
