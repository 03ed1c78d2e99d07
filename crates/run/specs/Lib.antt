pub mod Run
pub mod Steps
pub mod UnionFigure
pub mod Series
pub mod Cases
