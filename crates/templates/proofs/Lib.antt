mod Onto
pub mod RightSides
pub mod Joins
