pub mod Derived
pub mod TypeExpression
pub mod Same
pub mod Members
pub mod Names
pub mod Decides
pub mod Checked
pub mod Answers
