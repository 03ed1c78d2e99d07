pub mod CodeRules
pub mod Patterns
