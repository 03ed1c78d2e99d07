mod Matching
pub mod RuleShapes
mod ClassShapes
mod PatternRules
pub mod TagRules
mod CarriedShapes
pub mod NodeRules
pub mod OwnTags
pub mod SymbolNumbers
