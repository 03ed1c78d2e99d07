pub mod Sound
mod Premises
mod Emptied
mod Many
mod Connectives
mod Quantifiers
mod FiniteRules
mod Junctions
mod EmptySets
mod EmptySetsMore
mod EmptyRulesKit
mod EmptyRules
mod EmptyRulesMany
mod EmptyRulesCaps
mod EmptyRulesAll
mod TypeSets
mod TypeRules
pub mod EquationKeeps
