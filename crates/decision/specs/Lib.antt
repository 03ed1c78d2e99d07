pub mod Decision
pub mod Decides
pub mod RulesAt
pub mod Dispatching
pub mod AtPlaces
