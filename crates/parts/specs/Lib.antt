pub mod Holds
pub mod Types
