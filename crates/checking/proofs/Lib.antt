pub mod Accepted
pub mod Turns
