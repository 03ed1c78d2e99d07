pub mod Places
pub mod Steps
mod Ends
pub mod Answers
