pub mod Out
pub mod Copied
pub mod Written
