pub mod Puts
pub mod TypeBytes
