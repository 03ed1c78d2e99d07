pub mod Short
pub mod Numbers
