pub mod Stands
pub mod Compared
