pub mod Lists
pub mod Complete
pub mod Sets
pub mod Kit
mod Sanity
