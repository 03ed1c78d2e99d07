pub mod Words
pub mod Posts
