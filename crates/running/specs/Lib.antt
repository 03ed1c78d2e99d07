pub mod Posts
pub mod SearchPosts
