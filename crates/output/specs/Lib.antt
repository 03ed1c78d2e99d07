pub mod OutPosts
