pub mod ResultPosts
