pub mod PatternPosts
