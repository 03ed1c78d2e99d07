pub mod Rows
pub mod Subtree
pub mod SplicePosts
