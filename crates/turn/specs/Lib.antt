pub mod Progress
pub mod TurnPosts
