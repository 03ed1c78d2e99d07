pub mod Machine
pub mod OpenNodes
pub mod Turns
pub mod TypingPosts
