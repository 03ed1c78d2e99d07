pub mod Post
pub mod Frames
