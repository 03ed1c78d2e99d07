pub mod HeadPost
pub mod Leaves
pub mod TypeEnds
