pub mod TypePost
