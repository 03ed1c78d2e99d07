pub mod AnswerPosts
pub mod Written
