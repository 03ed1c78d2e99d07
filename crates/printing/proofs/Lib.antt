pub mod Texts
pub mod Writes
pub mod AnswerTexts
pub mod NumberedAnswers
pub mod AnswerPres
