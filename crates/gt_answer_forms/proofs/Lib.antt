pub mod AnswerForms
pub mod AnswerWords
pub mod Refusals
