pub mod Answers
pub mod Ring
