pub mod Answers
pub mod Next
pub mod Passing
