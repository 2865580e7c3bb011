pub mod Answers
pub mod Sums
pub mod Taking
pub mod Took
