pub mod Reply
pub mod Answering
