pub mod Panel
pub mod Promises
