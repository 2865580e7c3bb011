pub mod Store
pub mod Promises
