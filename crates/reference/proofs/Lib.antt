pub mod Fetching
pub mod Referring
