pub mod Places
pub mod Rows
pub mod Due
pub mod Counting
