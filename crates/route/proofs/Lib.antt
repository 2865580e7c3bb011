pub mod Course
pub mod Steps
pub mod Counting
pub mod Writing
pub mod Routes
pub mod Positions
pub mod Calls
pub mod Laws
