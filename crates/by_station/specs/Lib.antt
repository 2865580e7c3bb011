pub mod Next
pub mod Reached
pub mod Standing
