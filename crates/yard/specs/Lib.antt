pub mod Order
pub mod Replay
pub mod Searches
pub mod Writer
