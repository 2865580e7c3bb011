-- A good page: its stations are the directory's, its moves keep their rules, and its bytes spell its content.

pub mod Spelling
pub mod Stations
pub mod Promise
pub mod Written
pub mod Moves
