pub mod Board
pub mod Choosing
pub mod Turning
