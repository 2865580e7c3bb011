pub mod Board
pub mod Hand
