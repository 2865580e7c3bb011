pub mod Cases
pub mod Limits
pub mod Moves
pub mod Handover
pub mod Records
pub mod Order
pub mod Wrong
