-- The laws behind the functions' proofs.
pub mod Answering
pub mod Turns
