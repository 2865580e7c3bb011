-- The laws behind the functions' proofs: how small the numbers told are.

pub mod Small
pub mod Told
