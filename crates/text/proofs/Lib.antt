-- `Placing` and `Digits` are the laws behind the functions' proofs. `Decimal` says what the definition of decimal
-- digits gives.
pub mod Placing
pub mod Digits
pub mod Decimal
