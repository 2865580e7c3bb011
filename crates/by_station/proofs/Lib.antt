-- The laws behind the functions' proofs. Other crates cite them as Rattle.by_station.proofs.NAME.

-- How far a page is read.
pub mod Reached
-- Where a walk of all records stands.
pub mod Standing
