-- The laws of the two tables, for the crates above: they cite them as Rattle.layout.proofs.NAME.

pub mod Slots
pub mod Due
pub mod Rows
-- How `places` is filled by counting.
pub mod Filling
