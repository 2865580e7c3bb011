-- The laws behind the functions' proofs. Other crates cite them as Rattle.whole.proofs.NAME.

-- The loop over the pages; what it means that the check accepts, and what it can say at all.
pub mod Pages
pub mod Accepted
pub mod Outcomes
