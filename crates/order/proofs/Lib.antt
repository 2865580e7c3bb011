-- The laws behind the functions' proofs. Other crates cite them as Rattle.order.proofs.NAME.

-- What two images have in common, passed; two walks side by side.
pub mod Listed
pub mod InCommon
pub mod Walking
-- What the library's comparisons say.
pub mod Ordered
