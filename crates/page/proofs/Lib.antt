-- The laws behind the functions' proofs. Other crates cite them as Rattle.page.proofs.NAME.

-- The page reader, what a reading depends on, and what a good page is and promises.
pub mod Reading
pub mod Agree
pub mod Good
-- Which moves are open to a strip.
pub mod Open
-- How large the numbers of a page's fault can be.
pub mod Offsets
