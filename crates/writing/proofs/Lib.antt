-- The laws behind the functions' proofs. Other crates cite them as Rattle.writing.proofs.NAME.

-- Records taken one by one: what taking keeps, how many are taken, and what is kept of them.
pub mod Taken
pub mod Counted
-- The sums of the pages.
pub mod Sums
-- What an image of bytes says of its records.
pub mod Fitting
-- What the writer promises.
pub mod Finished
