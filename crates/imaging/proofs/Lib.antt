-- The laws behind the functions' proofs.

-- Entries placed in a table, one after the other, and in one of several parts.
pub mod Placing
-- What stations and moves are spelled as, one after the other; and a move put part by part.
pub mod Spelling
-- The run of a station's records, and that records by rising station are such runs.
pub mod Runs
-- The loop over a station's moves.
pub mod Moves
-- The loop over the stations, and the whole image.
pub mod Pages
