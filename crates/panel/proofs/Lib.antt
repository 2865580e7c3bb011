-- The laws behind the functions' proofs: whole numbers as floats and that no float can be read in two ways; what the
-- answer is by the search; and what is promised of it.

pub mod Floats
pub mod Readings
pub mod Answers
pub mod Promising
