-- The laws behind the functions' proofs: refusals 1 to 7, the tables written at the end, what lent tables have no
-- bearing on; and of all searches the numbers of their refusals and their greatest time.

pub mod Checking
pub mod Searches
pub mod Written
pub mod Ending
pub mod Lending
pub mod Refusals
pub mod Greatest
