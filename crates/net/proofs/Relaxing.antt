-- What relaxing moves does to a state: to its list and halt, to its tables entry by entry, and to what its costs
-- mean.
pub mod Log
pub mod Relax
pub mod Labels
