-- The laws behind the functions' proofs. Other crates cite them as Rattle.listing.proofs.NAME.

-- The records of an image by stations.
pub mod Records
-- The records of one station.
pub mod Station
-- The records of all stations, and what is answered.
pub mod Stations
pub mod Finding
