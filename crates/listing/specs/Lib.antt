pub mod Found
pub mod Stations
