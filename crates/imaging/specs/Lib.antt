pub mod Shaped
pub mod Put
pub mod Runs
pub mod Fitting
