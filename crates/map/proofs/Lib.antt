pub mod Offered
pub mod Soundness
