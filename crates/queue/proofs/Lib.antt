-- The laws that callers cite (Keys, Least, Groups), and the scan of `least_key`.

pub mod Keys
pub mod Least
pub mod Groups
pub mod Scan
