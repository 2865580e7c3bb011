-- The laws behind the loops: one record more that is put or taken, and what a reading that was filled in promises.

pub mod Steps
pub mod Filling
