-- `Fit` is about the call's tests and `Table` about its table; `Chain` and `Held` about the ring of the pages held,
-- `Leaving` about the way along it, `Referring` about a reference, and `Replaying` about a list of them.
pub mod Fit
pub mod Table
pub mod Chain
pub mod Held
pub mod Leaving
pub mod Referring
pub mod Replaying
