-- One step of either search: whom it chooses, what it keeps, and that the page loop ends. And one reference of the run:
-- who waits, what its turns and visits keep, and that it is a DF step without settled flags.
pub mod Choose
pub mod Waiting
pub mod Invariant
pub mod PageLoop
pub mod Visits
pub mod Unsettled
pub mod Turns
pub mod Waking
pub mod Reference
