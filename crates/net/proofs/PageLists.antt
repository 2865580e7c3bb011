-- The page list of the DF search: each reference is made for an entry station, a different one each time.
pub mod Entries
pub mod Often
