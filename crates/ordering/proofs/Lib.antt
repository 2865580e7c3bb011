pub mod Members
pub mod Equal
pub mod Total
pub mod Searches
pub mod Promising
