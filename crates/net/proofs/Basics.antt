-- Laws that name no net: tests, counting, the least of a range and of its groups, iteration, page lists and marks.
pub mod Tests
pub mod Iterate
pub mod Least
pub mod Groups
pub mod Count
pub mod Lists
pub mod Marks
