-- Whole searches: what holds after any number of steps, that they end, what their tables then say; and the run of
-- references that each of them is.
pub mod Walks
pub mod Start
pub mod Run
pub mod Answer
pub mod Together
pub mod OneComparison
pub mod References
