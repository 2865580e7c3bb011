-- `Held`, `Leaving` and `Room` say what a store holds; `OneFrame`, `Recency` and `Inclusion` each show one promise, and
-- `Promising` puts them together. `Most` says how many reads there can be. `Course` needs the definitions alone, and
-- comes first, so that a wrong definition is refused by the replay's numbers before any law.
pub mod Course
pub mod Held
pub mod Leaving
pub mod Room
pub mod OneFrame
pub mod Recency
pub mod Inclusion
pub mod Promising
pub mod Most
