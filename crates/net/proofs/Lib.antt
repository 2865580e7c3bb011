-- `Laws` is the front page: every law about the searches that another crate cites, with the hypothesis `Sound`, in
-- terms of costs; `Ways` has those of times and moves, and `Runs` those of the engine's run. The folders are their
-- proof, from below: `Basics` (no net), `Relaxing` (moves), `Steps` (one step of a search), `Searches` (whole
-- searches), `PageLists` (how often a page is listed). `Fixed` says that the demands leave no freedom, and `Chains`
-- that by them every chain of predecessors ends at the source. `Course` needs the definitions alone, and comes first,
-- so that a wrong definition is refused by the course's numbers before any law.
pub mod Sound
pub mod LeastCosts
pub mod Fixed
pub mod Chains
pub mod Course
pub mod Basics
pub mod Relaxing
pub mod Steps
pub mod Searches
pub mod PageLists
pub mod Local
pub mod Laws
pub mod Ways
pub mod Runs
