-- The queue of pages: 256 leaves, one for each page, then 16 groups, each the least of its 16 leaves.
use Rattle.std.specs.Prelude.{◌≡◌, ◌≢◌, List, ℕ, ◌+◌, ◌*◌, ◌/◌, ◌<◌, length, get_or}
use Rattle.queue.specs.Keys.{least_from}

-- Every group holds the least of its leaves.
pub record Groups (queue : List ℕ) : Type 0 where
  pub size : length queue ≡ 272
  pub group : (g : ℕ) → g < 16 → get_or queue (256 + g) 0 ≡ least_from queue (16 * g) 16

-- In the queue `after` the leaf of page p is `key`, and that of every other page is what it was before.
pub record Put (before : List ℕ) (p key : ℕ) (after : List ℕ) : Type 0 where
  pub groups : Groups after
  pub same : get_or after p 0 ≡ key
  pub other : (q : ℕ) → q < 256 → q ≢ p → get_or after q 0 ≡ get_or before q 0

-- The leaves of the groups, by fours, that the first `pages` pages are in.
abbrev pub leaves_of : ℕ → ℕ
leaves_of pages = 16 * ((pages + 63) / 64 * 4)
