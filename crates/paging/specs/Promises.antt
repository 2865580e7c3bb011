-- What is promised of the store's replay (02, C-20), in the request's words.
use Rattle.std.specs.Prelude.{◌≡◌, ℕ, ◌≤◌}
use mathlib.Core.List.{List, [], Memᴰ}
use Rattle.net.specs.Net.{one_page_reads}
use Rattle.paging.specs.Store.{lru_reads_from, Replay, reads, replay}

-- "D at least every distance"
abbrev pub AtLeastEvery : ℕ → List ℕ → Type 0
AtLeastEvery threshold distances = (d : ℕ) → Memᴰ d distances → d ≤ threshold

pub record ReplayPromised (list : List ℕ) (pages frames : ℕ) (distances : List ℕ) (threshold : ℕ) (said : Replay)
    : Type 0 where
  pub outcome : said ≡ replay list pages frames distances threshold
  -- "With F 1 it equals the one_page reads."
  pub one-frame : (n : ℕ) → said ≡ reads n → frames ≡ 1 → n ≡ one_page_reads list
  -- "With D at least every distance it is plain least recently used .."
  pub plain : (n : ℕ) → said ≡ reads n → AtLeastEvery threshold distances → n ≡ lru_reads_from frames [] list
  -- ".. and there more frames never read more": nor do they with any other threshold.
  pub more_frames : (n more m : ℕ) → said ≡ reads n → frames ≤ more
      → replay list pages more distances threshold ≡ reads m → m ≤ n
