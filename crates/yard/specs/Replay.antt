-- What the store's replay as a C call promises: its answer in the caller's numbers and, of that answer, all that the
-- replay promises every caller (paging/specs/Promises.antt).
use Rattle.std.specs.Prelude.{◌≡◌, List, ℕ}
use Rattle.paging.specs.Store.{replay}
use Rattle.paging.specs.Promises.{ReplayPromised}
use Rattle.telling.specs.Numbers.{told, told_by, of_replay}

pub record ReplayTold (list : List ℕ) (pages frames : ℕ) (distances : List ℕ) (threshold status : ℕ)
    (before answer : List ℕ) : Type 0 where
  pub outcome : told status answer ≡ told_by (of_replay (replay list pages frames distances threshold)) before
  pub promised : ReplayPromised list pages frames distances threshold
      (replay list pages frames distances threshold)
