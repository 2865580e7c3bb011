-- What demands 2 and 3 ask, stated with walks and lists and not with the steps of a search. C-14: of two walks the one
-- of less time is less, then the one of fewer moves.
use Rattle.std.specs.Prelude.{◌≡◌, ◌≢◌, true, false, ℕ, suc, ◌+◌, ◌≤◌, ◌<◌, length, get_or, ltb}
use mathlib.Core.List.{List, Sublistᴰ, Memᴰ}
use Rattle.common.specs.Numbers.{no_time, no_moves, source_mark, no_pred}
use Rattle.common.specs.Costs.{NoMore}
use Rattle.common.specs.Chains.{pred_at}
use Rattle.net.specs.Net.{Page, bad, Frame, is_good, Goes, Walk, count, times_in, entry_stations, one_page_reads}

-- What tables of times and moves say of station v.
abbrev pub time_at : List ℕ → ℕ → ℕ
time_at times v = get_or times v no_time

abbrev pub moves_at : List ℕ → ℕ → ℕ
moves_at moves v = get_or moves v no_moves

module _ (F : Frame) (page : ℕ → Page) (source : ℕ) where
  -- The predecessors lead from v back to the source, along a walk that takes time t in m moves.
  pub data Spells (preds : List ℕ) : ℕ → ℕ → ℕ → Type 0 where
    at_source : pred_at preds source ≡ source_mark → Spells preds source 0 0
    step : {u t m : ℕ} (v w : ℕ) → pred_at preds v ≡ u → Goes F page u v w → Spells preds u t m
        → Spells preds v (t + w) (suc m)

  -- Demand 2, of the first N entries of three tables and the number of stations reached.
  pub record LeastTimes (times moves preds : List ℕ) (reached : ℕ) : Type 0 where
    pub sizes : (length times ≡ F.size) × (length moves ≡ F.size) × (length preds ≡ F.size)
    -- a station that has a time has a walk that takes this time in as many moves, and no walk is less
    pub walk : (v : ℕ) → time_at times v < no_time → Walk F page source v (time_at times v) (moves_at moves v)
    pub least : (v t m : ℕ) → Walk F page source v t m → NoMore (time_at times v) (moves_at moves v) t m
    -- a station has no time exactly when no walk leads there
    pub timed : (v t m : ℕ) → Walk F page source v t m → time_at times v < no_time
    -- the page of every station with a walk is good: a walk leaves only such stations, so that no walk is left out
    pub pages_good : (v t m : ℕ) → Walk F page source v t m → is_good (page (F.page_of v)) ≡ true
    pub untimed : (v : ℕ) → no_time ≤ time_at times v
        → (time_at times v ≡ no_time) × (moves_at moves v ≡ no_moves) × (pred_at preds v ≡ no_pred)
    -- the predecessors spell out such a walk, within N - 1 moves, and "the predecessor is the lowest station that
    -- gives both numbers"
    pub spells : (v : ℕ) → time_at times v < no_time
        → (moves_at moves v < F.size) × Spells preds v (time_at times v) (moves_at moves v)
    pub lowest : (u v w : ℕ) → v ≢ source → Goes F page u v w → time_at times u + w ≡ time_at times v
        → suc (moves_at moves u) ≡ moves_at moves v → pred_at preds v ≤ u
    pub count : reached ≡ count (λ v. ltb (time_at times v) no_time) F.size

  -- Which page is refused: that of the station, of all on bad pages, least by time, then moves and then number over
  -- walks.
  pub record RefusedPage (number p offset : ℕ) : Type 0 where
    pub station : ℕ
    pub time : ℕ
    pub moves : ℕ
    pub walk : Walk F page source station time moves
    pub on : F.page_of station ≡ p
    pub why : page p ≡ bad number offset
    pub first : (v t m : ℕ) → Walk F page source v t m → is_good (page (F.page_of v)) ≡ false
        → NoMore time moves t m × (time ≡ t → moves ≡ m → station ≤ v)

  -- Demand 3, of our list and Dijkstra's.
  pub record ListOf (ours dijkstras : List ℕ) : Type 0 where
    pub part : Sublistᴰ ours dijkstras
    pub often : (p : ℕ) → times_in p ours ≤ entry_stations F page source ours p
    pub reads : one_page_reads ours ≤ one_page_reads dijkstras
    pub short : length ours ≤ F.size

-- Two nets agree on the pages of a list.
abbrev pub AgreeOn : List ℕ → (ℕ → Page) → (ℕ → Page) → Type 0
AgreeOn list page other = (p : ℕ) → Memᴰ p list → page p ≡ other p
