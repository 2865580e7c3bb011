-- C-14: why one number will do for two. The searches compare costs, the demands speak of times and moves, and below
-- 65,536 moves both orders are the same (common/specs/Costs.antt). What is said here, and proved in proofs/Ways.antt,
-- is that this does for every walk and every step of a search: nobody has to believe the packing.
use Rattle.std.specs.Prelude.{◌≡◌, List, ℕ, ◌≤◌, ◌<◌}
use Rattle.common.specs.Numbers.{no_time}
use Rattle.common.specs.Costs.{NoMore, cost}
use Rattle.net.specs.declared.Choice.TheVariants.{Station}
use Rattle.net.specs.Net.{Move, Page, good, Frame, Walk}
use Rattle.net.specs.Search.{State, going, settle, with_page, cost_of, start, choose, iter, visit, work_turn}
use Rattle.net.specs.Search.{plain_visit, df_visit, none_or_less, step_by}

module _ (F : Frame) (page : ℕ → Page) (source : ℕ) where
  -- The state of either search after k steps; and of the DF search within its next step, for station u on a good page,
  -- when the page loop has taken j turns.
  abbrev pub after_plain : ℕ → State
  after_plain k = iter (step_by F (plain_visit F (none_or_less F) page)) k (start F source)

  abbrev pub after_df : ℕ → State
  after_df k = iter (step_by F (df_visit F (none_or_less F) page)) k (start F source)

  abbrev pub within_df : ℕ → ℕ → (ℕ → List Move) → ℕ → State
  within_df k u moves j =
      iter (work_turn F (none_or_less F) (F.page_of u) moves) j
      (visit F (none_or_less F) moves u (with_page (F.page_of u) (settle u (after_df k))))

  -- Neither number runs over: the time is less than that which stands for none, and there are fewer moves than
  -- stations.
  abbrev pub Fits : ℕ → ℕ → Type 0
  Fits t m = (t < no_time) × (m < F.size)

  -- A walk to v that is least of all walks to v, those that repeat stations too: by time and then moves, and by cost.
  pub record LeastWalk (v t m : ℕ) : Type 0 where
    pub walk : Walk F page source v t m
    pub fits : Fits t m
    pub least : (u n : ℕ) → Walk F page source v u n → NoMore t m u n
    pub cheapest : (u n : ℕ) → Walk F page source v u n → cost t m ≤ cost u n

  -- In a state of a search what a station has is none, or the cost of a walk whose numbers fit. So a sum that is formed
  -- from it has as many moves as there are stations at most.
  abbrev pub Held : State → Type 0
  Held s = s.halt ≡ going → (v : ℕ) → cost_of F s v < F.none
      → (t m : ℕ) × Walk F page source v t m × Fits t m × (cost_of F s v ≡ cost t m)

  -- What is proved of every map's net, which has at most 2,048 stations.
  pub record OneNumber : Type 0 where
    -- every station that a walk leads to has a least walk
    pub least : (v t m : ℕ) → Walk F page source v t m → (u n : ℕ) × LeastWalk v u n
    -- what stations have, after each step and within it
    pub plain : (k : ℕ) → Held (after_plain k)
    pub df : (k : ℕ) → Held (after_df k)
    pub turns : (k u j : ℕ) (moves : ℕ → List Move) → choose F (after_df k) ≡ Station u
        → page (F.page_of u) ≡ good moves → Held (within_df k u moves j)
    -- both searches settle the same stations, in rising order of their least walks: by time, then moves, then number
    pub alike : (k : ℕ) → choose F (after_plain k) ≡ choose F (after_df k)
    pub rising : (j k u v t m x n : ℕ) → j < k → choose F (after_df j) ≡ Station u → choose F (after_df k) ≡ Station v
        → LeastWalk u t m → LeastWalk v x n → NoMore t m x n × (t ≡ x → m ≡ n → u < v)
