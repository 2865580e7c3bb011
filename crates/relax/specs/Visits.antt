-- The moves of a station relaxed on a search's working memory, and a station visited.
use Rattle.std.specs.Prelude.{◌≡◌, List, [], ◌∷◌, ℕ, ◌+◌, ◌/◌, ◌%◌, ◌≤◌, length, get_or, set}
use Rattle.common.specs.Numbers.{nobody}
use Rattle.common.specs.Costs.{cost}
use Rattle.layout.specs.Places.{slot_of}
use Rattle.layout.specs.Rows.{end_of, row_of}
use Rattle.cells.specs.declared.Memory.{Memory}
use Rattle.cells.specs.Cells.{memory, Relaxed, PlacedAt}

-- The cost of a move of the greatest time that a row can hold, 32 bits less those of the target.
abbrev pub longest : ℕ
longest = cost 2097151 1

-- "sum = time of u + move time", and one move more; "relax its moves in page order": these rows have been relaxed for
-- station u, which has this cost, each on what the one before it left. A row is a move's time and its target, packed.
pub data Relaxing (places : List ℕ) (u held : ℕ) : List ℕ → Memory → Memory → Type 0 where
  none : {m : Memory} → Relaxing places u held [] m m
  more : {row : ℕ} {rows : List ℕ} {first next last : Memory} →
      Relaxed places u (row % 2048) (held + cost (row / 2048) 1) first next → Relaxing places u held rows next last →
      Relaxing places u held (row ∷ rows) first last

-- Station u no longer waits.
abbrev pub without_waiting : List ℕ → ℕ → Memory → Memory
without_waiting places u m = memory m.cells (set m.waiting (slot_of places u) nobody) m.queue

-- "mark the station fresh and relax its moves": at the cost that its cell has.
pub record Visited (places layout : List ℕ) (u : ℕ) (before after : Memory) : Type 0 where
  pub relaxing : Relaxing places u (get_or before.cells u 0 / 2048) (row_of layout u) (without_waiting places u before)
      after

-- Every one of some rows leads to a station that has a slot and a page.
abbrev pub Targets : List ℕ → List ℕ → Type 0
Targets places [] = Unit {0}
Targets places (row ∷ rows) = PlacedAt places (row % 2048) × Targets places rows

-- The row of station u lies inside the layout, and its moves lead to such stations.
pub record LaidOut (places layout : List ℕ) (u : ℕ) : Type 0 where
  pub size : length layout ≡ 17152
  pub within : end_of layout u ≤ 17152
  pub targets : Targets places (row_of layout u)
