-- The moves of each station as a row of numbers. `layout` has 17,152 entries: entry v is where the row of station v
-- begins, entry 2048 + v where it ends (0 until it has been laid out); from 4096 on the rows stand, in room for 51
-- moves for each of 256 pages. Begins and ends are indexes into the same table.
use Rattle.std.specs.Prelude.{◌≡◌, List, ℕ, ◌+◌, ◌-◌, ◌*◌, ◌≤◌, get_or, take, drop}

-- A move in a row: its time, then its target, which is below 2048.
abbrev pub entry_of : ℕ → ℕ → ℕ
entry_of time target = time * 2048 + target

abbrev pub begin_of : List ℕ → ℕ → ℕ
begin_of layout v = get_or layout v 0

abbrev pub end_of : List ℕ → ℕ → ℕ
end_of layout v = get_or layout (2048 + v) 0

abbrev pub row_of : List ℕ → ℕ → List ℕ
row_of layout v = take (end_of layout v - begin_of layout v) (drop (begin_of layout v) layout)

-- The row of station v, which is on page p, has been laid out, in its page's room.
pub record Laid (layout : List ℕ) (p v : ℕ) (row : List ℕ) : Type 0 where
  pub begins : 4096 + 51 * p ≤ begin_of layout v
  pub ordered : begin_of layout v ≤ end_of layout v
  pub ends : end_of layout v ≤ 4096 + 51 * p + 51
  pub entries : row_of layout v ≡ row
