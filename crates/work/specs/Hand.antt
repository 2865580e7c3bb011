-- The run as the engine makes it: its memory between two references, and in the midst of one, with a page in hand.
use Rattle.std.specs.Prelude.{◌≡◌, List, map, ℕ, suc, ◌+◌, ◌<◌, length, get_or}
use Rattle.net.specs.Net.{Move}
use Rattle.net.specs.Search.{State, going}
use Rattle.net.specs.Run.{turn_limit, after_references, InHand}
use Rattle.layout.specs.Rows.{entry_of, Laid}
use Rattle.cells.specs.declared.Memory.{Memory}
use Rattle.work.specs.Board.{Serving, frame_of, least_on, Board}

-- The state of a search after k references.
abbrev pub state_after : Serving → ℕ → State
state_after q k = after_references q.df (frame_of q) q.page q.source k

-- The working memory stands for the state after k references: the search goes on, and no page is in hand.
pub record Stands (q : Serving) (k : ℕ) (places : List ℕ) (m : Memory) : Type 0 where
  pub going : (state_after q k).halt ≡ going
  pub board : Board q places 256 (state_after q k) m

-- The moves of a station as a row.
abbrev pub rows_of : List Move → List ℕ
rows_of = map (λ m. entry_of m.time m.target)

-- Good page p has been in hand for some turns since k references, and gets so many more: the rows of its stations are
-- laid out, the memory stands for the state reached, and `least` is the least key of those that wait on p.
pub record Hand (q : Serving) (k p : ℕ) (places layout : List ℕ) (left least : ℕ) (m : Memory) : Type 0 where
  pub moves : ℕ → List Move
  pub turns : ℕ
  pub state : State
  pub in_hand : InHand q.df (frame_of q) q.page q.source k p moves turns state
  pub count : turns + left ≡ turn_limit q.df (frame_of q)
  pub size : length layout ≡ 17152
  pub page : p < 256
  pub rows : (v : ℕ) → v < length q.directory → get_or q.directory v 0 ≡ p → Laid layout p v (rows_of (moves v))
  pub board : Board q places p state m
  pub key : least ≡ least_on places m.waiting p

-- The page is in hand in some search; and with its turns made, that search is one reference further.
abbrev pub Working : ℕ → List ℕ → List ℕ → ℕ → ℕ → Memory → Type 0
Working p places layout left least m = (q : Serving) × (k : ℕ) × Hand q k p places layout left least m

abbrev pub Worked : ℕ → List ℕ → List ℕ → ℕ → ℕ → Memory → Memory → Type 0
Worked p places layout left least m after =
    (q : Serving) (k : ℕ) → Hand q k p places layout left least m → Stands q (suc k) places after
