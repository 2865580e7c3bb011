-- For the code: what the cells of a search that has ended show. A cell holds a station's cost and predecessor
-- (work/specs/Board.antt, `CellIs`); where a bad page ended the search, each shows nothing.
use Rattle.std.specs.Prelude.{◌≡◌, Bool, List, ℕ, ◌/◌, ◌%◌, ◌<◌, min, get_or, ltb, eqb}
use Rattle.common.specs.Numbers.{source_mark, no_pred, nobody}
use Rattle.common.specs.Costs.{time_in, moves_in, no_cost}
use Rattle.common.specs.Pick.{pick}
use Rattle.net.specs.Net.{count}

abbrev pub shown : Bool → ℕ → ℕ
shown over cell = pick over cell nobody

-- The cost and the predecessor in a cell. The source's cell is 0, as no other is: every other way has a move.
abbrev pub cost_in : ℕ → ℕ
cost_in cell = min (cell / 2048) no_cost

abbrev pub pred_in : ℕ → ℕ
pred_in cell = pick (eqb cell 0) source_mark (pick (ltb (cell / 2048) no_cost) (cell % 2048) no_pred)

-- The first n entries of a table are those of f.
abbrev pub Shows : (ℕ → ℕ) → ℕ → List ℕ → Type 0
Shows f n table = (v : ℕ) → v < n → get_or table v 0 ≡ f v

-- The tables once the cells of the first n stations are written, and how many of these have a time.
pub record Finished (over : Bool) (cells : List ℕ) (n : ℕ) (t w p m : List ℕ) (r : ℕ) : Type 0 where
  pub times : Shows (λ v. time_in (cost_in (shown over (get_or cells v 0)))) n t
  pub moves : Shows (λ v. moves_in (cost_in (shown over (get_or cells v 0)))) n w
  pub preds : Shows (λ v. pred_in (shown over (get_or cells v 0))) n p
  pub marks : Shows (λ v. 0) n m
  pub reached : r ≡ count (λ v. ltb (cost_in (shown over (get_or cells v 0))) no_cost) n
