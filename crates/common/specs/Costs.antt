-- C-14: how ways are compared, by time and then by the number of moves; and both as one number, the cost, by which the
-- searches compare them. That costs are ordered as times and moves are is a law (`costs_order`, proofs/Costs.antt), and
-- that this does for all walks and all steps of a search is another (net/specs/Ways.antt).
use Rattle.std.specs.Prelude.{◌≡◌, ℕ, suc, ◌+◌, ◌*◌, ◌/◌, ◌%◌, ◌≤◌, ◌<◌}
use Rattle.common.specs.Numbers.{no_time, no_moves}

-- "Less means less time, then fewer moves": time t in m moves is no more than time u in n moves.
abbrev pub NoMore : ℕ → ℕ → ℕ → ℕ → Type 0
NoMore t m u n = (t ≤ u) × (t ≡ u → m ≤ n)

-- The cost of a way that takes this time in so many moves; and the two numbers of a cost. C-15: a move may take time 0,
-- and costs 1 then, for being a move. So a way that goes round a cycle of such moves costs more than one that does not,
-- a least way passes no station twice, and no way back to the source is as good as not to leave it.
abbrev pub cost : ℕ → ℕ → ℕ
cost time moves = time * 65536 + moves

abbrev pub time_in : ℕ → ℕ
time_in c = c / 65536

abbrev pub moves_in : ℕ → ℕ
moves_in c = c % 65536

-- The cost of a station that no way leads to.
abbrev pub no_cost : ℕ
no_cost = cost no_time no_moves

-- Below 65,536 moves a cost has time and moves for its two numbers, and costs are ordered as these are.
pub record CostsOrder : Type 0 where
  pub numbers : (t m : ℕ) → m < 65536 → (time_in (cost t m) ≡ t) × (moves_in (cost t m) ≡ m)
  pub order : (t m u n : ℕ) → m < 65536 → n < 65536 → NoMore t m u n → cost t m ≤ cost u n
  pub ordered : (t m u n : ℕ) → m < 65536 → n < 65536 → cost t m ≤ cost u n → NoMore t m u n
  -- a move of time w costs 1 at least, and makes every way more
  pub onward : (t m w : ℕ) → (cost t m < cost (t + w) (suc m)) × (NoMore (t + w) (suc m) t m → ⊥)
