-- Keys: the number by which a station waits, and the least of some keys.
use Rattle.std.specs.Prelude.{List, [], ◌∷◌, ℕ, ◌+◌, ◌*◌, min, take, drop}
use Rattle.common.specs.Numbers.{nobody}

-- "take the one of least time, then lowest number", by C-14 of least time and then moves: a cost and a station, which
-- is below 2048, in one number. The lesser number has the lesser cost, then the lower station (proofs/Keys.antt).
abbrev pub packed : ℕ → ℕ → ℕ
packed cost station = cost * 2048 + station

-- The least of some keys, that of nobody if there is none.
unfoldable pub least_in : List ℕ → ℕ
least_in [] = nobody
least_in (key ∷ keys) = min key (least_in keys)

-- The least of the `count` keys from `lo` on.
abbrev pub least_from : List ℕ → ℕ → ℕ → ℕ
least_from keys lo count = least_in (take count (drop lo keys))
