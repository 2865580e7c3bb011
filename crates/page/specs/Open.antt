-- The moves that are open to a strip of a length (02, C-11).
use Rattle.std.specs.Prelude.{Bool, ◌||◌, List, [], ◌∷◌, ℕ, eqb, leb}
use Rattle.common.specs.Pick.{pick}
use Rattle.commands.specs.declared.Move.{Move}

-- "use a move only if its limit isn't below it; `02` has no limit"
abbrev pub is_open : ℕ → Move → Bool
is_open strip m = eqb m.limit 0 || leb strip m.limit

-- Of a station's moves those that are open, in page order.
unfoldable pub open_to : ℕ → List Move → List Move
open_to strip [] = []
open_to strip (m ∷ moves) = let rest = open_to strip moves in pick (is_open strip m) (m ∷ rest) rest
