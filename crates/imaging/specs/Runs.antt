-- The moves of one station, where its records stand first among those that are left: what the code writes in one go.
use Rattle.std.specs.Prelude.{List, [], ◌∷◌, ℕ, ◌/◌, ◌%◌, ◌≤◌, eqb}
use Rattle.common.specs.Pick.{pick}
use Rattle.commands.specs.declared.Move.{Move}
use Rattle.page.specs.Good.{spell_moves}
use Rattle.move_record.specs.declared.MoveRecord.{MoveRecord}
use Rattle.roundtrip.specs.Written.{move_of}

-- The moves of the records at the front that are from station u.
unfoldable pub run_of : List MoveRecord → ℕ → List Move
run_of [] u = []
run_of (r ∷ rs) u = let rest = run_of rs u in pick (eqb r.from u) (move_of r ∷ rest) []

-- A station with its moves, as it is spelled.
abbrev pub station_bytes : ℕ → List Move → List ℕ
station_bytes u moves = 1 ∷ u % 256 ∷ u / 256 ∷ spell_moves moves []

-- The records are by rising station, from a least one on.
abbrev pub ByStation : ℕ → List MoveRecord → Type 0
ByStation least [] = Unit {0}
ByStation least (r ∷ rs) = (least ≤ r.from) × ByStation r.from rs
