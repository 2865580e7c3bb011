-- What a good page is (01, "A good page .."): its content, and the bytes that the content spells.
use Rattle.std.specs.Prelude.{◌≡◌, List, [], ◌∷◌, map, ℕ, suc, ◌+◌, ◌/◌, ◌%◌, ◌≤◌, ◌<◌, length, replicate, eqb}
use Rattle.common.specs.Pick.{pick}
use Rattle.commands.specs.declared.Move.{Move}
use Rattle.page.specs.Reading.{Leaving}

-- The stations that the directory gives page p, rising; the directory's first entry is that of station i.
unfoldable pub stations_from : ℕ → ℕ → List ℕ → List ℕ
stations_from p i [] = []
stations_from p i (d ∷ ds) = let rest = stations_from p (suc i) ds in pick (eqb d p) (i ∷ rest) rest

abbrev pub stations_on : List ℕ → ℕ → List ℕ
stations_on directory p = stations_from p 0 directory

-- "Targets of one station rise strictly, are below N and differ from the station itself"; a time is at most 65,535, and
-- "Time 0 is accepted" (C-15). C-11: a limit is 1 to 65,535, and 0 where there is none.
pub record GoodMove (size own least : ℕ) (m : Move) : Type 0 where
  pub rising : least ≤ m.target
  pub below : m.target < size
  pub other : m.target ≡ own → ⊥
  pub time_fits : m.time < 65536
  pub limit_fits : m.limit < 65536

abbrev pub GoodMoves : ℕ → ℕ → ℕ → List Move → Type 0
GoodMoves size own least [] = Unit {0}
GoodMoves size own least (m ∷ moves) = GoodMove size own least m × GoodMoves size own (m.target + 1) moves

abbrev pub GoodStations : ℕ → List Leaving → Type 0
GoodStations size [] = Unit {0}
GoodStations size (x ∷ xs) = (x.station < size) × GoodMoves size x.station 0 x.moves × GoodStations size xs

abbrev pub names : List Leaving → List ℕ
names stations = map (λ (x : Leaving). x.station) stations

-- "A good page names exactly the stations that the directory gives it, rising"
pub record GoodContent (directory : List ℕ) (p : ℕ) (stations : List Leaving) : Type 0 where
  pub named : names stations ≡ stations_on directory p
  pub fine : GoodStations (length directory) stations

-- The bytes that a content spells. A move is spelled as `02` if it has no limit, and as `03` if it has one.
abbrev pub code_of : Move → ℕ
code_of m = pick (eqb m.limit 0) 2 3

abbrev pub spell_limit : ℕ → List ℕ → List ℕ
spell_limit limit rest = pick (eqb limit 0) rest (limit % 256 ∷ limit / 256 ∷ rest)

abbrev pub spell_move : Move → List ℕ → List ℕ
spell_move m rest =
    code_of m ∷ m.target % 256 ∷ m.target / 256 ∷ m.time % 256 ∷ m.time / 256 ∷ spell_limit m.limit rest

unfoldable pub spell_moves : List Move → List ℕ → List ℕ
spell_moves [] rest = rest
spell_moves (m ∷ moves) rest = spell_move m (spell_moves moves rest)

unfoldable pub spell_stations : List Leaving → List ℕ → List ℕ
spell_stations [] rest = rest
spell_stations (x ∷ xs) rest = 1 ∷ x.station % 256 ∷ x.station / 256 ∷ spell_moves x.moves (spell_stations xs rest)

-- The content's bytes, one `00`, and zeros to the end.
abbrev pub spelled : List Leaving → ℕ → List ℕ
spelled stations zeros = spell_stations stations (0 ∷ replicate zeros 0)
