-- Where a walk of an image's records stands: at a station, and on each page at an offset. For the code: nothing that is
-- promised speaks of it.
use Rattle.std.specs.Prelude.{◌≡◌, ◌≢◌, List, [], ◌∷◌, ◌++◌, map, ℕ, ◌+◌, ◌-◌, ◌≤◌, ◌<◌, length, get_or, Option, Some}
use Rattle.std.specs.Prelude.{None}
use Rattle.image.specs.Image.{station_count, page_count, directory_of}
use Rattle.commands.specs.declared.Move.{Move}
use Rattle.commands.specs.Commands.{length_of}
use Rattle.move_record.specs.declared.MoveRecord.{MoveRecord}
use Rattle.roundtrip.specs.Records.{record_for, records_from}
use Rattle.by_station.specs.Reached.{Reached}

-- Page p is read up to its next station, of those from u on, and past that station's own command.
pub record Entered (image : List ℕ) (p u at : ℕ) : Type 0 where
  pub before : ℕ
  pub behind : at ≡ before + length_of 1
  pub reached : Reached image p u before []

abbrev pub page_at : List ℕ → ℕ → ℕ
page_at image u = get_or (directory_of image) u 0

-- The records of the stations behind station u.
abbrev pub records_behind : List ℕ → ℕ → List MoveRecord
records_behind image u = records_from image (station_count image - (u + 1)) (u + 1)

-- These records are left: at station u so many moves, which stand on its page, and the records of the stations behind
-- it, whose pages have been entered. Where all stations came, nothing is left.
pub record Standing (image : List ℕ) (u : ℕ) (offsets : List ℕ) (left : List MoveRecord) : Type 0 where
  pub pages : length offsets ≡ 256
  pub came : u ≤ station_count image
  pub moves : List Move
  pub over : station_count image ≤ u → moves ≡ []
  pub own : u < station_count image → Reached image (page_at image u) (u + 1) (get_or offsets (page_at image u) 0) moves
  pub others : (p : ℕ) → p < page_count image → page_at image u ≢ p → Entered image p u (get_or offsets p 0)
  pub records : left ≡ map (record_for u) moves ++ records_behind image u

-- The first of the records that were left is found, and the others are left behind it; or none was left.
abbrev pub Stepped : List ℕ → List MoveRecord → Option MoveRecord → List ℕ → Type 0
Stepped image left (Some r) offsets =
    (rest : List MoveRecord) × (left ≡ r ∷ rest) × Standing image r.from offsets rest
Stepped image left None offsets = left ≡ []
