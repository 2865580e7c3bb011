-- What the pages are written from: a buffer of whole pages, into which what each page has to say fits.
use Rattle.std.specs.Prelude.{◌≡◌, List, ℕ, ◌*◌, ◌/◌, ◌≤◌, ◌<◌, length, get_or}
use Rattle.move_record.specs.declared.MoveRecord.{MoveRecord}
use Rattle.roundtrip.specs.Written.{need_of}
use Rattle.imaging.specs.Runs.{ByStation}

pub record Fitting (directory : List ℕ) (records : List MoveRecord) (room : ℕ) : Type 0 where
  pub whole : room ≡ 256 * (room / 256)
  pub stations_most : length directory ≤ 2048
  pub paged : (u : ℕ) → u < length directory → get_or directory u 0 < room / 256
  pub by_station : ByStation 0 records
  pub all_fit : (p : ℕ) → p < room / 256 → need_of directory records p ≤ 256
