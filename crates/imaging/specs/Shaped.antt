-- What the image is written from, once nothing is refused.
use Rattle.std.specs.Prelude.{◌≡◌, List, ℕ, ◌+◌, ◌*◌, ◌≤◌, ◌<◌, length, get_or}
use Rattle.move_record.specs.declared.MoveRecord.{MoveRecord}
use Rattle.roundtrip.specs.Written.{need_of, rising}

-- Neither of 2 to 5 refuses: `room` is the buffer's length.
pub record Shaped (size pages : ℕ) (directory : List ℕ) (room : ℕ) : Type 0 where
  pub stations_most : size ≤ 2048
  pub directory_length : length directory ≡ size
  pub total : room ≡ 4 + size + 256 * pages
  pub paged : (u : ℕ) → u < size → get_or directory u 0 < pages

-- Neither 19 nor 20 refuses.
pub record Writable (size pages : ℕ) (directory : List ℕ) (records : List MoveRecord) : Type 0 where
  pub all_rising : rising size records ≡ length records
  pub all_fit : (p : ℕ) → p < pages → need_of directory records p ≤ 256
