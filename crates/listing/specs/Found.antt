-- What the reader's answer says in the papers' numbers and values; and what it left in memory.
use Rattle.std.specs.Prelude.{◌≡◌, List, ℕ, ◌≤◌, length, take, Result, Ok, Err}
use Rattle.image.specs.Image.{Outcome, accepted, refused, number_of, place_of}
use Rattle.image.specs.declared.Refusal.{Refusal}
use Rattle.whole.specs.Check.{whole_check}
use Rattle.move_record.specs.declared.MoveRecord.{MoveRecord}
use Rattle.roundtrip.specs.Records.{records_of, read_check}
use Rattle.roundtrip.specs.Promises.{WritesBack}

abbrev pub outcome_in : Result ℕ Refusal → Outcome
outcome_in (Ok count) = accepted
outcome_in (Err refusal) = refused (number_of refusal) (place_of refusal)

abbrev pub count_in : Result ℕ Refusal → ℕ
count_in (Ok count) = count
count_in (Err refusal) = 0

-- The records of an image were found: as many as are answered, and each is kept.
pub record Found (image : List ℕ) (room : ℕ) (r : Result ℕ Refusal) (kept : List MoveRecord) : Type 0 where
  pub outcome : outcome_in r ≡ read_check image room
  pub count : outcome_in r ≡ accepted → count_in r ≡ length (records_of image)
  pub records : outcome_in r ≡ accepted → take (count_in r) kept ≡ records_of image
  pub fits : count_in r ≤ room
  pub few : count_in r ≤ 12240
  pub writes_back : whole_check image ≡ accepted → WritesBack image
