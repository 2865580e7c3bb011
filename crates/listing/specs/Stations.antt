-- What keeping the records of one station leaves. For the code: nothing that is promised speaks of it.
use Rattle.std.specs.Prelude.{◌≡◌, List, [], ◌++◌, ℕ, ◌+◌, length, take}
use Rattle.move_record.specs.declared.MoveRecord.{MoveRecord}
use Rattle.roundtrip.specs.Records.{records_at}
use Rattle.by_station.specs.Reached.{Reached}

-- The records of station u are kept behind the first so many of before, and its page p is read up to an offset behind
-- its moves.
pub record StationKept (image : List ℕ) (p u first : ℕ) (before : List MoveRecord) (at count : ℕ)
    (kept : List MoveRecord) : Type 0 where
  pub memory : length kept ≡ length before
  pub reached : Reached image p (u + 1) at []
  pub counted : count ≡ first + length (records_at image u)
  pub records : take count kept ≡ take first before ++ records_at image u
