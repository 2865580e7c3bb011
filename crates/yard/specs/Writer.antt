-- What the map writer's two calls promise as C calls: their outcome in the caller's numbers and, of that outcome and of
-- what the call left in the lent list or buffer, all that the call promises every caller
-- (roundtrip/specs/Promises.antt).
use Rattle.std.specs.Prelude.{◌≡◌, List, ℕ}
use Rattle.move_record.specs.declared.MoveRecord.{MoveRecord}
use Rattle.roundtrip.specs.Records.{listing, read_call}
use Rattle.roundtrip.specs.Written.{writing, write_call}
use Rattle.roundtrip.specs.Promises.{ReadPromised, WritePromised}
use Rattle.telling.specs.Numbers.{told, told_by, of_read, of_written}

pub record ReadTold (image : List ℕ) (list left : List MoveRecord) (status : ℕ) (before answer : List ℕ) : Type 0 where
  pub outcome : told status answer
      ≡ told_by (of_read (read_call image list).outcome (read_call image list).count) before
  pub promised : ReadPromised image list
      (listing (read_call image list).outcome (read_call image list).count left)

pub record WriteTold (size pages : ℕ) (directory : List ℕ) (records : List MoveRecord) (buffer left : List ℕ)
    (status : ℕ) (before answer : List ℕ) : Type 0 where
  pub outcome : told status answer
      ≡ told_by (of_written (write_call size pages directory records buffer).outcome) before
  pub promised : WritePromised size pages directory records buffer
      (writing (write_call size pages directory records buffer).outcome left)
