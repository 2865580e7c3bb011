-- What the writer's memory comes from: so many records of a list were taken into it. For the code: nothing that is
-- promised speaks of it.
use Rattle.std.specs.Prelude.{◌≡◌, List, ℕ, ◌<◌, length}
use Rattle.move_record.specs.declared.MoveRecord.{MoveRecord}
use Rattle.writing.specs.declared.taking.Memory.{Memory}
use Rattle.writing.specs.Taking.{taken_all}

-- The list of so many records, of which those that were taken are in this memory; and that as many as were taken can be
-- counted.
pub record Took (memory : Memory) (records size : ℕ) : Type 0 where
  pub list : List MoveRecord
  pub all : length list ≡ records
  pub taken : memory ≡ taken_all size list
  pub few : memory.count < 4294967296
