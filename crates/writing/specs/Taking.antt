-- The writer's memory while it takes the records one by one. For the code: nothing that is promised speaks of it.
use Rattle.std.specs.Prelude.{Bool, true, ◌<◌, ◌&&◌, List, [], ◌∷◌, ℕ, suc, ◌+◌, min, get_or, set, replicate, ltb, eqb}
use Rattle.std.specs.Prelude.{Option, Some, None}
use Rattle.common.specs.Pick.{pick}
use Rattle.commands.specs.Commands.{length_of}
use Rattle.page.specs.Good.{code_of}
use Rattle.move_record.specs.declared.MoveRecord.{MoveRecord}
use Rattle.move_record.specs.Records.{no_record}
use Rattle.roundtrip.specs.Written.{move_of, is_move, is_above}
use Rattle.writing.specs.declared.taking.Memory.{Memory}

-- Memory into which no record was taken.
abbrev pub empty : Memory
empty = record { records = replicate 12240 no_record; bytes = replicate 2048 0; latest = None; count = 0 }

-- Times and limits of a list's records are numbers of 16 bits.
abbrev pub Fits : List MoveRecord → Type 0
Fits records =
    (k : ℕ) → ((get_or records k no_record).time < 65536) × ((get_or records k no_record).limit < 65536)

-- The bytes that the moves of station u need.
abbrev pub bytes_of : List ℕ → ℕ → ℕ
bytes_of bytes u = get_or bytes u 0

-- The bytes of a record's command.
abbrev pub width_for : MoveRecord → ℕ
width_for r = length_of (code_of (move_of r))

-- Whether a record is above the latest one, if there is one.
abbrev pub above_latest : Option MoveRecord → MoveRecord → Bool
above_latest None r = true
above_latest (Some before) r = is_above before r

-- Whether the record at index i is taken: all before it were, and it is no fault of 19.
abbrev pub is_next : ℕ → Memory → ℕ → MoveRecord → Bool
is_next size m i r = (ltb size 2049 && eqb m.count i) && (is_move size r && above_latest m.latest r)

-- The memory with a record more. Past the number that a map can have a record is measured and not listed. A sum of
-- bytes grows no further than its entry holds, which is far past a page's.
abbrev pub with_record : Memory → ℕ → MoveRecord → Memory
with_record m i r = record {
  records = pick (ltb i 12240) (set m.records i r) m.records;
  bytes = set m.bytes r.from (min (bytes_of m.bytes r.from + width_for r) 65535);
  latest = Some r;
  count = suc i;
}

unfoldable pub take_of : ℕ → Memory → ℕ → MoveRecord → Memory
take_of size m i r = pick (is_next size m i r) (with_record m i r) m

-- So many records taken one after the other, the first at index i; and all of a list, from empty memory on.
unfoldable pub taken : ℕ → Memory → ℕ → List MoveRecord → Memory
taken size m i [] = m
taken size m i (r ∷ rs) = taken size (take_of size m i r) (suc i) rs

abbrev pub taken_all : ℕ → List MoveRecord → Memory
taken_all size records = taken size empty 0 records
