-- Image to records (02, C-16): the records of an image are the moves of its pages' contents, by (from, target) rising.
use Rattle.std.specs.Prelude.{List, [], ◌++◌, map, ℕ, zero, suc, length, get_or, drop, ltb}
use Rattle.common.specs.Pick.{pick}
use Rattle.image.specs.Image.{Outcome, accepted, refused, nowhere, after_heading, station_count, directory_of}
use Rattle.commands.specs.declared.Move.{Move}
use Rattle.page.specs.Reading.{Reading, good, bad, Leaving, reading_of, moves_in}
use Rattle.whole.specs.Check.{whole_check}
use Rattle.move_record.specs.declared.MoveRecord.{MoveRecord}

-- "(from, target, time, limit; limit 0 means `02`)": a move without a limit has limit 0 too.
abbrev pub record_for : ℕ → Move → MoveRecord
record_for u m = record { from = u; target = m.target; time = m.time; limit = m.limit }

-- The content of a page: its stations, each with its moves. A bad page has none.
abbrev pub content_in : Reading → List Leaving
content_in (good moves stations) = stations
content_in (bad number offset) = []

-- The records of station u: its moves, which stand on its page, in page order and so by rising target.
unfoldable pub records_at : List ℕ → ℕ → List MoveRecord
records_at image u = map (record_for u) (moves_in (content_in (reading_of image (get_or (directory_of image) u 0))) u)

-- Those of so many stations by rising number, from station u on.
unfoldable pub records_from : List ℕ → ℕ → ℕ → List MoveRecord
records_from image zero u = []
records_from image (suc count) u = records_at image u ++ records_from image count (suc u)

abbrev pub records_of : List ℕ → List MoveRecord
records_of image = records_from image (station_count image) 0

-- What the reading call hands back.
pub record Listing : Type 0 where
  pub outcome : Outcome
  pub count : ℕ
  pub list : List MoveRecord

abbrev pub listing : Outcome → ℕ → List MoveRecord → Listing
listing outcome count list = record { outcome = outcome; count = count; list = list }

-- "Reading does the whole check, only then refuses too short a record list with 7"
unfoldable pub read_check : List ℕ → ℕ → Outcome
read_check image room =
    after_heading (whole_check image) (pick (ltb room (length (records_of image))) (refused 7 nowhere) accepted)

-- "writes the records to the list's front and answers their count"; later entries are kept, and at a refusal all.
abbrev pub listed : Outcome → List ℕ → List MoveRecord → Listing
listed accepted image list =
    listing accepted (length (records_of image)) (records_of image ++ drop (length (records_of image)) list)
listed (refused number place) image list = listing (refused number place) 0 list

unfoldable pub read_call : List ℕ → List MoveRecord → Listing
read_call image list = listed (read_check image (length list)) image list
