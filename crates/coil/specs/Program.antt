-- What the program `coils` writes, as a function of the two files that it reads (01, "Route, whole check, program"). No
-- contract can say what is read or written; the program is this function spread over time, a turn for each record. What
-- it decides is promised by `image_of` and `answer_turn` (src/program.rt), of whatever stands in the files.
use Rattle.std.specs.Prelude.{Bool, ◌≡◌, List, [], ◌++◌, ℕ, zero, suc, length, take, drop, leb, eqb}
use Rattle.common.specs.Pick.{pick}
use Rattle.common.specs.Window.{placed}
use Rattle.net.specs.Search.{df_search}
use Rattle.image.specs.Image.{Outcome, accepted, refused}
use Rattle.reply.specs.Reply.{Reply, asked, blank, searched}
use Rattle.text.specs.Text.{ascii}
use Rattle.line.specs.Line.{coil_of, length_of, station_of, accepted_line, refusal_line}

-- "reads `yard.map` (a file that can't be opened is empty; past 63,492 bytes it counts as 63,493 long)". So long a
-- map is refused by 4, or by what comes before it, whatever its bytes; a file that can't be opened is given as the
-- empty list.
abbrev pub map_of : List ℕ → List ℕ
map_of file = take 63493 file

-- "8-byte records on standard input": a record is there if the input has so many bytes.
abbrev pub has_record : List ℕ → Bool
has_record input = leb 8 (length input)

-- The line by the reply to a record's search.
abbrev pub line_by : Outcome → ℕ → List ℕ → List ℕ
line_by accepted coil line = line
line_by (refused number place) coil line = refusal_line coil number

abbrev pub line_of : ℕ → ℕ → ℕ → Reply → List ℕ
line_of coil length station r =
    line_by r.outcome coil (accepted_line coil length station r.count r.reached)

-- "Each record in turn gives the source of a DF search and one line". C-11: "the rule that length has no bearing on the
-- way is withdrawn", and "Searches take a length": the record's.
unfoldable pub record_line : List ℕ → List ℕ → List ℕ
record_line image bytes =
    line_of (coil_of bytes) (length_of bytes) (station_of bytes)
    (searched df_search (asked image (station_of bytes) (length_of bytes)) blank).reply

-- "One to seven bytes left over print a last line `short`."
abbrev pub left_over : List ℕ → List ℕ
left_over input = pick (eqb (length input) 0) [] (ascii "short\n")

-- What a turn prints: the line of the input's first record, or what its bytes left over print.
unfoldable pub turn_of : List ℕ → List ℕ → List ℕ
turn_of image input = pick (has_record input) (record_line image (take 8 input)) (left_over input)

-- "Each record in turn gives .. one line". So many turns at most.
unfoldable pub lines_from : ℕ → List ℕ → List ℕ → List ℕ
lines_from zero image input = []
lines_from (suc most) image input =
    let following = lines_from most image (drop 8 input) in
    turn_of image input ++ pick (has_record input) following []

abbrev pub printed : List ℕ → List ℕ → List ℕ
printed file input = lines_from (suc (length input)) (map_of file) input

-- What reading leaves: so many bytes at the buffer's front, which are those of the file or input that is read, all of
-- them or as many as the buffer has room for. For any bytes there is such a source (proofs/Turns.antt).
abbrev pub ReadFrom : List ℕ → List ℕ → ℕ → Type 0
ReadFrom source buffer size = take size buffer ≡ take (length buffer) source

-- A turn's output at the front of the line's buffer, and the bytes behind it kept; how many bytes are printed; and
-- whether another turn follows.
pub record Turned (image input before after : List ℕ) (printed : ℕ) (more : Bool) : Type 0 where
  pub line : after ≡ placed before 0 (turn_of image input)
  pub size : printed ≡ length (turn_of image input)
  pub follows : more ≡ has_record input
