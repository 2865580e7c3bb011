-- A coil record's numbers, and the lines that the program `coils` prints by them (01, "Route, whole check, program"),
-- as lists of bytes. Which of the two, and by which search: coil/specs/Program.antt, `line_of` and `record_line`.
use Rattle.std.specs.Prelude.{List, ◌++◌, ℕ, ◌+◌, ◌*◌}
use Rattle.image.specs.Bytes.{word}
use Rattle.text.specs.Text.{ascii, named}

-- "Whole numbers are little-endian": the u32 at an offset.
abbrev pub long : List ℕ → ℕ → ℕ
long s at = word s at + 65536 * word s (at + 2)

-- "8-byte records on standard input: u32 coil, u16 length in decimetres, u16 station"
abbrev pub coil_of : List ℕ → ℕ
coil_of bytes = long bytes 0

abbrev pub length_of : List ℕ → ℕ
length_of bytes = word bytes 4

abbrev pub station_of : List ℕ → ℕ
station_of bytes = word bytes 6

-- "one line: its coil, length and station in decimal,
unfoldable pub source_words : ℕ → ℕ → ℕ → List ℕ
source_words coil length station = named "coil " coil ++ named " length " length ++ named " from " station

-- then the list count (pages) and the number of stations reached;
-- as `coil 7 length 8120 from 0 pages 3 reached 7`
unfoldable pub accepted_line : ℕ → ℕ → ℕ → ℕ → ℕ → List ℕ
accepted_line coil length station count reached =
    source_words coil length station ++ named " pages " count ++ named " reached " reached ++ ascii "\n"

-- at every refusal only coil and refusal number."
-- as `coil 8 refused 6`
unfoldable pub refusal_line : ℕ → ℕ → List ℕ
refusal_line coil number = named "coil " coil ++ named " refused " number ++ ascii "\n"
