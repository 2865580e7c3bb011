-- Records to image (02, C-16): the image that the writer makes of records, page by page as contents are spelled
-- (page/specs/Good.antt), and what it refuses.
use Rattle.std.specs.Prelude.{Bool, not, ◌&&◌, ◌||◌, List, [], ◌∷◌, ◌++◌, map, ℕ, zero, suc, ◌+◌, ◌-◌, ◌*◌, ◌/◌, ◌%◌, length, ltb, eqb}
use Rattle.common.specs.Pick.{pick}
use Rattle.image.specs.Image.{Outcome, accepted, refused, nowhere, at_station, first_not_below}
use Rattle.commands.specs.declared.Move.{Move}
use Rattle.page.specs.Reading.{Leaving}
use Rattle.page.specs.Good.{stations_on, spell_stations, spelled}
use Rattle.move_record.specs.declared.MoveRecord.{MoveRecord}

-- The moves that the records give station u, in their order.
abbrev pub move_of : MoveRecord → Move
move_of r = record { target = r.target; time = r.time; limit = r.limit }

unfoldable pub moves_for : List MoveRecord → ℕ → List Move
moves_for [] u = []
moves_for (r ∷ rs) u = let rest = moves_for rs u in pick (eqb r.from u) (move_of r ∷ rest) rest

-- What page p has to say: its stations by the directory, rising, each with its moves.
abbrev pub leaving : List MoveRecord → ℕ → Leaving
leaving records u = record { station = u; moves = moves_for records u }

unfoldable pub content_for : List ℕ → List MoveRecord → ℕ → List Leaving
content_for directory records p = map (leaving records) (stations_on directory p)

-- The bytes that page p needs, its `00` counted.
unfoldable pub need_of : List ℕ → List MoveRecord → ℕ → ℕ
need_of directory records p = suc (length (spell_stations (content_for directory records p) []))

-- The page: what it has to say, `00`, and zeros to its end. So many pages by rising number, from page p on; and behind
-- heading and directory the pages of the map.
unfoldable pub page_for : List ℕ → List MoveRecord → ℕ → List ℕ
page_for directory records p = spelled (content_for directory records p) (256 - need_of directory records p)

unfoldable pub pages_for : List ℕ → List MoveRecord → ℕ → ℕ → List ℕ
pages_for directory records zero p = []
pages_for directory records (suc count) p = page_for directory records p ++ pages_for directory records count (suc p)

abbrev pub heading_for : ℕ → ℕ → List ℕ → List ℕ
heading_for size pages rest = size % 256 ∷ size / 256 ∷ pages % 256 ∷ pages / 256 ∷ rest

unfoldable pub written : ℕ → ℕ → List ℕ → List MoveRecord → List ℕ
written size pages directory records = heading_for size pages (directory ++ pages_for directory records pages 0)

-- 19: "the first record whose from or target isn't below N, whose target is its from, or that isn't above its
-- predecessor by (from, target)". The number of records that come before it, or of all.
abbrev pub is_move : ℕ → MoveRecord → Bool
is_move size r = ltb r.from size && (ltb r.target size && not (eqb r.target r.from))

abbrev pub is_above : MoveRecord → MoveRecord → Bool
is_above before r = ltb before.from r.from || (eqb before.from r.from && ltb before.target r.target)

unfoldable pub rising_after : ℕ → MoveRecord → List MoveRecord → ℕ
rising_after size before [] = 0
rising_after size before (r ∷ rs) =
    let rest = suc (rising_after size r rs) in pick (is_move size r && is_above before r) rest 0

unfoldable pub rising : ℕ → List MoveRecord → ℕ
rising size [] = 0
rising size (r ∷ rs) = let rest = suc (rising_after size r rs) in pick (is_move size r) rest 0

-- 20: "the lowest page that needs more than 256 bytes", of so many pages from page p on, or the number behind them.
unfoldable pub first_full : List ℕ → List MoveRecord → ℕ → ℕ → ℕ
first_full directory records zero p = p
first_full directory records (suc count) p =
    let rest = first_full directory records count (suc p) in pick (ltb 256 (need_of directory records p)) p rest

-- "The writer refuses by 2, 3, 4 (the buffer, or a directory not N bytes long) and 5 first"; `room` is the buffer's
-- length.
unfoldable pub shape_check : ℕ → ℕ → List ℕ → ℕ → Outcome
shape_check size pages directory room =
    pick (eqb size 0 || ltb 2048 size) (refused 2 nowhere)
    (pick (eqb pages 0 || ltb 240 pages) (refused 3 nowhere)
    (pick (not (eqb room (4 + size + 256 * pages)) || not (eqb (length directory) size)) (refused 4 nowhere)
    (pick (ltb (first_not_below pages directory) size) (refused 5 (at_station (first_not_below pages directory)))
    accepted)))

-- What the writer says: what that check says, or refused by a number with the index of a record, or with a page.
pub data WriteOutcome : Type 0 where
  said : Outcome → WriteOutcome
  refused_record : ℕ → ℕ → WriteOutcome
  refused_page : ℕ → ℕ → WriteOutcome

-- "then with 19 the first record .., then with 20 the lowest page .."
abbrev pub records_check : ℕ → ℕ → List ℕ → List MoveRecord → WriteOutcome
records_check size pages directory records =
    pick (ltb (rising size records) (length records)) (refused_record 19 (rising size records))
    (pick (ltb (first_full directory records pages 0) pages) (refused_page 20 (first_full directory records pages 0))
    (said accepted))

abbrev pub after_shape : Outcome → WriteOutcome → WriteOutcome
after_shape accepted following = following
after_shape (refused number place) following = said (refused number place)

unfoldable pub write_check : ℕ → ℕ → List ℕ → ℕ → List MoveRecord → WriteOutcome
write_check size pages directory room records =
    after_shape (shape_check size pages directory room) (records_check size pages directory records)

-- What the writing call hands back: its outcome, and the buffer with the image; at a refusal the buffer is as it was.
pub record Writing : Type 0 where
  pub outcome : WriteOutcome
  pub image : List ℕ

abbrev pub writing : WriteOutcome → List ℕ → Writing
writing outcome image = record { outcome = outcome; image = image }

abbrev pub filled_in : WriteOutcome → List ℕ → List ℕ → List ℕ
filled_in (said accepted) image buffer = image
filled_in (said (refused number place)) image buffer = buffer
filled_in (refused_record number index) image buffer = buffer
filled_in (refused_page number p) image buffer = buffer

unfoldable pub write_call : ℕ → ℕ → List ℕ → List MoveRecord → List ℕ → Writing
write_call size pages directory records buffer =
    let outcome = write_check size pages directory (length buffer) records in
    writing outcome (filled_in outcome (written size pages directory records) buffer)
