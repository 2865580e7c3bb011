-- The walk of an image's records: it begins with all of them left; a move that is found is the first record that is
-- left; and where a station has no more moves, its page is entered anew and the walk stands at the next station.
use Rattle.common.proofs.Ground.{◌≡◌, ◌≢◌, refl, ap, sym, ◌∙◌, dite, List, [], ◌∷◌, ◌++◌, map, ℕ, zero, suc, ◌+◌, ◌-◌}
use Rattle.common.proofs.Ground.{◌≤◌, ◌<◌}
use Rattle.common.proofs.Ground.{arith, dec_lt, ℕ_discrete, length, get_or, set, length-set, replicate}
use Rattle.common.proofs.Ground.{get_or-replicate}
use Rattle.common.proofs.Ground.{get_or-set_same, get_or-set_other, add-one, sub-zero, length-replicate}
use Rattle.common.proofs.Cases.{never}
use Rattle.image.specs.Bytes.{Bytes}
use Rattle.image.specs.Image.{accepted, station_count, page_count, directory_of, page_bytes}
use Rattle.image.proofs.Heading.{Formed, formed}
use Rattle.commands.specs.declared.Move.{Move}
use Rattle.commands.specs.Commands.{length_of}
use Rattle.page.specs.Reading.{reading_of, moves_in}
use Rattle.whole.specs.Check.{whole_check}
use Rattle.whole.proofs.Accepted.{wholly}
use Rattle.move_record.specs.declared.MoveRecord.{MoveRecord}
use Rattle.roundtrip.specs.Records.{content_in, record_for, records_at, records_from, records_of}
use Rattle.std.specs.Prelude.{Option, Some, None}
use Rattle.by_station.specs.Next.{next_move}
use Rattle.by_station.specs.Reached.{Reached}
use Rattle.by_station.specs.Standing.{Entered, page_at, records_behind, Standing}
use Rattle.by_station.proofs.Reached.{reached_front, reached_other, reached_station, reached-inside}
use Rattle.by_station.proofs.Reached.{reached-move, reached_over}

module _ (image : List ℕ) (whole : whole_check image ≡ accepted) where
  pub well-formed : Formed image
  well-formed = formed image (wholly image whole).heading

  pub page_there : (u : ℕ) → u < station_count image → page_at image u < page_count image
  page_there u h = well-formed.paged u h

  -- The walk stands before station u: every page has been entered.
  due : (u : ℕ) (offsets : List ℕ) → length offsets ≡ 256 → u ≤ station_count image
      → ((p : ℕ) → p < page_count image → Entered image p u (get_or offsets p 0))
      → Standing image u offsets (records_from image (station_count image - u) u)
  unfolding records_from records_at
  due u offsets pages came entered =
      dite (dec_lt u (station_count image))
      (λ more.
      let p = page_at image u in
      let page = entered p (page_there u more) in
      let one : station_count image - u ≡ suc (station_count image - (u + 1)) = omega arith in
      record {
        pages = pages;
        came = came;
        moves = moves_in (content_in (reading_of image p)) u;
        over = λ past. absurd (omega arith);
        own = λ h. rw page.behind
            (reached_station image p (omega (arith, well-formed.directory)) refl page.reached);
        others = λ q h other. entered q h;
        records = rw (one, add-one u);
      })
      (λ last.
      let none : station_count image - u ≡ 0 = omega arith in
      let none_behind : station_count image - (u + 1) ≡ 0 = omega arith in
      record {
        pages = pages;
        came = came;
        moves = [];
        over = λ past. refl;
        own = λ h. absurd (omega arith);
        others = λ q h other. entered q h;
        records = rw (none, none_behind);
      })

  -- It begins with all records left.
  pub standing_begin : Bytes image → Standing image 0 (replicate 256 (length_of 1)) (records_of image)
  standing_begin bytes =
      rw (sub-zero (station_count image)) at
      (due 0 (replicate 256 (length_of 1)) (length-replicate 256 (length_of 1)) (omega arith) (λ p h. record {
        before = 0;
        behind = get_or-replicate {A = ℕ} 256 p (length_of 1) 0 (omega (arith, well-formed.pages_most));
        reached = reached_front image p bytes ((wholly image whole).page p h);
      }))

  -- What is read at station u: it is one of the map's, its page, and what stands at the page's offset.
  module _ (u : ℕ) (directory : List ℕ) (same : directory ≡ directory_of image) where
    pub read_due : u < length directory → u < station_count image
    read_due h = omega (arith, ap length same, well-formed.directory)

    pub read_over : length directory ≤ u → station_count image ≤ u
    read_over h = omega (arith, ap length same, well-formed.directory)

    pub read_page : get_or directory u 0 ≡ page_at image u
    read_page = ap (λ l. get_or l u 0) same

    pub read_there : (offsets page : List ℕ) {x : Option (Move × ℕ)} → page ≡ page_bytes image (get_or directory u 0)
        → next_move page (get_or offsets (get_or directory u 0) 0) ≡ x
        → next_move (page_bytes image (page_at image u)) (get_or offsets (page_at image u) 0) ≡ x
    read_there offsets page e found = rw (← read_page, ← e) found

  module _ (u : ℕ) (offsets : List ℕ) (left : List MoveRecord) (stands : Standing image u offsets left) where
    -- All stations came: nothing is left.
    pub standing_over : station_count image ≤ u → left ≡ []
    unfolding records_from
    standing_over past =
        let none : station_count image - (u + 1) ≡ 0 = omega arith in
        stands.records ∙ rw (stands.over past, none)

    module _ (more : u < station_count image) where
      abbrev page : ℕ
      page = page_at image u

      abbrev at : ℕ
      at = get_or offsets page 0

      pub page_small : page < 240
      page_small = omega (arith, page_there u more, well-formed.pages_most)

      pub offset_inside : at < length (page_bytes image page)
      offset_inside = reached-inside image page at stands.moves (stands.own more)

      here : (offset : ℕ) → get_or (set offsets page offset) page 0 ≡ offset
      here offset = get_or-set_same offsets page offset 0 (omega (arith, page_small, stands.pages))

      elsewhere : (offset q : ℕ) → page ≢ q → get_or (set offsets page offset) q 0 ≡ get_or offsets q 0
      elsewhere offset q other = get_or-set_other offsets page q offset 0 (λ e. other (sym e))

      -- Some moves of the station are passed, up to an offset: those that stand there are left.
      pub standing_at : (offset : ℕ) {moves : List Move} → Reached image page (u + 1) offset moves
          → Standing image u (set offsets page offset) (map (record_for u) moves ++ records_behind image u)
      standing_at offset {moves} reached = record {
        pages = length-set offsets page offset ∙ stands.pages;
        came = stands.came;
        moves = moves;
        over = λ past. absurd (omega arith);
        own = λ h. rw (here offset) reached;
        others = λ q h other. rw (elsewhere offset q other) (stands.others q h other);
        records = refl;
      }

      -- All moves of the station are passed: the records behind it are left.
      pub standing_behind : (offset : ℕ) → Reached image page (u + 1) offset []
          → Standing image (u + 1) (set offsets page (offset + length_of 1)) (records_behind image u)
      standing_behind offset reached =
          due (u + 1) (set offsets page (offset + length_of 1))
          (length-set offsets page (offset + length_of 1) ∙ stands.pages) (omega arith)
          (λ q h.
          dite (ℕ_discrete page q)
          (λ own. record {
            before = offset;
            behind = rw (← own) (here (offset + length_of 1));
            reached = rw (← own) reached;
          })
          (λ other.
          let entered = stands.others q h other in
          record {
            before = entered.before;
            behind = rw (elsewhere (offset + length_of 1) q other) entered.behind;
            reached = reached_other image q (omega (arith, well-formed.directory)) other entered.reached;
          }))

      -- A move is found: it is the first record that is left.
      pub standing_move : {m : Move} {behind : ℕ} → next_move (page_bytes image page) at ≡ Some (m, behind)
          → (rest : List MoveRecord) × (left ≡ record_for u m ∷ rest) × Standing image u (set offsets page behind) rest
      standing_move {m} {behind} found =
          let (moves, next, reached) = reached-move image page at stands.moves (stands.own more) found in (
            map (record_for u) moves ++ records_behind image u,
            stands.records ∙ ap (λ l. map (record_for u) l ++ records_behind image u) next,
            standing_at behind reached,
          )

      -- The station has no more moves.
      pub standing_next : next_move (page_bytes image page) at ≡ None
          → Standing image (u + 1) (set offsets page (at + length_of 1)) left
      standing_next over =
          let last = reached_over image page at stands.moves (stands.own more) over in
          let all : left ≡ records_behind image u = stands.records ∙ rw last in
          rw all (standing_behind at (rw last at (stands.own more)))

-- The records of stations from v on leave v or a later station.
pub first_from : (image : List ℕ) (count v : ℕ) (r : MoveRecord) (rest : List MoveRecord)
    → records_from image count v ≡ r ∷ rest → v ≤ r.from
unfolding records_from records_at
first_from image zero v r rest e = never (cc)
first_from image (suc count) v r rest e =
    by_moves (moves_in (content_in (reading_of image (page_at image v))) v) e (first_from image count (suc v) r rest)
  where
    by_moves : (moves : List Move) → map (record_for v) moves ++ records_from image count (suc v) ≡ r ∷ rest
        → (records_from image count (suc v) ≡ r ∷ rest → suc v ≤ r.from) → v ≤ r.from
    by_moves [] q onward = omega (arith, onward q)
    by_moves (m ∷ moves) q onward = let own : record_for v m ≡ r = cc in omega (arith, ap (λ x. x.from) own)
