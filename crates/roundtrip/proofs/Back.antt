-- Each call undoes the other. A written page is good and has the content that it was written from, so that a written
-- image passes the whole check and its records, station by station, are those that were written. And the content of a
-- page that is read is what the image's records give it, so that it is written as it stood.
use Rattle.common.proofs.Ground.{◌≡◌, refl, ap, sym, ◌∙◌, subst, List, [], ◌++◌, ℕ, zero, suc, ◌+◌, ◌-◌, ◌*◌, ◌≤◌}
use Rattle.common.proofs.Ground.{◌<◌, arith, length, get_or, drop, length-drop, length-take-le}
use Rattle.commands.specs.declared.Move.{Move}
use Rattle.image.specs.Bytes.{Bytes}
use Rattle.image.specs.Image.{accepted, station_count, page_count, directory_of, page_bytes}
use Rattle.image.proofs.Heading.{Formed, formed, formed_accepted}
use Rattle.image.proofs.Parts.{bytes_page}
use Rattle.page.specs.Reading.{good, read_page, reading_of, moves_in}
use Rattle.page.specs.Good.{GoodMoves, spell_stations, spelled}
use Rattle.page.proofs.Good.Moves.{image_moves_good}
use Rattle.page.proofs.Good.Promise.{promise}
use Rattle.page.proofs.Good.Written.{written_good, length-spelled}
use Rattle.whole.specs.Check.{whole_check}
use Rattle.whole.proofs.Accepted.{Wholly, wholly, accepts}
use Rattle.move_record.specs.declared.MoveRecord.{MoveRecord}
use Rattle.roundtrip.specs.Records.{content_in, records_at, records_from, records_of}
use Rattle.roundtrip.specs.Written.{moves_for, content_for, need_of, page_for, written, write_check, filled_in, writing}
use Rattle.roundtrip.specs.Written.{write_call, rising, said}
use Rattle.roundtrip.specs.Promises.{WritesBack, ReadsBack}
use Rattle.roundtrip.proofs.Fit.{AllFit, all_fits}
use Rattle.roundtrip.proofs.Order.{rising_ordered, ordered_rising}
use Rattle.roundtrip.proofs.Groups.{grouped, grouped_by, grouped_again, grouped_ordered, moves_good}
use Rattle.roundtrip.proofs.Groups.{moves_grouped}
use Rattle.roundtrip.proofs.Contents.{content_good, content_moves, content_again}
use Rattle.roundtrip.proofs.Images.{WrittenParts, written_parts, image_by_parts}
use Rattle.roundtrip.proofs.Drawable.{Drawable, drawable, draws}

-- The moves of a station of an image, and its records as those of the stations one after the other, which give each
-- station its moves.
abbrev pub moves_at : List ℕ → ℕ → List Move
moves_at image u = moves_in (content_in (reading_of image (get_or (directory_of image) u 0))) u

pub records_grouped : (image : List ℕ) (count u : ℕ) → records_from image count u ≡ grouped (moves_at image) count u
unfolding records_from records_at grouped
records_grouped image zero u = refl
records_grouped image (suc count) u = ap (λ l. records_at image u ++ l) (records_grouped image count (suc u))

pub moves_listed : (image : List ℕ) (u : ℕ) → u < station_count image → moves_for (records_of image) u ≡ moves_at image u
moves_listed image u h =
    ap (λ l. moves_for l u) (records_grouped image (station_count image) 0) ∙
    moves_grouped (moves_at image) (station_count image) 0 u (omega arith) (omega arith)

module _ (size pages : ℕ) (directory : List ℕ) (room : ℕ) (records : List MoveRecord)
    (d : Drawable size pages directory room records) (fit : AllFit records)
    (w : WrittenParts size pages directory records) where
  abbrev drawn : List ℕ
  drawn = written size pages directory records

  -- a written page is good
  reads_good : (p : ℕ) → p < pages → reading_of drawn p ≡ good [] (content_for directory records p)
  unfolding reading_of page_for
  reads_good p h =
      ap (λ l. read_page l p (page_bytes drawn p)) w.directory_same ∙
      ap (read_page directory p) (w.page p h) ∙
      written_good directory p (content_for directory records p) (256 - need_of directory records p)
      (content_good records directory p
      (λ u. subst (λ n. GoodMoves n u 0 (moves_for records u)) (sym d.directory_length)
      (moves_good size records (rising_ordered size records d.all_rising) (all_fits records fit) u)))

  drawn_formed : Formed drawn
  unfolding page_bytes
  drawn_formed =
      let stations = w.stations in
      let page_count_lem = w.page_count_lem in
      let total = w.total in
      record {
        heading = omega arith;
        stations = omega (arith, d.stations);
        stations_most = omega (arith, d.stations_most);
        pages = omega (arith, d.pages_some);
        pages_most = omega (arith, d.pages_most);
        total = omega arith;
        directory = ap length w.directory_same ∙ d.directory_length ∙ sym stations;
        paged = λ v h. rw (w.directory_same, page_count_lem) (d.paged v (omega arith));
        page = λ p h.
            length-take-le 256 (drop (4 + station_count drawn + 256 * p) drawn)
            (omega (arith, length-drop (4 + station_count drawn + 256 * p) drawn));
      }

  drawn_whole : whole_check drawn ≡ accepted
  drawn_whole =
      accepts drawn
      (record {
        heading = formed_accepted drawn drawn_formed;
        page = λ p h. record {
          before = [];
          stations = content_for directory records p;
          reads = reads_good p (omega (arith, w.page_count_lem));
        };
      })

  -- each station has the moves that the records give it
  drawn_moves : (u : ℕ) → u < size → moves_at drawn u ≡ moves_for records u
  drawn_moves u h =
      ap (λ p. moves_in (content_in (reading_of drawn p)) u) (ap (λ l. get_or l u 0) w.directory_same) ∙
      ap (λ r. moves_in (content_in r) u) (reads_good (get_or directory u 0) (d.paged u h)) ∙
      content_moves records directory (get_or directory u 0) u (omega (arith, d.directory_length)) refl

  drawn_records : records_of drawn ≡ records
  drawn_records =
      ap (λ n. records_from drawn n 0) w.stations ∙
      records_grouped drawn size 0 ∙
      grouped_by (moves_at drawn) (moves_for records) size 0 (λ v from to. drawn_moves v (omega arith)) ∙
      grouped_again size records (rising_ordered size records d.all_rising)

-- "reading a written image gives the records", and a written image passes the whole check.
pub written_reads_back : (size pages : ℕ) (directory : List ℕ) (room : ℕ) (records : List MoveRecord)
    → write_check size pages directory room records ≡ said accepted → AllFit records
    → ReadsBack (written size pages directory records) records
written_reads_back size pages directory room records e fit =
    let d = drawable size pages directory room records e in
    let w = written_parts size pages directory records (omega (arith, d.stations_most)) (omega (arith, d.pages_most))
    d.directory_length d.all_fit in
    record {
      whole = drawn_whole size pages directory room records d fit w;
      records_again = drawn_records size pages directory room records d fit w;
    }

module _ (image : List ℕ) (bytes : Bytes image) (w : Wholly image) (f : Formed image) where
  abbrev directory : List ℕ
  directory = directory_of image

  abbrev listed : List MoveRecord
  listed = records_of image

  -- what a page's content says of a station
  moves_read : (p u : ℕ) (h : p < page_count image) → get_or directory u 0 ≡ p
      → moves_at image u ≡ moves_in (w.page p h).stations u
  moves_read p u h on =
      ap (λ q. moves_in (content_in (reading_of image q)) u) on ∙
      ap (λ r. moves_in (content_in r) u) (w.page p h).reads

  moves_fine : (u : ℕ) → u < station_count image → GoodMoves (station_count image) u 0 (moves_at image u)
  moves_fine u h =
      let p = get_or directory u 0 in
      let in_map = f.paged u h in
      let page = w.page p in_map in
      subst (λ n. GoodMoves n u 0 (moves_at image u)) f.directory
      (subst (GoodMoves (length directory) u 0) (sym (moves_read p u in_map refl))
      (image_moves_good image bytes p page.before page.stations page.reads u))

  -- A page of the image: its content is what the records give it, and its bytes are those of the written page.
  pub record Kept (p : ℕ) : Type 0 where
    pub fits : need_of directory listed p ≤ 256
    pub same : page_bytes image p ≡ page_for directory listed p

  page_kept : (p : ℕ) → p < page_count image → Kept p
  unfolding reading_of need_of page_for
  page_kept p h =
      let page = w.page p h in
      let k = promise directory p (page_bytes image p) (bytes_page image p bytes) page.before page.stations
      page.reads in
      let content : content_for directory listed p ≡ page.stations =
      content_again directory p listed page.stations k.content.named
      (λ u inside on. moves_listed image u (omega (arith, f.directory)) ∙ moves_read p u h on) in
      let long = ap length k.spells ∙ length-spelled page.stations k.zeros in
      let need : need_of directory listed p ≡ suc (length (spell_stations page.stations [])) =
      ap (λ l. suc (length (spell_stations l []))) content in
      let zeros : k.zeros ≡ 256 - need_of directory listed p = omega (arith, f.page p h) in
      record {
        fits = omega (arith, f.page p h);
        same = k.spells ∙ ap (spelled page.stations) zeros ∙
            ap (λ l. spelled l (256 - need_of directory listed p)) (sym content);
      }

  pub image_drawable : Drawable (station_count image) (page_count image) directory (length image) listed
  image_drawable = record {
    stations = f.stations;
    stations_most = f.stations_most;
    pages_some = f.pages;
    pages_most = f.pages_most;
    total = f.total;
    directory_length = f.directory;
    paged = f.paged;
    all_rising =
        subst (λ l. rising (station_count image) l ≡ length l) (sym (records_grouped image (station_count image) 0))
        (ordered_rising (station_count image) (grouped (moves_at image) (station_count image) 0)
        (grouped_ordered (moves_at image) (station_count image) moves_fine));
    all_fit = λ p h. (page_kept p h).fits;
  }

  pub same_image : written (station_count image) (page_count image) directory listed ≡ image
  same_image = image_by_parts image listed bytes f.total (λ p h. (page_kept p h).same)

-- "Reading any wholly good image into records and writing them gives its bytes"
pub image_writes_back : (image : List ℕ) → Bytes image → whole_check image ≡ accepted → WritesBack image
unfolding write_call
image_writes_back image bytes e buffer long =
    let w = wholly image e in
    let f = formed image w.heading in
    let check = draws (station_count image) (page_count image) (directory_of image) (length image) (records_of image)
    (image_drawable image bytes w f) in
    let outcome = ap (λ n. write_check (station_count image) (page_count image) (directory_of image) n (records_of image))
    long ∙ check in
    ap (λ o. writing o (filled_in o
    (written (station_count image) (page_count image) (directory_of image) (records_of image)) buffer)) outcome ∙
    ap (writing (said accepted)) (same_image image bytes w f)
