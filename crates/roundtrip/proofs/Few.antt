-- How many records a map can have: each takes five bytes or more of its page, and a page has 255 beside its `00`. By
-- induction over the records: one record more makes the content of its station's page longer by five bytes at least,
-- and no page's content shorter.
use Rattle.common.proofs.Ground.{◌≡◌, ◌≢◌, sym, ◌∙◌, dite, List, [], ◌∷◌, map, ℕ, zero, suc}
use Rattle.common.proofs.Ground.{◌+◌, ◌-◌, ◌*◌, ◌≤◌, ◌<◌, arith, ℕ_discrete, length, get_or, eqb, eq-eqb, ne_eqb}
use Rattle.common.proofs.Ground.{sub-zero}
use Rattle.common.proofs.Cases.{by_pick}
use Rattle.image.specs.Bytes.{Bytes}
use Rattle.image.specs.Image.{accepted, station_count, page_count, directory_of}
use Rattle.image.proofs.Heading.{formed}
use Rattle.page.specs.Good.{stations_from, stations_on, spell_moves, spell_stations}
use Rattle.page.proofs.Good.Spelling.{length_limit}
use Rattle.page.proofs.Good.Written.{length_moves}
use Rattle.whole.specs.Check.{whole_check}
use Rattle.whole.proofs.Accepted.{wholly}
use Rattle.move_record.specs.declared.MoveRecord.{MoveRecord}
use Rattle.roundtrip.specs.Records.{records_of}
use Rattle.roundtrip.specs.Written.{move_of, moves_for, leaving, content_for, need_of, said, write_check}
use Rattle.roundtrip.proofs.Order.{Ordered, rising_ordered}
use Rattle.roundtrip.proofs.Contents.{next_entry}
use Rattle.roundtrip.proofs.Drawable.{Drawable, drawable}
use Rattle.roundtrip.proofs.Back.{image_drawable}

-- The bytes of a station's moves, of the stations of a list, and of so many pages from page p on.
abbrev pub bytes_for : List MoveRecord → ℕ → ℕ
bytes_for records u = length (spell_moves (moves_for records u) [])

abbrev station_bytes : List MoveRecord → List ℕ → ℕ
station_bytes records us = length (spell_stations (map (leaving records) us) [])

unfoldable page_bytes : List ℕ → List MoveRecord → ℕ → ℕ → ℕ
page_bytes directory records zero p = 0
page_bytes directory records (suc count) p =
    station_bytes records (stations_on directory p) + page_bytes directory records count (suc p)

-- a station and its moves stand before the others
pub bytes_first : (records : List MoveRecord) (u : ℕ) (us : List ℕ)
    → station_bytes records (u ∷ us) ≡ 3 + bytes_for records u + station_bytes records us
unfolding spell_stations
bytes_first records u us =
    omega (arith, length_moves (moves_for records u) (spell_stations (map (leaving records) us) []))

module _ (r : MoveRecord) (rs : List MoveRecord) where
  own_more : (u : ℕ) → r.from ≡ u → bytes_for rs u + 5 ≤ bytes_for (r ∷ rs) u
  unfolding moves_for spell_moves
  own_more u here =
      rw (eq-eqb r.from u here) (omega (arith, length_limit (move_of r) (spell_moves (moves_for rs u) [])))

  other_same : (u : ℕ) → r.from ≢ u → bytes_for (r ∷ rs) u ≡ bytes_for rs u
  unfolding moves_for
  other_same u n = rw (ne_eqb r.from u n)

  no_less : (u : ℕ) → bytes_for rs u ≤ bytes_for (r ∷ rs) u
  no_less u =
      dite (ℕ_discrete r.from u) (λ here. omega (arith, own_more u here)) (λ n. omega (arith, other_same u n))

  stations_no_less : (p i : ℕ) (ds : List ℕ)
      → station_bytes rs (stations_from p i ds) ≤ station_bytes (r ∷ rs) (stations_from p i ds)
  unfolding stations_from
  stations_no_less p i [] = omega arith
  stations_no_less p i (d ∷ ds) =
      let rest = stations_no_less p (suc i) ds in
      let us = stations_from p (suc i) ds in
      by_pick (λ l. station_bytes rs l ≤ station_bytes (r ∷ rs) l) (eqb d p)
      (λ on. omega (arith, no_less i, bytes_first rs i us, bytes_first (r ∷ rs) i us))
      (λ off. rest)

  stations_more : (p i : ℕ) (ds : List ℕ) → i ≤ r.from → r.from < i + length ds → get_or ds (r.from - i) 0 ≡ p
      → station_bytes rs (stations_from p i ds) + 5 ≤ station_bytes (r ∷ rs) (stations_from p i ds)
  unfolding stations_from
  stations_more p i [] from to on = absurd (omega arith)
  stations_more p i (d ∷ ds) from to on =
      let us = stations_from p (suc i) ds in
      dite (ℕ_discrete r.from i)
      (λ here.
      let first : r.from - i ≡ 0 = omega arith in
      let page : d ≡ p = rw first at on in
      rw (eq-eqb d p page)
      (omega (arith, own_more i here, stations_no_less p (suc i) ds, bytes_first rs i us, bytes_first (r ∷ rs) i us)))
      (λ later.
      let rest = stations_more p (suc i) ds (omega arith) (omega arith)
      (sym (next_entry d ds i r.from (omega arith)) ∙ on) in
      by_pick (λ l. station_bytes rs l + 5 ≤ station_bytes (r ∷ rs) l) (eqb d p)
      (λ page. omega (arith, no_less i, bytes_first rs i us, bytes_first (r ∷ rs) i us))
      (λ other. rest))

  module _ (directory : List ℕ) where
    pages_no_less : (count p : ℕ) → page_bytes directory rs count p ≤ page_bytes directory (r ∷ rs) count p
    unfolding page_bytes
    pages_no_less zero p = omega arith
    pages_no_less (suc count) p = omega (arith, stations_no_less p 0 directory, pages_no_less count (suc p))

    pages_more : (count p : ℕ) → r.from < length directory → p ≤ get_or directory r.from 0
        → get_or directory r.from 0 < p + count
        → page_bytes directory rs count p + 5 ≤ page_bytes directory (r ∷ rs) count p
    unfolding page_bytes
    pages_more zero p inside from to = absurd (omega arith)
    pages_more (suc count) p inside from to =
        dite (ℕ_discrete (get_or directory r.from 0) p)
        (λ here.
        omega (
          arith,
          stations_more p 0 directory (omega arith) (omega arith) (rw sub-zero here),
          pages_no_less count (suc p),
        ))
        (λ later.
        omega (arith, stations_no_less p 0 directory, pages_more count (suc p) inside (omega arith) (omega arith)))

-- All records together take five bytes each.
five_each : (size own least pages : ℕ) (directory : List ℕ) (rs : List MoveRecord) → length directory ≡ size
    → ((u : ℕ) → u < size → get_or directory u 0 < pages) → Ordered size own least rs
    → 5 * length rs ≤ page_bytes directory rs pages 0
five_each size own least pages directory [] long paged o = omega arith
five_each size own least pages directory (r ∷ rs) long paged o =
    let rest = five_each size r.from (r.target + 1) pages directory rs long paged o.2 in
    let page = paged r.from o.0.from_below in
    omega (arith, pages_more r rs directory pages 0 (omega (arith, o.0.from_below)) (omega arith) (omega arith))

-- Pages that fit have 255 bytes each at most.
most_each : (directory : List ℕ) (records : List MoveRecord) (count p : ℕ)
    → ((q : ℕ) → p ≤ q → q < p + count → need_of directory records q ≤ 256)
    → page_bytes directory records count p ≤ 255 * count
unfolding page_bytes need_of content_for
most_each directory records zero p fit = omega arith
most_each directory records (suc count) p fit =
    let this = fit p (omega arith) (omega arith) in
    omega (arith, most_each directory records count (suc p) (λ q from to. fit q (omega arith) (omega arith)))

drawable_few : (size pages : ℕ) (directory : List ℕ) (room : ℕ) (records : List MoveRecord)
    → Drawable size pages directory room records → length records ≤ 12240
drawable_few size pages directory room records d =
    omega (
      arith,
      d.pages_most,
      five_each size 0 0 pages directory records d.directory_length d.paged
          (rising_ordered size records d.all_rising),
      most_each directory records pages 0 (λ q from to. d.all_fit q (omega arith)),
    )

pub few_records : (size pages : ℕ) (directory : List ℕ) (room : ℕ) (records : List MoveRecord)
    → write_check size pages directory room records ≡ said accepted → length records ≤ 12240
few_records size pages directory room records e =
    drawable_few size pages directory room records (drawable size pages directory room records e)

pub few_records_of : (image : List ℕ) → Bytes image → whole_check image ≡ accepted → length (records_of image) ≤ 12240
few_records_of image bytes e =
    let w = wholly image e in
    drawable_few (station_count image) (page_count image) (directory_of image) (length image) (records_of image)
    (image_drawable image bytes w (formed image w.heading))
