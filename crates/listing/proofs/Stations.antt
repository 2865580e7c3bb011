-- The records of a wholly good image are kept station by station: each page is read up to the stations that come, and
-- what is kept are the records of those that came.
use Rattle.common.proofs.Ground.{◌≡◌, refl, ap, sym, ◌∙◌, dite, List, [], ℕ, ◌+◌, ◌≤◌, ◌<◌, arith, ℕ_discrete}
use Rattle.common.proofs.Ground.{length, length-append, get_or, set, length-set, replicate, take, get_or-replicate}
use Rattle.common.proofs.Ground.{get_or-set_same}
use Rattle.common.proofs.Ground.{get_or-set_other}
use Rattle.image.specs.Bytes.{Bytes}
use Rattle.image.specs.Image.{accepted, station_count, page_count, directory_of}
use Rattle.image.proofs.Heading.{Formed, formed}
use Rattle.whole.specs.Check.{whole_check}
use Rattle.whole.proofs.Accepted.{wholly}
use Rattle.move_record.specs.declared.MoveRecord.{MoveRecord}
use Rattle.roundtrip.specs.Records.{records_at, records_from, records_of}
use Rattle.roundtrip.proofs.Few.{few_records_of}
use Rattle.by_station.specs.Reached.{Reached}
use Rattle.by_station.proofs.Reached.{reached_front, reached_other}
use Rattle.listing.specs.Stations.{StationKept}
use Rattle.listing.proofs.Records.{records_next, records_most}

-- The stations below u came: their records are kept, and each page is read up to the others.
pub record KeepingStations (image offsets : List ℕ) (k u : ℕ) (kept : List MoveRecord) : Type 0 where
  pub memory : length kept ≡ 12240
  pub pages : length offsets ≡ 256
  pub came : u ≤ station_count image
  pub reached : (p : ℕ) → p < page_count image → Reached image p u (get_or offsets p 0) []
  pub counted : k ≡ length (records_from image u 0)
  pub records : take k kept ≡ records_from image u 0

module _ (image : List ℕ) (whole : whole_check image ≡ accepted) where
  pub well-formed : Formed image
  well-formed = formed image (wholly image whole).heading

  pub stations_begin : Bytes image → (kept : List MoveRecord) → length kept ≡ 12240
      → KeepingStations image (replicate 256 0) 0 0 kept
  unfolding records_from
  stations_begin bytes kept memory = record {
    memory = memory;
    pages = refl;
    came = omega arith;
    reached = λ p h. rw (get_or-replicate {A = ℕ} 256 p 0 0 (omega (arith, well-formed.pages_most)))
        (reached_front image p bytes ((wholly image whole).page p h));
    counted = refl;
    records = refl;
  }

  module _ (offsets : List ℕ) (k u : ℕ) (kept : List MoveRecord) (keeping : KeepingStations image offsets k u kept)
      (due : u < length (directory_of image)) where
    abbrev page : ℕ
    page = get_or (directory_of image) u 0

    pub page_there : page < page_count image
    page_there = well-formed.paged u (omega (arith, well-formed.directory))

    -- There is memory for the records of the next station: no image has more than fit.
    pub station_room : Bytes image → k + length (records_at image u) ≤ 12240
    station_room bytes =
        omega (
          arith,
          few_records_of image bytes whole,
          records_most image (u + 1) (station_count image) (omega (arith, well-formed.directory)),
          ap length (records_next image u),
          length-append (records_from image u 0) (records_at image u),
          keeping.counted,
        )

    pub station_next : {at count : ℕ} {after : List MoveRecord} → StationKept image page u k kept at count after
        → KeepingStations image (set offsets page at) count (u + 1) after
    station_next {at} s = record {
      memory = s.memory ∙ keeping.memory;
      pages = length-set offsets page at ∙ keeping.pages;
      came = omega (arith, well-formed.directory);
      reached = λ p h.
          dite (ℕ_discrete page p)
          (λ own.
          rw (← own) (rw (get_or-set_same offsets page at 0
          (omega (arith, page_there, well-formed.pages_most, keeping.pages))) s.reached))
          (λ other.
          rw (get_or-set_other offsets page p at 0 (λ e. other (sym e)))
          (reached_other image p due other (keeping.reached p h)));
      counted =
          s.counted ∙ ap (λ n. n + length (records_at image u)) keeping.counted ∙
          sym (length-append (records_from image u 0) (records_at image u)) ∙ ap length (sym (records_next image u));
      records = s.records ∙ rw keeping.records (sym (records_next image u));
    }

  -- All stations came.
  pub stations_end : (offsets : List ℕ) (k u : ℕ) (kept : List MoveRecord) → KeepingStations image offsets k u kept
      → length (directory_of image) ≤ u
      → (k ≡ length (records_of image)) × (take k kept ≡ records_of image)
  stations_end offsets k u kept keeping past =
      let all : u ≡ station_count image = omega (arith, well-formed.directory, keeping.came) in
      rw (← all) (keeping.counted, keeping.records)
