-- What the writer promises, by its answer: each refusal, and the image. The records that are kept, and the sums of the
-- pages, say of the list that was taken what the papers say (proofs/Counted.antt, proofs/Sums.antt).
use Rattle.common.proofs.Ground.{◌≡◌, ap, sym, ◌∙◌, List, ℕ, ◌≤◌, ◌<◌}
use Rattle.common.proofs.Ground.{min, arith, length, take, Bool, true, false, ltb, ltb-true, ltb-false, lt-ltb, le-ltb}
use Rattle.common.proofs.Ground.{refl}
use Rattle.common.proofs.Cases.{never}
use Rattle.std.specs.Prelude.{cond, Option, Some, None}
use Rattle.image.specs.Image.{Place, accepted, refused}
use Rattle.move_record.specs.declared.MoveRecord.{MoveRecord}
use Rattle.roundtrip.specs.Written.{WriteOutcome, said, refused_record, refused_page, writing, written, rising}
use Rattle.roundtrip.specs.Written.{first_full, shape_check, records_check, after_shape, write_check, write_call}
use Rattle.roundtrip.specs.Written.{filled_in}
use Rattle.roundtrip.specs.Promises.{WritePromised}
use Rattle.roundtrip.proofs.Drawable.{shape, drawable, rising_most}
use Rattle.roundtrip.proofs.Few.{few_records, bytes_for}
use Rattle.roundtrip.proofs.Fit.{AllFit}
use Rattle.roundtrip.proofs.Back.{written_reads_back}
use Rattle.imaging.specs.Shaped.{Shaped, Writable}
use Rattle.writing.specs.declared.taking.Memory.{Memory}
use Rattle.writing.specs.Taking.{bytes_of, taken_all}
use Rattle.writing.specs.Sums.{sums_of, first_over}
use Rattle.writing.proofs.Counted.{taken-rising, taken_kept, taken_bytes}
use Rattle.writing.proofs.Sums.{first_over_full}

-- A refusal of the heading or the directory is the writer's.
pub shape_refuses : (size pages : ℕ) (directory : List ℕ) (room : ℕ) (records : List MoveRecord) (number : ℕ)
    (place : Place) → shape_check size pages directory room ≡ refused number place
    → write_check size pages directory room records ≡ said (refused number place)
unfolding write_check
shape_refuses size pages directory room records number place e =
    ap (λ outcome. after_shape outcome (records_check size pages directory records)) e

-- What holds where nothing is refused.
pub record Accepted (size : ℕ) (m : Memory) (records : List MoveRecord) (pages : ℕ) (directory : List ℕ) (room : ℕ)
    : Type 0 where
  pub passed : write_check size pages directory room records ≡ said accepted
  pub few : m.count ≤ 12240
  pub list_kept : take m.count m.records ≡ records
  pub shaped : Shaped size pages directory room
  pub writable : Writable size pages directory (take m.count m.records)

-- What memory into which a list was taken says of the list.
module _ (size : ℕ) (m : Memory) (records : List MoveRecord) (took : m ≡ taken_all size records) where
  count-rising : size ≤ 2048 → m.count ≡ rising size records
  count-rising most = ap (λ n. n.count) took ∙ taken-rising size records most

  -- all were taken, and a map can have so many
  pub kept_list : m.count ≡ length records → length records ≤ 12240 → take m.count m.records ≡ records
  kept_list all few =
      ap (λ n. take n.count n.records) took ∙ taken_kept size records (sym (ap (λ n. n.count) took) ∙ all) few

  kept_measured : m.count ≡ length records → (u : ℕ) → u < 2048
      → min 512 (bytes_of m.bytes u) ≡ min 512 (bytes_for records u)
  kept_measured all u station =
      ap (λ n. min 512 (bytes_of n.bytes u)) took ∙
      taken_bytes size records u station (sym (ap (λ n. n.count) took) ∙ all)

  -- Behind an accepted heading and directory: a record at fault, a full page, or neither.
  module _ (pages : ℕ) (directory : List ℕ) (room : ℕ)
      (shaped : shape_check size pages directory room ≡ accepted) where
    abbrev check : WriteOutcome
    check = write_check size pages directory room records

    check_after : check ≡ records_check size pages directory records
    unfolding write_check
    check_after = ap (λ outcome. after_shape outcome (records_check size pages directory records)) shaped

    rises : rising size records ≡ m.count
    rises = sym (count-rising (shape size pages directory room shaped).stations.1)

    pub bad_record : m.count < length records → check ≡ refused_record 19 m.count
    bad_record less = check_after ∙ rw (rises, lt-ltb m.count (length records) less)

    pub all_counted : length records ≤ m.count → m.count ≡ length records
    all_counted no_less = omega (arith, rises, rising_most size records)

    module _ (no_less : length records ≤ m.count) where
      abbrev full : ℕ
      full = first_full directory records pages 0

      over_is : first_over (sums_of m.bytes directory) pages ≡ cond (ltb full pages) (Some full) None
      over_is =
          let most = shape size pages directory room shaped in
          first_over_full m.bytes records (kept_measured (all_counted no_less)) directory pages (omega arith) (omega arith)

      -- What is found is a page of the map, and it is the lowest that is full; or no page is.
      pub full_found : (page : ℕ) → first_over (sums_of m.bytes directory) pages ≡ Some page
          → (page < pages) × (full ≡ page)
      full_found page is = by_test (ltb full pages) refl (sym over_is ∙ is)
        where
          by_test : (b : Bool) → ltb full pages ≡ b → cond b (Some full) None ≡ Some page
              → (page < pages) × (full ≡ page)
          by_test true e found =
              let same : full ≡ page = cc in (omega (arith, ltb-true full pages e), same)
          by_test false e found = never (cc)

      none_full : first_over (sums_of m.bytes directory) pages ≡ None → pages ≤ full
      none_full is = by_test (ltb full pages) refl (sym over_is ∙ is)
        where
          by_test : (b : Bool) → ltb full pages ≡ b → cond {A = Option ℕ} b (Some full) None ≡ None → pages ≤ full
          by_test true e found = never (cc)
          by_test false e found = ltb-false full pages e

      pub full_page : (page : ℕ) → first_over (sums_of m.bytes directory) pages ≡ Some page
          → check ≡ refused_page 20 page
      full_page page is =
          let (less, same) = full_found page is in
          check_after ∙ rw (rises, le-ltb m.count (length records) no_less, same, lt-ltb page pages less)

      -- Neither: then the records are kept, and nothing stands against writing them.
      pub accepted_list : first_over (sums_of m.bytes directory) pages ≡ None
          → Accepted size m records pages directory room
      accepted_list is =
          let passed : check ≡ said accepted =
          check_after ∙ rw (rises, le-ltb m.count (length records) no_less, le-ltb full pages (none_full is)) in
          let few = few_records size pages directory room records passed in
          let list_kept = kept_list (all_counted no_less) few in
          let d = drawable size pages directory room records passed in
          record {
            passed = passed;
            few = omega (arith, all_counted no_less);
            list_kept = list_kept;
            shaped = record {
              stations_most = d.stations_most;
              directory_length = d.directory_length;
              total = d.total;
              paged = d.paged;
            };
            writable = rw list_kept (record { all_rising = d.all_rising; all_fit = d.all_fit });
          }

-- What is promised of each answer.
module _ (size pages : ℕ) (directory : List ℕ) (records : List MoveRecord) (buffer : List ℕ) where
  pub refusal_promised : (outcome : WriteOutcome) → write_check size pages directory (length buffer) records ≡ outcome
      → ((image : List ℕ) → filled_in outcome image buffer ≡ buffer) → (outcome ≡ said accepted → ⊥)
      → WritePromised size pages directory records buffer (writing outcome buffer)
  unfolding write_call
  refusal_promised outcome e kept other = record {
    outcome = rw e (ap (writing outcome) (sym (kept (written size pages directory records))));
    reads_back = λ passed. absurd (other passed);
  }

  pub image_promised : write_check size pages directory (length buffer) records ≡ said accepted → AllFit records
      → (image : List ℕ) → image ≡ written size pages directory records
      → WritePromised size pages directory records buffer (writing (said accepted) image)
  unfolding write_call
  image_promised e fit image is = record {
    outcome = rw e (ap (writing (said accepted)) is);
    reads_back = λ passed.
        rw is (written_reads_back size pages directory (length buffer) records e fit);
  }
