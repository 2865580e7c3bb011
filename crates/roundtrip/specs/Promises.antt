-- What reading and writing promise of each other (02, C-16).
use Rattle.std.specs.Prelude.{◌≡◌, List, ℕ, ◌≤◌, length}
use Rattle.image.specs.Image.{accepted, station_count, page_count, directory_of}
use Rattle.whole.specs.Check.{whole_check}
use Rattle.move_record.specs.declared.MoveRecord.{MoveRecord}
use Rattle.roundtrip.specs.Records.{records_of, Listing, read_call}
use Rattle.roundtrip.specs.Written.{said, writing, Writing, write_call}

-- "Reading any wholly good image into records and writing them gives its bytes", with its N, P and directory, whatever
-- stood in the buffer.
abbrev pub WritesBack : List ℕ → Type 0
WritesBack image =
    (buffer : List ℕ) → length buffer ≡ length image
    → write_call (station_count image) (page_count image) (directory_of image) (records_of image) buffer
    ≡ writing (said accepted) image

-- "reading a written image gives the records", and a written image passes the whole check.
pub record ReadsBack (image : List ℕ) (records : List MoveRecord) : Type 0 where
  pub whole : whole_check image ≡ accepted
  pub records_again : records_of image ≡ records

-- The reading call: the whole outcome, and what writing makes of it. No map has more than 12,240 records, so that a
-- list of as many is never too short.
pub record ReadPromised (image : List ℕ) (list : List MoveRecord) (h : Listing) : Type 0 where
  pub outcome : h ≡ read_call image list
  pub few : h.count ≤ 12240
  pub writes_back : whole_check image ≡ accepted → WritesBack image

-- The writing call: the whole outcome, and what reading makes of it.
pub record WritePromised (size pages : ℕ) (directory : List ℕ) (records : List MoveRecord) (buffer : List ℕ)
    (h : Writing) : Type 0 where
  pub outcome : h ≡ write_call size pages directory records buffer
  pub reads_back : h.outcome ≡ said accepted → ReadsBack h.image records
