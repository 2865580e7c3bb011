-- What is answered of an image: the refusal of the whole check; refusal 7, if the list is too short for the records
-- that were kept; or their count.
use Rattle.common.proofs.Ground.{◌≡◌, List, ℕ, ◌≤◌, ◌<◌, arith, length, take, lt-ltb, le-ltb}
use Rattle.common.proofs.Cases.{never}
use Rattle.image.specs.Bytes.{Bytes}
use Rattle.image.specs.declared.Refusal.{Refusal}
use Rattle.image.specs.declared.Refusal.TheVariants.{TableTooShort}
use Rattle.image.specs.Image.{accepted, refused, number_of, place_of}
use Rattle.whole.specs.Check.{whole_check}
use Rattle.move_record.specs.declared.MoveRecord.{MoveRecord}
use Rattle.roundtrip.specs.Records.{records_of, read_check}
use Rattle.roundtrip.specs.Promises.{WritesBack}
use Rattle.roundtrip.proofs.Back.{image_writes_back}
use Rattle.roundtrip.proofs.Few.{few_records_of}
use Rattle.std.specs.Prelude.{Ok, Err}
use Rattle.listing.specs.Found.{Found}

module _ (image : List ℕ) (room : ℕ) (kept : List MoveRecord) where
  -- the whole check refuses
  pub found_refused : (refusal : Refusal)
      → whole_check image ≡ refused (number_of refusal) (place_of refusal)
      → Found image room (Err refusal) kept
  unfolding read_check
  found_refused refusal e = record {
    outcome = rw e;
    count = λ whole. never (cc);
    records = λ whole. never (cc);
    fits = omega arith;
    few = omega arith;
    writes_back = λ whole. never (cc);
  }

  module _ (bytes : Bytes image) (whole : whole_check image ≡ accepted) where
    writes_back : whole_check image ≡ accepted → WritesBack image
    writes_back = image_writes_back image bytes

    -- the list is too short
    pub found_short : room < length (records_of image)
        → Found image room (Err TableTooShort) kept
    unfolding read_check
    found_short h = record {
      outcome = rw (whole, lt-ltb _ _ h);
      count = λ e. never (cc);
      records = λ e. never (cc);
      fits = omega arith;
      few = omega arith;
      writes_back = writes_back;
    }

    pub found-listed : (count : ℕ) → count ≡ length (records_of image) → take count kept ≡ records_of image
        → count ≤ room → Found image room (Ok count) kept
    unfolding read_check
    found-listed count counted records h = record {
      outcome = rw (whole, ← counted, le-ltb _ _ h);
      count = λ e. counted;
      records = λ e. records;
      fits = h;
      few = omega (arith, few_records_of image bytes whole);
      writes_back = writes_back;
    }
