-- What was found of an image is what the reading call promises of its list, with the records put at its front.
use Rattle.common.proofs.Ground.{refl, ap, ◌∙◌, List, ◌++◌, ℕ, length, take, drop}
use Rattle.std.specs.Prelude.{Ok, Err}
use Rattle.image.specs.declared.Refusal.{Refusal}
use Rattle.image.specs.Image.{accepted}
use Rattle.move_record.specs.declared.MoveRecord.{MoveRecord}
use Rattle.roundtrip.specs.Records.{records_of, listing, listed, read_call}
use Rattle.roundtrip.specs.Promises.{ReadPromised}
use Rattle.listing.specs.Found.{Found, outcome_in}

pub listed_promised : (image : List ℕ) (list : List MoveRecord) (count : ℕ) (kept : List MoveRecord)
    → Found image (length list) (Ok count) kept
    → ReadPromised image list
    (listing accepted count (take count kept ++ drop (length (take count kept)) list))
unfolding read_call
listed_promised image list count kept found = record {
  outcome =
      ap (λ l. listing accepted count (l ++ drop (length l) list)) (found.records refl) ∙
      ap (λ n. listing accepted n (records_of image ++ drop (length (records_of image)) list)) (found.count refl) ∙
      ap (λ o. listed o image list) found.outcome;
  few = found.few;
  writes_back = found.writes_back;
}

pub refused_promised : (image : List ℕ) (list : List MoveRecord) (refusal : Refusal) (kept : List MoveRecord)
    → Found image (length list) (Err refusal) kept
    → ReadPromised image list (listing (outcome_in (Err refusal)) 0 list)
unfolding read_call
refused_promised image list refusal kept found = record {
  outcome = ap (λ o. listed o image list) found.outcome;
  few = found.few;
  writes_back = found.writes_back;
}
