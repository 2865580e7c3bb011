-- By what the whole check answers: refused, its refusal is the outcome; accepted, the image's records are kept, and the
-- list has room for them or not (proofs/Finding.antt).
use Rattle.common.proofs.Ground.{sym, arith}
use Rattle.std.proofs.lemmas.Result.{err_from_is_err_and}
use Rattle.image.specs.Bytes.{Bytes}
use Rattle.listing.proofs.Finding.{found_refused, found_short, found-listed}
use Rattle.listing.proofs.keep_records.Goals as goal

pub returns-in_err-check : goal.returns-in_err-check
returns-in_err-check c =
    let left = err_from_is_err_and c.from_residual.result c.from_residual.ensures.1 in
    record {
      found = rw (left.1, left.2) (found_refused _ _ _ _ (sym c.in_err-check.ensures.outcome));
    }

pub returns-then-room-count : goal.returns-then-room-count
returns-then-room-count c =
    let image_bytes : Bytes c.args.image.now = λ i. omega (arith, c.type_inv.image i) in
    record {
      found = found_short _ _ _ image_bytes (sym c.in_ok-check.ensures.outcome)
          (rw c.keep_stations-count.ensures.count at c.if-room-count.true);
    }

pub returns : goal.returns
returns c =
    let image_bytes : Bytes c.args.image.now = λ i. omega (arith, c.type_inv.image i) in
    record {
      found = found-listed _ _ _ image_bytes (sym c.in_ok-check.ensures.outcome) _
          c.keep_stations-count.ensures.count c.keep_stations-count.ensures.records c.if-room-count.false;
    }
