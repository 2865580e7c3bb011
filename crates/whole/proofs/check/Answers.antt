-- By what the check of the heading answers: accepted, it bounds the numbers of stations and pages, as the check of
-- the pages requires, and that check decides; refused, the refusal is the outcome.
use Rattle.common.proofs.Ground.{sym}
use Rattle.std.proofs.lemmas.Result.{err_from_is_err_and}
use Rattle.whole.specs.Check.{whole_check}
use Rattle.image.proofs.Heading.{formed}
use Rattle.whole.proofs.check.Goals as goal

pub returns-in_err-check_heading : goal.returns-in_err-check_heading
unfolding whole_check
returns-in_err-check_heading c =
    let left = err_from_is_err_and c.from_residual.result c.from_residual.ensures.1 in
    record { outcome = rw (left.1, left.2, ← c.in_err-check_heading.ensures.outcome) }

pub check_pages-requires : goal.check_pages-requires
check_pages-requires c =
    let image-formed = formed _ (sym c.in_ok-check_heading.ensures.outcome) in
    (image-formed.stations_most, image-formed.pages_most)

pub returns : goal.returns
unfolding whole_check
returns c = record { outcome = rw (← c.in_ok-check_heading.ensures.outcome) c.check_pages.ensures.outcome }
