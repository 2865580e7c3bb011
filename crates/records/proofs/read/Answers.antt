-- What was found is filled in, and what a reading that was filled in promises is promised (proofs/Filling.antt).
use Rattle.std.proofs.lemmas.Result.{err_from_is_err_and}
use Rattle.records.proofs.Filling.{listed_promised, refused_promised}
use Rattle.records.proofs.read.Goals as goal

pub returns-in_err-count : goal.returns-in_err-count
returns-in_err-count c =
    let left = err_from_is_err_and c.from_residual.result c.from_residual.ensures.1 in
    record {
      promised = rw (left.1, left.2) (refused_promised c.args.image.now c.args.list.now _ _ c.in_err-count.ensures.found);
    }

pub returns : goal.returns
returns c = record {
  promised = rw c.fill.ensures.filled (listed_promised c.args.image.now c.args.list.now _ _ c.in_ok-count.ensures.found);
}
