-- By what the tests say (proofs/Fit.antt).
use Rattle.common.proofs.Ground.{rules}
use Rattle.store.proofs.Fit.{answered_reads}
use Rattle.store.proofs.replay.Goals as goal

pub returns : goal.returns
returns c = record {
  promised = answered_reads _ _ _ _ _ (search rules) (search rules) (search rules) _ c.count_reads.ensures.value;
}
