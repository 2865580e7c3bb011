-- The outcome is that of `search`, and what is promised holds of every outcome (proofs/Promising.antt).
use Rattle.common.proofs.Ground.{false, arith}
use Rattle.search.proofs.Promising.{promised_of}
use Rattle.search.proofs.calls.plain.Goals as goal

pub returns : goal.returns
returns c = record {
  promised = promised_of _ _ (λ i. omega (arith, c.type_inv.image i)) false _ c.search.ensures.outcome;
}
