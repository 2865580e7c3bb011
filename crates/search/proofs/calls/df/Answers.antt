-- The outcome is that of `search`, and what is promised holds of every outcome (proofs/Promising.antt).
use Rattle.common.proofs.Ground.{arith}
use Rattle.search.proofs.Promising.{df_promised_of}
use Rattle.search.proofs.calls.df.Goals as goal

pub returns : goal.returns
returns c = record {
  promised = df_promised_of _ _ (λ i. omega (arith, c.type_inv.image i)) _ c.search.ensures.outcome;
}
