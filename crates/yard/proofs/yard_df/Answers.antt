-- The numbers of a reply that is the definition's are small (proofs/Told.antt).
use Rattle.common.proofs.Ground.{true, arith}
use Rattle.yard.proofs.Told.{small_numbers}
use Rattle.yard.proofs.yard_df.Goals as goal

pub tell-requires : goal.tell-requires
tell-requires c = record {
  small = rw c.from.ensures (small_numbers true _ _ c.df-answered.ensures.promised.promised.outcome
      (λ i. omega (arith, c.type_inv.image i)));
}
