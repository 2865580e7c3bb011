-- The numbers of a reply that is the definition's are small (proofs/Told.antt).
use Rattle.common.proofs.Ground.{false, arith}
use Rattle.yard.proofs.Told.{small_numbers}
use Rattle.yard.proofs.yard_plain.Goals as goal

pub tell-requires : goal.tell-requires
tell-requires c = record {
  small = rw c.from.ensures (small_numbers false _ _ c.plain-answered.ensures.promised.outcome (λ i. omega (arith, c.type_inv.image i)));
}
