-- All records are left at the first station, since the image is wholly good.
use Rattle.common.proofs.Ground.{refl, arith}
use Rattle.by_station.proofs.Standing.{standing_begin}
use Rattle.by_station.proofs.Walk.new.Goals as goal

pub returns : goal.returns
returns c = record {
  image = refl;
  begin = rw c.length_of.ensures.value
      (standing_begin _ c.requires.whole (λ i. omega (arith, c.type_inv.image i)));
}
