-- One more turn than stations, or one: by the flag.
use Rattle.common.proofs.Ground.{arith}
use Rattle.image.proofs.Heading.{formed}
use Rattle.reference.proofs.turns_of.Goals as goal

pub returns-then-df : goal.returns-then-df
returns-then-df c = record {
  value = simp c.if-df.true (omega (arith, c.station_count-n.ensures.value, (formed _ c.requires.formed).directory));
}
