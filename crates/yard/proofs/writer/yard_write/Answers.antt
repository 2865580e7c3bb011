-- The numbers of an outcome that is promised are small.
use Rattle.yard.proofs.Small.{small_written}
use Rattle.yard.proofs.writer.yard_write.Goals as goal

pub tell-requires : goal.tell-requires
tell-requires c = record {
  small = rw c.from.ensures (small_written _ _ _ _ _ _ _ c.write-answered.ensures.promised);
}
