-- The numbers of an outcome that is promised are small.
use Rattle.yard.proofs.Small.{small_read}
use Rattle.yard.proofs.writer.yard_records.Goals as goal

pub tell-requires : goal.tell-requires
tell-requires c = record { small = rw c.from.ensures (small_read _ _ _ _ _ c.read-answered.ensures.promised) }
