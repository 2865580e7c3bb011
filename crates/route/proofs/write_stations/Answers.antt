use Rattle.route.proofs.Writing.{write_more, write_end}
use Rattle.route.proofs.write_stations.Goals as goal

pub loop-at-preserved : goal.loop-at-preserved
loop-at-preserved c = write_more c.loop-at.invariant c.loop-at-test.true c.predecessor_at-v.ensures.value

pub returns : goal.returns
returns c = record { written = write_end c.loop-at.invariant c.loop-at-test.false }
