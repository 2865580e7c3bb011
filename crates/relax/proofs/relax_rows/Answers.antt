use Rattle.relax.proofs.Loop.{going_more, going_end}
use Rattle.relax.proofs.relax_rows.Goals as goal

pub loop-row-preserved : goal.loop-row-preserved
loop-row-preserved c = going_more c.loop-row.invariant c.loop-row-test.true (rw c.from.ensures at c.offer.ensures.relaxed)

pub returns : goal.returns
returns c = record {
  relaxed = going_end c.loop-row.invariant c.loop-row-test.false;
}
