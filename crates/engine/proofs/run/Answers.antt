use Rattle.engine.proofs.Running.{run_start, run_more, nobody_ends, bad_ends}
use Rattle.engine.proofs.run.Goals as goal

pub loop-count-init : goal.loop-count-init
loop-count-init c = run_start c.requires.begun

pub loop-count-preserved : goal.loop-count-preserved
loop-count-preserved c =
    run_more _ c.loop-count.invariant (rw c.in-Ok-Some.field-0-is at c.in-Ok-Some.ensures.referred)

pub returns-in-Ok-None : goal.returns-in-Ok-None
returns-in-Ok-None c = record {
  ended = nobody_ends _ c.loop-count.invariant (rw c.in-Ok-None.field-0-is at c.in-Ok-None.ensures.referred);
}

pub returns-in-Err : goal.returns-in-Err
returns-in-Err c = record {
  ended = bad_ends _ c.loop-count.invariant c.refer.new.memory.cells _ c.in-Err.ensures.referred;
}
