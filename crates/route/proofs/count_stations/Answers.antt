use Rattle.route.proofs.Counting.{count_end, count_source, count_lost, count_onward}
use Rattle.common.proofs.Ground.{arith}
use Rattle.route.proofs.count_stations.Goals as goal

pub returns-then-before : goal.returns-then-before
returns-then-before c = record {
  count = count_source _ _ _ _ _ c.loop-passed.invariant (omega arith) c.predecessor_at-before.ensures.value
      c.if-before.true;
}

pub returns-then-preds-before : goal.returns-then-preds-before
returns-then-preds-before c = record {
  count = count_lost _ _ _ _ _ c.loop-passed.invariant (omega arith)
      c.predecessor_at-before.ensures.value c.if-before.false c.if-preds-before.true;
}

pub loop-passed-preserved : goal.loop-passed-preserved
loop-passed-preserved c =
    count_onward _ _ _ _ _ c.loop-passed.invariant (omega arith)
    c.predecessor_at-before.ensures.value c.if-before.false c.if-preds-before.false

pub returns : goal.returns
returns c = record { count = count_end _ _ _ _ 0 c.loop-passed.invariant (omega arith) }

pub returns-else-preds-before : goal.returns-else-preds-before
returns-else-preds-before c = record {
  count = count_end _ _ _ _ 0
      (count_onward _ _ _ _ _ c.loop-passed.invariant (omega arith)
      c.predecessor_at-before.ensures.value c.if-before.false c.if-preds-before.false)
      (omega arith);
}
