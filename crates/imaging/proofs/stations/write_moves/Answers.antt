use Rattle.common.proofs.Ground.{arith}
use Rattle.imaging.proofs.Runs.{run_own, run_other, run_none}
use Rattle.imaging.proofs.Moves.{writing_more, writing_room, writing_over}
use Rattle.imaging.proofs.stations.write_moves.Goals as goal

pub returns-then-given-station : goal.returns-then-given-station
returns-then-given-station c =
    let whole = writing_over (run_other c.args.records.now c.loop-written.written c.args.station
    c.loop-written-test.true c.if-given-station.true) c.loop-written.invariant in record {
      put = whole.0;
      written = whole.1;
      inside = omega arith;
    }

pub put_move-at-requires : goal.put_move-at-requires
put_move-at-requires c =
    let own_run = run_own c.args.records.now c.loop-written.written c.args.station c.loop-written-test.true c.if-given-station.false in
    record {
      room = writing_room _ _ own_run c.requires.room c.loop-written.invariant;
    }

pub loop-written-preserved : goal.loop-written-preserved
loop-written-preserved c =
    let own_run = run_own c.args.records.now c.loop-written.written c.args.station c.loop-written-test.true c.if-given-station.false in
    writing_more _ _ own_run c.requires.room c.loop-written.invariant _ _ c.put_move-at.ensures.put

pub returns : goal.returns
returns c =
    let whole = writing_over (run_none c.args.records.now c.loop-written.written c.args.station c.loop-written-test.false)
    c.loop-written.invariant in record {
      put = whole.0;
      written = omega (arith, whole.1, c.loop-written-test.false, c.loop-written.auto.written-end);
      inside = omega arith;
    }
