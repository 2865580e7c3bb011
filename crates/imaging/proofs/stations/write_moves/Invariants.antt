-- The invariant: `Writing` (proofs/Moves.antt), of the run from the next record on. A record of the station is the
-- first move of that run; one of another station, and the end of the records, end it (proofs/Runs.antt).
use Rattle.common.proofs.Ground.{drop}
use Rattle.imaging.specs.Runs.{run_of}
use Rattle.imaging.proofs.Moves.{Writing}
use Rattle.imaging.proofs.stations.write_moves.Given as goal

abbrev pub invariant-loop-written : goal.invariant-loop-written
invariant-loop-written l =
    Writing l.initial.bytes l.from (run_of l.records l.station) l.bytes l.at l.written
    (run_of (drop l.written l.records) l.station)
