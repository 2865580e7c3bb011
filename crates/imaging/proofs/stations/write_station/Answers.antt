-- The station's command, and its moves behind it (proofs/Moves.antt).
use Rattle.common.proofs.Ground.{arith}
use Rattle.imaging.specs.Runs.{run_of}
use Rattle.imaging.proofs.Moves.{put_station}
use Rattle.imaging.proofs.stations.write_station.Goals as goal

pub returns-clause-put : goal.returns-clause-put
returns-clause-put c =
    put_station c.args.bytes.now c.args.from c.args.station (run_of c.args.records.now c.args.station)
    (omega (arith, c.requires.room)) _ c.put_command.ensures.put _ _
    (rw c.length_of.ensures.value at c.write_moves.ensures.put)
