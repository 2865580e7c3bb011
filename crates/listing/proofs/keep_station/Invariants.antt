-- The loop's invariant: what was kept of the station's records, and its moves that are left and stand at the offset
-- (proofs/Station.antt). The page that is read is the image's, so that the move found there is that of its bytes.
use Rattle.common.proofs.Ground.{◌-◌, length}
use Rattle.listing.proofs.Station.{KeepingStation}
use Rattle.listing.proofs.keep_station.Given as goal

abbrev pub invariant-loop-m : goal.invariant-loop-m
invariant-loop-m l = KeepingStation l.image l.p l.u l.first l.initial.kept l.at l.count l.kept

abbrev pub decreases-loop-m : goal.decreases-loop-m
decreases-loop-m l = length l.page - l.at
