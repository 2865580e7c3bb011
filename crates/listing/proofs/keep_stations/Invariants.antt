-- The loop's invariant: the records of the stations that came are kept, and each page is read up to the others
-- (proofs/Stations.antt).
use Rattle.listing.proofs.Stations.{KeepingStations}
use Rattle.listing.proofs.keep_stations.Given as goal

abbrev pub invariant-loop-u : goal.invariant-loop-u
invariant-loop-u l = KeepingStations l.image l.offsets l.count l.u l.kept
