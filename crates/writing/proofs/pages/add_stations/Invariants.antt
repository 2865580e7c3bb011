-- The invariant: what is left of the directory, added to the sums as they are, gives what the whole of it gives.
use Rattle.common.proofs.Ground.{◌≡◌, drop}
use Rattle.writing.specs.Sums.{sums_from}
use Rattle.writing.proofs.pages.add_stations.Given as goal

abbrev pub invariant-loop-u : goal.invariant-loop-u
invariant-loop-u l =
    sums_from l.bytes l.u (drop l.u l.directory) l.sums ≡ sums_from l.bytes 0 l.directory l.initial.sums
