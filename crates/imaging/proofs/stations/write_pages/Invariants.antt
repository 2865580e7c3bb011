-- The invariant: `Filled` (proofs/Pages/Filling.antt), of the stations below u.
use Rattle.common.proofs.Ground.{length}
use Rattle.imaging.proofs.Pages.Filling.{Filled}
use Rattle.imaging.proofs.stations.write_pages.Given as goal

abbrev pub invariant-loop-u : goal.invariant-loop-u
invariant-loop-u l = Filled l.records l.directory (length l.fn.bytes) l.ends l.bytes l.left l.u
