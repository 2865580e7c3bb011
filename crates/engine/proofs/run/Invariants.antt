-- After each reference the engine stands as the net's run does (`RunSoFar`, proofs/Running.antt). The run ends where
-- nobody waits, or at a bad page, and that is the end of the search. It does end, as the net's run makes no more
-- references than there are stations. The tables keep their lengths.
use Rattle.common.proofs.Ground.{◌-◌, length}
use Rattle.image.specs.Image.{directory_of}
use Rattle.engine.proofs.Running.{RunSoFar}
use Rattle.engine.proofs.run.Given as goal

abbrev pub invariant-loop-count : goal.invariant-loop-count
invariant-loop-count l = RunSoFar l.query l.image l.count l.places l.layout l.memory l.initial.list l.list

abbrev pub decreases-loop-count : goal.decreases-loop-count
decreases-loop-count l = length (directory_of l.image) - l.count
