-- Station by station the tables show the cells (`Finishing`, proofs/Finishing.antt), until all stations are written.
use Rattle.tables.proofs.Finishing.{Finishing}
use Rattle.tables.proofs.finish.Given as goal

abbrev pub invariant-loop-v : goal.invariant-loop-v
invariant-loop-v l = Finishing l.over l.cells l.v l.times l.moves l.preds l.reached
