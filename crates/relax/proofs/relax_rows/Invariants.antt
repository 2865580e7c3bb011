-- The loop's invariant: the rows so far are relaxed (`Going`).
use Rattle.relax.proofs.Loop.{Going}
use Rattle.relax.proofs.relax_rows.Given as goal

abbrev pub invariant-loop-row : goal.invariant-loop-row
invariant-loop-row l = Going l.places l.rows l.u l.cost l.initial.memory l.row-index l.memory
