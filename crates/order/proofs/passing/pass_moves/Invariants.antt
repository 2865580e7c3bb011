-- The loop's invariant: up to the two offsets the moves are the same.
use Rattle.common.proofs.Ground.{◌-◌, length}
use Rattle.order.specs.Passing.{Passed}
use Rattle.order.proofs.passing.pass_moves.Given as goal

abbrev pub invariant-moves : goal.invariant-moves
invariant-moves l = Passed l.first l.second l.initial.at l.initial.with l.at l.with

abbrev pub decreases-moves : goal.decreases-moves
decreases-moves l = length l.first - l.at
