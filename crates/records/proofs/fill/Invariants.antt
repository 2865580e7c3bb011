-- After i turns the list has the first i of the records at its front.
use Rattle.common.proofs.Ground.{◌≡◌, ◌++◌, take, drop}
use Rattle.records.proofs.fill.Given as goal

abbrev pub invariant-loop-i : goal.invariant-loop-i
invariant-loop-i l = l.list ≡ take l.i l.records ++ drop l.i l.initial.list
