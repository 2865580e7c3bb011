-- `route::count_stations` counts the chain's stations (proofs/Counting.antt).
use Rattle.route.proofs.Counting.{Counting}
use Rattle.route.proofs.count_stations.Given as goal

abbrev pub invariant-loop-passed : goal.invariant-loop-passed
invariant-loop-passed l = Counting l.preds l.station l.v l.passed
