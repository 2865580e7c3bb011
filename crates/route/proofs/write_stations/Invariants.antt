-- `route::write_stations` writes the trail from its end (proofs/Writing.antt).
use Rattle.route.proofs.Writing.{Writing}
use Rattle.route.proofs.write_stations.Given as goal

abbrev pub invariant-loop-at : goal.invariant-loop-at
invariant-loop-at l = Writing l.preds l.station l.count l.initial.out l.out l.v l.at
